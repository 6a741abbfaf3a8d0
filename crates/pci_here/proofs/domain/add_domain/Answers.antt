use Rattle.std.proofs.Common.{◌∷◌, [], ◌++◌, sym, ◌∙◌, ap, subst}
use Rattle.pci_here.specs.Place.{FunctionPlace}
use Rattle.pci_here.specs.Places.{AreDomainsIn}
use Rattle.pci_here.proofs.Named.{domain_same, domain_more}
use Rattle.pci_here.proofs.domain.add_domain.Goals as goal

pub returns-in-None : goal.returns-in-None
returns-in-None c = λ names was. domain_same names c.args.name.now c.args.domains.now.items (λ p is. let none = c.in-None.ensures.only p is in absurd (cc none)) was

pub returns-in_ok-push-in-Some : goal.returns-in_ok-push-in-Some
returns-in_ok-push-in-Some c = λ names was.
    subst (λ l. AreDomainsIn (names ++ c.args.name.now ∷ []) l) (sym (c.in_ok-push-in-Some.ensures.items ∙ ap (λ (p : FunctionPlace). c.args.domains.now.items ++ p.domain ∷ []) c.place.view_is))
    (domain_more names c.args.name.now c.args.domains.now.items c.in-Some.place c.in-Some.ensures.name
    (λ p is. let same = c.in-Some.ensures.only p is in cc same) was)
