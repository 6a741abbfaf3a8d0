use Rattle.std.proofs.Common.{◌≡◌, ◌∷◌, [], ◌++◌, sym, ◌∙◌, ap, subst}
use Rattle.pci_here.specs.Place.{FunctionPlace}
use Rattle.pci_here.specs.Places.{ArePlacesOfNames}
use Rattle.pci_here.proofs.Named.{named_same, named_more}
use Rattle.pci_here.proofs.places.add_place.Goals as goal

pub returns-in_default : goal.returns-in_default
returns-in_default c = λ names was. named_same names c.args.name.now c.args.domain c.args.places.now.items
    (λ p is of_domain. let same = c.in-Some.ensures.only p is in
    let place : c.in-Some.place ≡ p = cc same in
    c.if-place-domain.false (ap (λ (q : FunctionPlace). q.domain) c.place.view_is ∙ ap (λ (q : FunctionPlace). q.domain) place ∙ of_domain)) was

pub returns-in_default-2 : goal.returns-in_default-2
returns-in_default-2 c = λ names was. named_same names c.args.name.now c.args.domain c.args.places.now.items
    (λ p is of_domain. let none = c.place_of.ensures.only p is in absurd (cc (none, c.in_default.is))) was

pub returns-in_ok-push-in-Some : goal.returns-in_ok-push-in-Some
returns-in_ok-push-in-Some c = λ names was.
    subst (λ l. ArePlacesOfNames (names ++ c.args.name.now ∷ []) c.args.domain l) (sym c.in_ok-push-in-Some.ensures.items)
    (named_more names c.args.name.now c.args.domain c.args.places.now.items c.in-Some.place c.in-Some.ensures.name (sym (ap (λ (q : FunctionPlace). q.domain) c.place.view_is) ∙ c.if-place-domain.true) was)
