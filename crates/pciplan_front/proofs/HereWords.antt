-- What the words of `here` say.
use Rattle.std.proofs.Common.{◌≡◌, ℕ, List, Option, None, Some, Bor, sym, ◌∙◌}
use Rattle.std.proofs.lemmas.Option.{none-some}
use Rattle.pci_here.specs.Place.{IsDomainWord}
use Rattle.pciplan_front.specs.HereAsked.{IsDomainOf}

-- the word is no domain
pub no_domain : (word : Bor (List ℕ)) (found : Option ℕ) → found ≡ None → ((domain : ℕ) → IsDomainWord word.now domain → found ≡ Some domain)
    → (domain : Option ℕ) → IsDomainOf (Some word) domain → ⊥
no_domain word found none only None is = is
no_domain word found none only (Some domain) is = none-some domain (sym none ∙ only domain is)
