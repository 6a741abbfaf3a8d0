-- Which functions and domains a machine has: those that the names of its folders tell.
use Rattle.std.specs.Prelude.{◌≡◌, ◌⊎◌, ◌↔◌, ℕ, List, [], ◌∷◌, Some}
use Rattle.std.specs.List.{Contains}
use Rattle.std.specs.List.Sorted.{IsPermutation, IsNonDecreasingBy, IsStrictlyIncreasing}
use Rattle.pci_here.specs.Place.{FunctionPlace, IsPlaceName, function_place_number}
use Rattle.pci_here.specs.Shown.{Shown, IsNotHad}
use Rattle.pci_here.specs.declared.trouble.Trouble.{Trouble}
use Rattle.pci_here.specs.declared.trouble.Trouble.TheVariants.{Unread}

-- one of the names tells the place, which is of the domain
pub record IsPlaceNamed (names : List (List ℕ)) (domain : ℕ) (p : FunctionPlace) : Type 0 where
  pub name : List ℕ
  pub has : Contains names name
  pub is : IsPlaceName name p
  pub of_domain : p.domain ≡ domain

-- a name that tells no place of the domain
abbrev pub IsOfNoPlace : List ℕ → ℕ → Type 0
IsOfNoPlace name domain = (p : FunctionPlace) → IsPlaceName name p → p.domain ≡ domain → ⊥

-- the places of the domain that some names tell, in the order of the names
abbrev pub ArePlacesOfNames : List (List ℕ) → ℕ → List FunctionPlace → Type 0
ArePlacesOfNames [] domain places = places ≡ []
ArePlacesOfNames (name ∷ names) domain places =
    ((p : FunctionPlace) × (more : List FunctionPlace) × IsPlaceName name p × (p.domain ≡ domain)
    × ArePlacesOfNames names domain more × (places ≡ p ∷ more))
    ⊎ (IsOfNoPlace name domain × ArePlacesOfNames names domain places)

-- the places of a domain, by slot
pub record ArePlacesOf (m : Shown) (domain : ℕ) (places : List FunctionPlace) : Type 0 where
  pub names : List (List ℕ)
  pub are_names : m.names ≡ Some names
  pub named : List FunctionPlace
  pub are_named : ArePlacesOfNames names domain named
  pub same : IsPermutation named places
  pub rising : IsNonDecreasingBy function_place_number places

-- one of the names tells a place of the domain
abbrev pub IsDomainNamed : List (List ℕ) → ℕ → Type 0
IsDomainNamed names domain = (p : FunctionPlace) × IsPlaceNamed names domain p

-- the domains in a list are exactly those of the places that the names tell
abbrev pub AreDomainsIn : List (List ℕ) → List ℕ → Type 0
AreDomainsIn names domains = (d : ℕ) → Contains domains d ↔ IsDomainNamed names d

-- the domains in which a machine has functions
pub record AreDomainsOf (m : Shown) (domains : List ℕ) : Type 0 where
  pub names : List (List ℕ)
  pub are_names : m.names ≡ Some names
  pub each : AreDomainsIn names domains
  pub rising : IsStrictlyIncreasing domains

-- why no domains are had: the names aren't, or none of them tells a place
abbrev pub HasNoDomains : Shown → Trouble → Type 0
HasNoDomains m t =
    IsNotHad m.names t
    ⊎ ((t ≡ Unread) × (names : List (List ℕ)) × (m.names ≡ Some names) × ((d : ℕ) → IsDomainNamed names d → ⊥))
