-- What a bridge passes.
use Rattle.std.specs.Prelude.{ℕ, ◌+◌, ◌<◌, ◌≤◌, ◌⊎◌, ◌↔◌, Bool, nat_le, max, min, List, [], ◌∷◌, Option, None, Some}
use Rattle.pci_base.specs.declared.range.Range.{Range}
use Rattle.pci_tree.specs.declared.forwarded.Forwarded.{Forwarded}
use Rattle.pci_tree.specs.declared.forwarded.Forwarded.TheVariants.{Nothing, One, Two}
use Rattle.pci_tree.specs.Ranges.{Holds, Covers, IsCanonical}

-- the address passes
abbrev pub Passes : Forwarded → ℕ → Type 0
Passes Nothing a = ⊥
Passes (One r) a = Holds r a
Passes (Two r s) a = Holds r a ⊎ Holds s a

-- no range is empty, and two have an address between them
abbrev pub IsPassed : Forwarded → Type 0
IsPassed Nothing = Unit {0}
IsPassed (One r) = r.first ≤ r.last
IsPassed (Two r s) = (r.first ≤ r.last) × (s.first ≤ s.last) × (r.last + 1 < s.first)

-- the ranges of what passes
abbrev pub ranges_of : Forwarded → List Range
ranges_of Nothing = []
ranges_of (One r) = r ∷ []
ranges_of (Two r s) = r ∷ s ∷ []

-- two ranges have an address in common
abbrev pub has_common : Range → Range → Bool
has_common r s = nat_le (max r.first s.first) (min r.last s.last)

-- there is a range, and it has the address
abbrev pub HoldsSome : Option Range → ℕ → Type 0
HoldsSome None a = ⊥
HoldsSome (Some r) a = Holds r a

-- a list that has some more addresses
pub record IsPush (old new : List Range) (more : ℕ → Type 0) : Type 0 where
  pub canonical : IsCanonical new
  pub exact : (a : ℕ) → Covers new a ↔ (Covers old a ⊎ more a)

-- the addresses of a list that pass
pub record IsReach (rs : List Range) (forwarded : Forwarded) (out : List Range) : Type 0 where
  pub canonical : IsCanonical out
  pub exact : (a : ℕ) → Covers out a ↔ (Covers rs a × Passes forwarded a)
