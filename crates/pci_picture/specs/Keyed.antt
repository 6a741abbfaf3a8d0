-- The faults about some regions by their indexes, and the keys of regions.
use Rattle.std.specs.Prelude.{ℕ, Bool, false, ◌==◌, ◌+◌, Option, Some, None, List, [], ◌∷◌, map, if◌then◌else◌}
use Rattle.std.specs.List.{list_any}
use Rattle.std.specs.List.Sorted.{IsNonDecreasingBy, IsPermutation}
use Rattle.pci_picture.specs.Heights.{AddressRange}
use Rattle.pci_picture.specs.Said.{FaultSaid}
use Rattle.pci_picture.specs.declared.tellings.Index.{Index}
use Rattle.pci_picture.specs.declared.region.Region.{Region}

-- the indexes of the elements that pass a test. The first element has this index
abbrev pub indexes_from : {X : Type 0} → ℕ → (X → Bool) → List X → List ℕ
indexes_from index test [] = []
indexes_from index test (x ∷ xs) =
    if test x then index ∷ indexes_from (index + 1) test xs else indexes_from (index + 1) test xs

-- by rising key, the keys of some regions
pub record AreKeysOf (regions : List Region) (keys : List Index) : Type 0 where
  pub sorted : IsNonDecreasingBy (λ (one : Index). one.key) keys
  pub all : IsPermutation (map (λ region. region.key) regions) (map (λ (one : Index). one.key) keys)

-- a key is there, and is one of these
abbrev pub has_key : List Index → Option ℕ → Bool
has_key keys None = false
has_key keys (Some key) = list_any (λ (one : Index). one.key == key) keys

-- what a fault tells, where there is one
abbrev pub told_by_some : (FaultSaid → List AddressRange) → Option FaultSaid → List AddressRange
told_by_some tell None = []
told_by_some tell (Some fault) = tell fault
