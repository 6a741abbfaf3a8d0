-- Sets of root buses.
use Rattle.std.specs.Prelude.{ℕ, ◌<◌, false, Bool, List, length, slice_index_or}
use Rattle.std.specs.List.{filter, range_with_len}
use Rattle.std.specs.List.Sorted.{IsStrictlyIncreasing}
use Rattle.pci_tree.specs.declared.roots.Roots.{Roots}

-- the buses whose flags are set, in rising order
unfoldable pub set_in : List Bool → List ℕ
set_in flags = filter (λ bus. slice_index_or flags bus false) (range_with_len 0 256)

-- the root buses, in rising order
abbrev pub buses_of : Roots → List ℕ
buses_of roots = set_in roots.flags

-- the buses rise, and there is one
pub record IsRootList (buses : List ℕ) : Type 0 where
  pub some : 0 < length buses
  pub rising : IsStrictlyIncreasing buses
