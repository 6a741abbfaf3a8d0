use Rattle.std.proofs.Common.{◌≡◌, ℕ, ◌<◌, Some}
use Rattle.std.specs.Prelude.{slice_get}
use Rattle.pci_base.specs.declared.range.RootRange.{RootRange}
use Rattle.pciplan_lists.specs.HostLists.{RangesMeet}
use Rattle.pciplan_lists.proofs.host_list.meets_earlier.Given as goal

abbrev pub invariant-loop-k : goal.invariant-loop-k
invariant-loop-k l = (k : ℕ) → k < l.k → (one other : RootRange) → slice_get l.list k ≡ Some one
    → slice_get l.list l.index ≡ Some other → RangesMeet one other → ⊥
