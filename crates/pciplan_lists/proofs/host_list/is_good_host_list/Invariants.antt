use Rattle.std.proofs.Common.{◌≡◌, ℕ, ◌<◌, Some}
use Rattle.std.specs.Prelude.{slice_get}
use Rattle.pci_tree.specs.Roots.{buses_of}
use Rattle.pci_base.specs.declared.range.RootRange.{RootRange}
use Rattle.pciplan_lists.specs.HostLists.{IsGoodRange, MeetsEarlier}
use Rattle.pciplan_lists.proofs.host_list.is_good_host_list.Given as goal

abbrev pub invariant-loop-i : goal.invariant-loop-i
invariant-loop-i l = record {
  ranges : (i : ℕ) → i < l.i → (r : RootRange) → slice_get l.list i ≡ Some r → IsGoodRange (buses_of l.roots) r;
  apart : (i : ℕ) → i < l.i → MeetsEarlier l.list i → ⊥;
}
