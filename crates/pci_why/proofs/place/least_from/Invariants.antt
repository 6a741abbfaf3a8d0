use Rattle.std.proofs.Common.{ℕ, ◌≤◌, take}
use Rattle.pci_tree.specs.Ranges.{Covers, IsCanonical}
use Rattle.pci_why.specs.Places.{IsPlaceReached}
use Rattle.pci_why.proofs.place.least_from.Given as goal

abbrev pub invariant-loop-range : goal.invariant-loop-range
invariant-loop-range l = IsCanonical l.ranges → (p : ℕ) → l.from ≤ p → IsPlaceReached l.ranges l.count l.end p → Covers (take l.range-index l.ranges) p → ⊥
