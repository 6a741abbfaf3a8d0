use Rattle.std.proofs.Common.{◌≤◌}
use Rattle.std.specs.List.{AllWithin}
use Rattle.std.specs.Prelude.{length}
use Rattle.pci_spec.specs.Slot.{slot_number}
use Rattle.pci_base.specs.Space.{space_of}
use Rattle.pci_settle_places.proofs.AnsweringFunctions.{HasNoneTo}
use Rattle.pci_settle_places.proofs.answering.is_answering.Given as goal

abbrev pub invariant-loop-index : goal.invariant-loop-index
invariant-loop-index l = record {
  to : l.index ≤ length l.ranges;
  after : AllWithin (λ r. slot_number l.slot ≤ slot_number r.slot) l.ranges l.index (length l.ranges);
  none : HasNoneTo l.ranges l.answering.standing.now (space_of l.space) l.slot l.index;
}
