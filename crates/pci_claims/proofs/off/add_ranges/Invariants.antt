use Rattle.std.proofs.Common.{◌≤◌, map}
use Rattle.std.specs.List.{All, AllWithin}
use Rattle.std.specs.Prelude.{length}
use Rattle.pci_spec.specs.Slot.{slot_number}
use Rattle.pci_claims.specs.Values.{told_value}
use Rattle.pci_claims.specs.Off.{off_value, HasOffLine}
use Rattle.pci_claims.proofs.OffParts.{AreAddedTo}
use Rattle.pci_claims.proofs.off.add_ranges.Given as goal

abbrev pub invariant-loop-i : goal.invariant-loop-i
invariant-loop-i g l = record {
  to : l.i ≤ length l.ranges;
  after : AllWithin (λ r. slot_number l.slot ≤ slot_number r.slot) l.ranges l.i (length l.ranges);
  parts : AreAddedTo (told_value l.told) l.on l.slot l.i (map off_value l.initial.off.items) (map off_value l.off.items);
  lines : All HasOffLine l.off.items;
}
