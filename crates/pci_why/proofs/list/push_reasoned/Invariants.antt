use Rattle.std.proofs.Common.{map, take}
use Rattle.std.specs.String.{string_bytes}
use Rattle.pci_spec.specs.Mark.{all_named}
use Rattle.pci_claims.specs.Values.{code_given_value, told_value}
use Rattle.pci_faults.specs.AllLines.{any_fault_value}
use Rattle.pci_why.specs.Rooms.{AreRoomsKept}
use Rattle.pci_why.specs.Lists.{AreReasonedTold}
use Rattle.pci_why.proofs.list.push_reasoned.Given as goal

abbrev pub invariant-loop-fault : goal.invariant-loop-fault
invariant-loop-fault g l = record {
  kept : AreRoomsKept (told_value l.judged.told.now) (code_given_value l.judged.given.now) l.judged.outline.now l.rooms.on.now l.rooms.io l.rooms.mem l.rooms.pref;
  told : AreReasonedTold (all_named l.judged.probe.now) (told_value l.judged.told.now) (code_given_value l.judged.given.now) l.judged.outline.now (map any_fault_value (take l.fault-index l.faults)) (string_bytes l.initial.text) (string_bytes l.text);
}
