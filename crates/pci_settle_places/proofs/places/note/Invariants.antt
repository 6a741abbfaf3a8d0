use Rattle.std.proofs.Common.{◌-◌, length}
use Rattle.pci_settle_places.proofs.Notes.{AreNoted}
use Rattle.pci_settle_places.proofs.places.note.Given as goal

abbrev pub invariant-loop-done : goal.invariant-loop-done
invariant-loop-done l = AreNoted l.candidates l.firsts l.initial.table l.table (length l.candidates - l.done)
