use Rattle.pci_claims.specs.Values.{code_given_value, told_value}
use Rattle.pci_why.specs.Rooms.{AreRoomsKept}
use Rattle.test_judging.proofs.reasons.told.Given as goal

abbrev pub invariant-loop-named : goal.invariant-loop-named
invariant-loop-named l = record {
  kept : AreRoomsKept (told_value l.judged.told.now) (code_given_value l.judged.given.now) l.judged.outline.now
      l.rooms.on.now l.rooms.io l.rooms.mem l.rooms.pref;
}
