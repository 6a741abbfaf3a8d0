use Rattle.std.proofs.Common.{◌≡◌, ◌+◌, drop}
use Rattle.pci_map.specs.Walk.{ahead}
use Rattle.pci_map.proofs.walk.count_before.Given as goal

abbrev pub invariant-loop-run : goal.invariant-loop-run
invariant-loop-run l = record {
  counted : l.count ≡ l.run-index;
  so : l.count + ahead l.end (drop l.run-index l.runs) ≡ ahead l.end l.runs;
}
