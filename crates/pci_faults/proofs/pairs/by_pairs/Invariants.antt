use Rattle.std.proofs.Common.{length}
use Rattle.pci_faults.specs.Shares.{AreWithin}
use Rattle.pci_faults.specs.Clashes.{AreMeetingsBelow}
use Rattle.pci_faults.proofs.pairs.by_pairs.Given as goal

abbrev pub invariant-loop-i : goal.invariant-loop-i
invariant-loop-i g l = record {
  within : AreWithin (length l.claims) l.out.items;
  exact : AreMeetingsBelow l.among l.i l.claims l.out.items;
}
