use Rattle.std.proofs.Common.{◌≡◌, ◌++◌, map, take}
use Rattle.pci_faults.specs.Clashes.{claims_clash}
use Rattle.pci_faults.proofs.clash_lines.add_told.Given as goal

abbrev pub invariant-loop-share : goal.invariant-loop-share
invariant-loop-share g l = l.out.items ≡ l.fn.out.items ++ map (claims_clash l.bus l.space l.claims) (take l.share-index l.shares)
