use Rattle.std.proofs.Common.{◌≡◌, map, take}
use Rattle.pci_claims.specs.Values.{taking_value}
use Rattle.pci_claims.proofs.taking.all_lent.Given as goal

abbrev pub invariant-loop-bridge : goal.invariant-loop-bridge
invariant-loop-bridge g l = map taking_value l.out.items ≡ take l.bridge-index l.taking
