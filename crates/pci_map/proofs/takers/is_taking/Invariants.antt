use Rattle.std.proofs.Common.{◌≡◌, false, map, take}
use Rattle.judge_spec.specs.UnclaimedLaws.{is_taking}
use Rattle.pci_claims.specs.Values.{taking_value}
use Rattle.pci_map.proofs.takers.is_taking.Given as goal

abbrev pub invariant-loop-entry : goal.invariant-loop-entry
invariant-loop-entry l = is_taking (map taking_value (take l.entry-index l.given.unclaimed.now)) l.slot ≡ false
