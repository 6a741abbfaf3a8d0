use Rattle.std.proofs.Common.{◌≡◌, ◌++◌, drop}
use Rattle.pci_claims.specs.Gaps.{gaps}
use Rattle.pci_claims.proofs.gaps.free_runs.Given as goal

abbrev pub invariant-loop-claim : goal.invariant-loop-claim
invariant-loop-claim g l =
    l.out.items ++ gaps l.range l.from (drop l.claim-index l.claimed) ≡ gaps l.range 0 l.claimed
