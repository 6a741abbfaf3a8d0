use Rattle.std.proofs.Common.{take, ◌≡◌, ◌≤◌}
use Rattle.std.specs.List.{All}
use Rattle.pci_claims.proofs.find.region_of.Given as goal

abbrev pub invariant-loop-region : goal.invariant-loop-region
invariant-loop-region g l = All (λ q. q.reg ≡ l.reg → q.first ≤ q.last → ⊥) (take l.region-index l.region-items)
