use Rattle.std.proofs.Common.{take, ◌≡◌}
use Rattle.std.specs.List.{All}
use Rattle.pci_map.proofs.asides.at_register.Given as goal

abbrev pub invariant-loop-region : goal.invariant-loop-region
invariant-loop-region l = All (λ q. q.reg ≡ l.reg → ⊥) (take l.region-index l.regions)
