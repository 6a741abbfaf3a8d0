use Rattle.std.proofs.Common.{◌≡◌, ◌++◌, map, take}
use Rattle.pci_plan.specs.Writes.{write_value}
use Rattle.pci_plan.proofs.Starts.{shown_at}
use Rattle.pci_plan.proofs.start.add_shown.Given as goal

abbrev pub invariant-loop-register : goal.invariant-loop-register
invariant-loop-register g l =
    map write_value l.all.items ≡ map write_value l.initial.all.items ++ map (shown_at l.block) (map (λ r. (r.offset, r.width)) (take l.register-index l.register-items))
