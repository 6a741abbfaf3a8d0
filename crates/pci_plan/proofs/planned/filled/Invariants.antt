use Rattle.std.proofs.Common.{map, take}
use Rattle.plan_spec.specs.Planning.Numbers.{new_number}
use Rattle.pci_image.specs.declared.register.Register.{Register}
use Rattle.pci_plan.specs.Fillings.{FillingOf}
use Rattle.pci_plan.proofs.FilledImages.{ArePut}
use Rattle.pci_plan.proofs.planned.filled.Given as goal

abbrev pub invariant-loop-register : goal.invariant-loop-register
invariant-loop-register l =
    (of : FillingOf l.filling)
    → ArePut (take l.register-index (map (λ (r : Register). (r.offset, r.width)) l.register-items)) (new_number of.roots of.system of.pools of.function) of.function.image l.image.0
