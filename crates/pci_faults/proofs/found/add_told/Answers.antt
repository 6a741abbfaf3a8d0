use Rattle.std.proofs.Common.{◌≡◌, List, Option, get_or, map, arith, ◌∙◌, ap, subst}
use Rattle.pci_function.specs.declared.fault.Fault.{Fault}
use Rattle.pci_function.specs.Fault.{fault_of}
use Rattle.pci_faults.proofs.Lists.{told_push, told_skip}
use Rattle.pci_faults.proofs.found.add_told.Goals.{in-Some+in_ok-push, in_default}
use Rattle.pci_faults.proofs.found.add_told.Goals as goal

pub loop-fault-preserved : goal.loop-fault-preserved
loop-fault-preserved g c =
    let old = map fault_of c.args.found.now.items in
    let faults : List (Option Fault) = c.args.faults.now in
    let i = c.loop-fault.fault-index in
    elim c.match-fault.branch [
      | in-Some+in_ok-push w ↦
          ap (λ v. map fault_of v.items) w.found-is ∙ ap (λ xs. map fault_of xs) w.in_ok-push.ensures.items
          ∙ told_push old c.loop-fault.found.items faults i w.in-Some.fault (omega arith) (subst (λ (o : Option Fault). o ≡ get_or faults i o) w.in-Some.is c.fault-item.is) c.loop-fault.invariant
      | in_default w ↦
          ap (λ v. map fault_of v.items) w.found-is ∙ c.loop-fault.invariant ∙ told_skip old faults i (omega arith) (subst (λ (o : Option Fault). o ≡ get_or faults i o) w.in_default.is c.fault-item.is)
    ]
