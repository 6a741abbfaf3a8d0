-- The writes of a plan can stop anywhere.
use Rattle.std.proofs.Common.{inl, inr, sym, subst}
use Rattle.pci_spec.specs.Machine.{system_after}
use Rattle.plan_spec.specs.Planning.Safety.{IsSafe}
use Rattle.plan_spec.specs.Planning.PlanWrites.{olds, closing_writes, register_writes, opening_writes, plan_writes}
use Rattle.plan_spec.specs.Planning.Laws.{PlanCanStop}
use Rattle.plan_spec.proofs.Planning.Whole.{whole, once_closed}
use Rattle.plan_spec.proofs.Planning.Staging.{staged, fits}
use Rattle.plan_spec.proofs.Planning.Reached.{writes_reach}

pub plan_can_stop : PlanCanStop
plan_can_stop roots changes h nested profile chains sound k from =
    let s = olds changes in
    let closing = closing_writes changes in
    let registers = register_writes changes in
    let opening = opening_writes changes in
    let end : IsSafe roots (system_after s (plan_writes changes)) = subst (IsSafe roots) (sym (writes_reach changes h.system h.moved)) record { single = sound.single; home = sound.home } in
    elim from [
      | inl past ↦ once_closed roots s closing registers opening h.system nested profile chains (staged changes h.system h.moved) (fits changes h.system h.moved) end k past
      | inr start ↦ whole roots s closing registers opening h.system nested profile chains record { single = start.single; home = start.home } (staged changes h.system h.moved) (fits changes h.system h.moved) end k
    ]
