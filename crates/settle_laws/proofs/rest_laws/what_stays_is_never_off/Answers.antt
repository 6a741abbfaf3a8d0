use Rattle.std.proofs.Common.{inl, inr}
use Rattle.settle_spec.specs.Keeping.Registers.{settled_function}
use Rattle.settle_spec.proofs.Grown.{growth_keeps}
use Rattle.settle_laws.proofs.GrowingKept.{growing_stands}
use Rattle.settle_laws.proofs.OnlyOpened.{only_opened}
use Rattle.settle_laws.proofs.Resting.{keeps_registers, written_on, has_all, has_itself}
use Rattle.settle_laws.proofs.Staying.{stays_or_settles}
use Rattle.settle_laws.proofs.StayingRests.{part_rests, staying_rests, staying_unshut}
use Rattle.settle_laws.proofs.Keeping.Kept.{stays_stands}
use Rattle.settle_laws.proofs.Keeping.Moves.{are_settling}
use Rattle.settle_laws.proofs.rest_laws.what_stays_is_never_off.Goals as goal

pub returns-clause-kept : goal.returns-clause-kept
returns-clause-kept c = λ q s. (λ r is. growing_stands q s r (growth_keeps q s r is), growing_stands q s)

pub returns-clause-writes : goal.returns-clause-writes
returns-clause-writes c = λ q s k system nested kept f listed alone w has same. (only_opened q s k system f listed (keeps_registers q s k system nested kept f listed alone) w has same, written_on q s k system nested kept f listed alone)

pub returns-clause-stops : goal.returns-clause-stops
returns-clause-stops c = λ q s k can f listed alone n.
    let kept = stays_stands q s k can in
    elim (stays_or_settles q s k (are_settling q s k can) f listed (keeps_registers q s k can.system can.nested kept f listed alone) n) [
      | inl same ↦ (f, same, has_itself q s k can.system can.nested kept f listed alone)
      | inr new ↦ (settled_function q s k f, new, has_all q s k can.system can.nested kept f listed alone)
    ]

pub returns-clause-rests : goal.returns-clause-rests
returns-clause-rests c = part_rests

pub returns-clause-moves : goal.returns-clause-moves
returns-clause-moves c = staying_rests

pub returns-clause-unshut : goal.returns-clause-unshut
returns-clause-unshut c = staying_unshut
