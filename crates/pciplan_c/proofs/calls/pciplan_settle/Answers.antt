use Rattle.std.proofs.Common.{rules, arith, ◌≡◌, ◌≤◌, refl, sym, subst}
use Rattle.pciplan_c.specs.Endings.{IsEnding, IsNoneTold, IsNoneTooLong, lent}
use Rattle.pciplan_c.specs.SettleAnswers.{AreSettledSome, IsNoSettlingOf}
use Rattle.pciplan_c.specs.declared.ending.Ending.{Ending}
use Rattle.pciplan_c.specs.declared.ending.Ending.TheVariants as ends
use Rattle.pciplan_c.proofs.calls.pciplan_settle.Goals as goal

pub returns-in-Err-HeldBack-Line-clause-enough : goal.returns-in-Err-HeldBack-Line-clause-enough
returns-in-Err-HeldBack-Line-clause-enough c short enough =
    let long : IsNoneTooLong (IsNoSettlingOf c.args.roots.now c.args.dump.now c.args.probe.now c.args.words.now) c.args.line.now c.in-Err-HeldBack-Line.needed = search rules in
    let few : c.in-Err-HeldBack-Line.needed ≤ 96 = search rules in
    let more = long.more in
    absurd (let impossible : ⊥ = omega (arith, few, more, enough) in impossible)

pub returns-in-Err-HeldBack-Memory-clause-wanted : goal.returns-in-Err-HeldBack-Memory-clause-wanted
returns-in-Err-HeldBack-Memory-clause-wanted c = λ is.
    c.in-Err-HeldBack-Memory.ensures.memory (cc (c.in-Err-HeldBack-Memory.field-0-is, c.in-Err-HeldBack-Memory.field-0-0-is))

pub returns-in-NoWrites-clause-told : goal.returns-in-NoWrites-clause-told
returns-in-NoWrites-clause-told c = λ either.
    let IsWhy = IsNoSettlingOf c.args.roots.now c.args.dump.now c.args.probe.now c.args.words.now in
    let AreSo = AreSettledSome c.args.roots.now c.args.dump.now c.args.probe.now c.args.words.now in
    let is : c.in-Ok.field-0.ending ≡ ends.NoWrites c.in-NoWrites.why c.in-NoWrites.used = c.in-NoWrites.is in
    let told = subst (λ (ending : Ending). IsEnding AreSo IsWhy (lent c.args.writes.now c.args.line.now) (lent c.settle_into.new.writes c.settle_into.new.line) ending)
    is c.in-Ok.ensures.ending in
    (subst (λ status. IsNoneTold IsWhy status c.args.line.now c.settle_into.new.line c.in-NoWrites.used) (sym c.status.ensures) told.0, told.1, refl)
