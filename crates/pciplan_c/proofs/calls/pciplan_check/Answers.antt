use Rattle.std.proofs.Common.{rules, arith, ◌≤◌}
use Rattle.pciplan_c.specs.Answers.{IsTooLong}
use Rattle.pciplan_c.proofs.calls.pciplan_check.Goals as goal

pub returns-in-Err-NoRoom-clause-enough : goal.returns-in-Err-NoRoom-clause-enough
returns-in-Err-NoRoom-clause-enough c enough =
    let long : IsTooLong c.args.roots.now c.args.dump.now c.args.probe.now c.args.line.now c.in-Err-NoRoom.needed = search rules in
    let few : c.in-Err-NoRoom.needed ≤ 96 = search rules in
    let more = long.more in
    absurd (let impossible : ⊥ = omega (arith, few, more, enough) in impossible)
