use Rattle.std.proofs.Common.{sym, subst}
use Rattle.pciplan_c.specs.SettleAnswers.{IsAskedWith}
use Rattle.pciplan_c.proofs.ToldParts.{asked_with}
use Rattle.pciplan_c.proofs.settling.asked_with.Goals as goal

pub returns-clause-asked : goal.returns-clause-asked
returns-clause-asked g c = λ buses same.
    subst (λ asked. IsAskedWith buses c.args.dump.now c.args.probe.now c.args.words.now asked) (sym c.with_told.ensures)
    (asked_with buses c.args.dump.now c.args.probe.now c.args.words.now c.in-Ok.asked c.in-Ok-told_of.told c.in-Ok.ensures.asked (c.in-Ok-told_of.ensures.told buses same))
