use Rattle.std.proofs.Common.{List, ◌∙◌, subst}
use Rattle.std.proofs.lemmas.Result.{IfOk-weaker}
use Rattle.judge_spec.specs.Told.{ToldRange}
use Rattle.pci_tree.specs.Roots.{buses_of}
use Rattle.pci_claims.specs.Values.{code_given_value, told_value}
use Rattle.pciplan_tasks.specs.Answers.{answer_of}
use Rattle.pciplan_tasks.specs.ToldAnswers.{AreAsleepFor}
use Rattle.pciplan_tasks.proofs.Saying.{said_is, map_said}
use Rattle.pciplan_tasks.proofs.mapping.map_by.Goals as goal

pub returns-in-None : goal.returns-in-None
returns-in-None g c =
    let said = c.said_by-said.result in
    let asleep = c.in_ok-asleep.asleep.items in
    let beside = c.args.beside.now in
    let is = said_is beside c.args.dump.now c.args.probe.now (told_value said.told) (code_given_value said.given) said.roots said.taking.now c.in_ok-bridges.bridges asleep c.in_ok-bridges.ensures
    (subst (λ (rs : List ToldRange). AreAsleepFor rs beside.words c.args.dump.now c.args.probe.now asleep) c.ranges-ranges.ensures.value c.in_ok-asleep.ensures)
    c.said_by-said.ensures.ranges (c.said_by-said.ensures.asleep ∙ c.deref.ensures.value) c.said_by-said.ensures.given c.said_by-said.ensures.roots c.said_by-said.ensures.taking in
    IfOk-weaker c.map_pair.result _ _
    (λ reply means. map_said beside c.args.dump.now c.args.probe.now c.args.dump.now c.args.probe.now (told_value said.told) (code_given_value said.given) (buses_of said.roots) said.taking.now (answer_of reply) is (rw c.in-None.is at c.in_ok-taken.ensures) means)
    c.map_pair.ensures

pub returns : goal.returns
returns g c =
    let said = c.said_by-said.result in
    let asleep = c.in_ok-asleep.asleep.items in
    let beside = c.args.beside.now in
    let is = said_is beside c.args.dump.now c.args.probe.now (told_value said.told) (code_given_value said.given) said.roots said.taking.now c.in_ok-bridges.bridges asleep c.in_ok-bridges.ensures
    (subst (λ (rs : List ToldRange). AreAsleepFor rs beside.words c.args.dump.now c.args.probe.now asleep) c.ranges-ranges.ensures.value c.in_ok-asleep.ensures)
    c.said_by-said.ensures.ranges (c.said_by-said.ensures.asleep ∙ c.deref.ensures.value) c.said_by-said.ensures.given c.said_by-said.ensures.roots c.said_by-said.ensures.taking in
    IfOk-weaker c.map_pair-in-Some.result _ _
    (λ reply means. map_said beside c.args.dump.now c.args.probe.now c.in-Some.taken.dump c.in-Some.taken.probe (told_value said.told) (code_given_value said.given) (buses_of said.roots) said.taking.now (answer_of reply) is (rw c.in-Some.is at c.in_ok-taken.ensures) means)
    c.map_pair-in-Some.ensures
