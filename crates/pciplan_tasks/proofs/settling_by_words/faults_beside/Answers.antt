use Rattle.std.proofs.Common.{List, ◌∙◌, subst, map}
use Rattle.judge_spec.specs.Told.{ToldRange}
use Rattle.judge_spec.specs.UnclaimedLaws.{with_taking}
use Rattle.pci_tree.specs.Roots.{buses_of}
use Rattle.pci_claims.specs.Values.{code_given_value, told_value}
use Rattle.pci_faults.specs.AllLines.{any_fault_value}
use Rattle.pci_faults.specs.Every.{AreSoundAsTold}
use Rattle.pciplan_tasks.specs.ToldAnswers.{AreAsleepFor}
use Rattle.pciplan_tasks.specs.WordsSettling.{beside_said}
use Rattle.pciplan_tasks.proofs.ByWords.{faults_are}
use Rattle.pciplan_tasks.proofs.Faults.{none_of_items}
use Rattle.pciplan_tasks.proofs.Saying.{said_is}
use Rattle.pciplan_tasks.proofs.settling_by_words.faults_beside.Goals as goal

pub returns-in-None : goal.returns-in-None
returns-in-None g c =
    let said = c.said_beside-said.result in
    let asleep = c.in_ok-asleep.asleep.items in
    let beside = beside_said c.args.request.now in
    let found = c.in_ok-found-in-None.found in
    let ensured = c.in_ok-found-in-None.ensures in
    let is = said_is beside c.args.dump.now c.args.probe.now (told_value said.told) (code_given_value said.given) said.roots said.taking.now c.in_ok-bridges.bridges asleep c.in_ok-bridges.ensures
    (subst (λ (rs : List ToldRange). AreAsleepFor rs beside.words c.args.dump.now c.args.probe.now asleep) c.ranges-ranges.ensures.value c.in_ok-asleep.ensures)
    c.said_beside-said.ensures.ranges (c.said_beside-said.ensures.asleep ∙ c.deref.ensures.value) c.said_beside-said.ensures.given c.said_beside-said.ensures.roots c.said_beside-said.ensures.taking in
    faults_are beside c.args.dump.now c.args.probe.now c.args.dump.now c.args.probe.now (told_value said.told) (code_given_value said.given) (buses_of said.roots) said.taking.now found.taking.items (map any_fault_value found.faults.items) is
    (rw c.in-None.is at c.in_ok-taken.ensures) record { judged = ensured.taken; unjudged = ensured.untaken } ensured.all
    (none_of_items any_fault_value found.faults.items (AreSoundAsTold (told_value said.told) (with_taking found.taking.items (code_given_value said.given)) (buses_of said.roots) c.args.dump.now c.args.probe.now) ensured.none)

pub returns : goal.returns
returns g c =
    let said = c.said_beside-said.result in
    let asleep = c.in_ok-asleep.asleep.items in
    let beside = beside_said c.args.request.now in
    let found = c.in_ok-found-in-Some.found in
    let ensured = c.in_ok-found-in-Some.ensures in
    let is = said_is beside c.args.dump.now c.args.probe.now (told_value said.told) (code_given_value said.given) said.roots said.taking.now c.in_ok-bridges.bridges asleep c.in_ok-bridges.ensures
    (subst (λ (rs : List ToldRange). AreAsleepFor rs beside.words c.args.dump.now c.args.probe.now asleep) c.ranges-ranges.ensures.value c.in_ok-asleep.ensures)
    c.said_beside-said.ensures.ranges (c.said_beside-said.ensures.asleep ∙ c.deref.ensures.value) c.said_beside-said.ensures.given c.said_beside-said.ensures.roots c.said_beside-said.ensures.taking in
    faults_are beside c.args.dump.now c.args.probe.now c.in-Some.taken.dump c.in-Some.taken.probe (told_value said.told) (code_given_value said.given) (buses_of said.roots) said.taking.now found.taking.items (map any_fault_value found.faults.items) is
    (rw c.in-Some.is at c.in_ok-taken.ensures) record { judged = ensured.taken; unjudged = ensured.untaken } ensured.all
    (none_of_items any_fault_value found.faults.items (AreSoundAsTold (told_value said.told) (with_taking found.taking.items (code_given_value said.given)) (buses_of said.roots) c.in-Some.taken.dump c.in-Some.taken.probe) ensured.none)
