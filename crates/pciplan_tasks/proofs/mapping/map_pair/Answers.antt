use Rattle.std.proofs.Common.{◌≡◌, ap, map, sym, ◌∙◌, subst, List}
use Rattle.std.proofs.lemmas.Result.{IfOk-weaker}
use Rattle.std.specs.Prelude.{IfOk}
use Rattle.std.specs.String.{string_bytes}
use Rattle.pci_spec.specs.System.{System}
use Rattle.pci_tree.specs.Roots.{buses_of}
use Rattle.pci_tree.specs.Trees.{HasTree}
use Rattle.pci_claims.specs.Values.{code_given_value, taking_value, told_value}
use Rattle.judge_spec.specs.Given.{TakingBridge, nothing_given}
use Rattle.judge_spec.specs.ToldNumbered.{AreListedIn}
use Rattle.judge_spec.specs.UnclaimedLaws.{with_taking}
use Rattle.judge_spec.specs.MapText.{IsMapText}
use Rattle.pci_faults.specs.AllLines.{any_fault_value}
use Rattle.pci_faults.specs.declared.any_fault.AnyFault.{AnyFault}
use Rattle.pciplan_tasks.specs.MapAnswers.{IsFirstLine, IsMapped}
use Rattle.pciplan_tasks.specs.Answers.{answer_of}
use Rattle.pciplan_tasks.proofs.Maps.{mapped, not_mapped}
use Rattle.pciplan_tasks.proofs.mapping.map_pair.Goals as goal

pub first_line-requires : goal.first_line-requires
first_line-requires g c =
    let found = rw c.in-Refused.is at c.in_ok-found.ensures in
    λ none. (found nothing_given).some (ap (map any_fault_value) (sym c.as_slice.ensures.value) ∙ none)

pub returns-in-Refused : goal.returns-in-Refused
returns-in-Refused g c =
    let said = c.args.said.now in
    let given = code_given_value said.given in
    let found = (rw c.in-Refused.is at c.in_ok-found.ensures) given in
    IfOk-weaker c.first_line.result (λ reply. IsFirstLine (map any_fault_value c.in-Refused.faults.items) (answer_of reply))
    (λ reply. IsMapped (told_value said.told) given (buses_of said.roots) said.taking.now c.args.dump.now c.args.probe.now (answer_of reply))
    (λ reply line. not_mapped (told_value said.told) given (buses_of said.roots) said.taking.now c.args.dump.now c.args.probe.now (map any_fault_value c.in-Refused.faults.items) (answer_of reply) found line)
    (subst (λ (items : List AnyFault). IfOk c.first_line.result (λ reply. IsFirstLine (map any_fault_value items) (answer_of reply))) c.as_slice.ensures.value c.first_line.ensures)

pub returns-in_ok-text-in-Admitted : goal.returns-in_ok-text-in-Admitted
returns-in_ok-text-in-Admitted g c =
    let said = c.args.said.now in
    let ready = rw c.in-Admitted.is at c.in_ok-found.ensures in
    let outline = c.in-Admitted.outline in
    let text = string_bytes c.in_ok-text-in-Admitted.text in
    let lent : map taking_value c.deref-in-Admitted.result.now ≡ c.in_ok-taking-in-Admitted.taking.items = cc (c.deref.ensures.value, c.deref-in-Admitted.ensures.value, c.in_ok-lent-in-Admitted.ensures) in
    let is : (s : System) → HasTree outline s → AreListedIn (told_value said.told) s
    → IsMapText (told_value said.told) (with_taking c.in_ok-taking-in-Admitted.taking.items (code_given_value said.given)) outline.roots s text
    = subst (λ (bs : List TakingBridge). (s : System) → HasTree outline s → AreListedIn (told_value said.told) s
    → IsMapText (told_value said.told) (with_taking bs (code_given_value said.given)) outline.roots s text)
    lent c.in_ok-text-in-Admitted.ensures in
    mapped (told_value said.told) (code_given_value said.given) (buses_of said.roots) said.taking.now c.args.dump.now c.args.probe.now outline c.in_ok-taking-in-Admitted.taking.items text _ ready.0 ready.1
    c.in_ok-taking-in-Admitted.ensures is c.done.ensures
