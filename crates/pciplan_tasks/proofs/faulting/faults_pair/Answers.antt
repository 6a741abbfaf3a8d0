use Rattle.std.proofs.Common.{◌≡◌, ◌∙◌, List, ap, map, subst}
use Rattle.std.specs.Prelude.{◌==◌, length}
use Rattle.std.specs.String.{string_bytes}
use Rattle.pci_spec.specs.Text.{Block}
use Rattle.pci_spec.specs.Mark.{all_named}
use Rattle.judge_spec.specs.Given.{TakingBridge}
use Rattle.judge_spec.specs.UnclaimedLaws.{with_taking}
use Rattle.pci_tree.specs.Roots.{buses_of}
use Rattle.pci_faults.specs.AllLines.{any_fault_value}
use Rattle.pci_faults.specs.Every.{AreSoundAsTold}
use Rattle.pci_claims.specs.Values.{code_given_value, taking_value, told_value}
use Rattle.pciplan_tasks.specs.FaultsAnswers.{IsListText}
use Rattle.pciplan_tasks.proofs.Faults.{all_told, line_is, none_of_items}
use Rattle.pciplan_tasks.proofs.faulting.faults_pair.Goals as goal

pub returns-clause-told : goal.returns-clause-told
returns-clause-told g c =
    let asked = c.args.asked.now in
    let told = told_value asked.said.told in
    let roots = buses_of asked.said.roots in
    let found = c.in_ok-found.found in
    let items = found.faults.items in
    let given = with_taking found.taking.items (code_given_value asked.said.given) in
    let bytes = string_bytes c.in_ok-text.text in
    let lent : map taking_value c.deref-2.result.now ≡ found.taking.items = cc (c.deref.ensures.value, c.deref-2.ensures.value, c.in_ok-taking.ensures) in
    record {
      bridges = found.taking.items;
      taken = record { judged = c.in_ok-found.ensures.taken; unjudged = c.in_ok-found.ensures.untaken };
      are = all_told told given roots c.args.dump.now c.args.probe.now (map any_fault_value items) found.judged asked.why bytes _ c.blocks-2.ensures.dump c.blocks-3.ensures.dump c.in_ok-found.ensures.all
          (none_of_items any_fault_value items (AreSoundAsTold told given roots c.args.dump.now c.args.probe.now) c.in_ok-found.ensures.none) c.in_ok-found.ensures.judged
          (subst (λ all. IsListText (all_named c.args.probe.now) told given found.judged asked.why (map any_fault_value all) bytes) c.as_slice-faults.ensures.value
          (subst (λ (blocks : List Block). IsListText (all_named blocks) told given found.judged asked.why (map any_fault_value c.as_slice-faults.result.now) bytes) c.blocks-3.ensures.value
          (subst (λ (bs : List TakingBridge). IsListText (all_named c.blocks-3.result.now) told (with_taking bs (code_given_value asked.said.given)) found.judged asked.why (map any_fault_value c.as_slice-faults.result.now) bytes) lent
          c.in_ok-text.ensures)))
          (line_is any_fault_value items c.is_empty.result bytes (string_bytes c.new.result)
          (c.is_empty.ensures ∙ ap (λ all. length all == 0) c.as_slice-faults.ensures.value) c.new.ensures.bytes);
    }
