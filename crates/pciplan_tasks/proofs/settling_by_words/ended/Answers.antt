use Rattle.std.proofs.Common.{List, map, subst, sym, ◌∙◌, ap, eqb-true, arith}
use Rattle.std.specs.Prelude.{IfOk}
use Rattle.pci_faults.specs.AllLines.{any_fault_value}
use Rattle.pci_faults.specs.declared.any_fault.AnyFault.{AnyFault}
use Rattle.pci_model_settle.specs.Listed.{blocks_after, listed_write}
use Rattle.pci_plan.specs.Writes.{write_value}
use Rattle.pci_settle.specs.Denied.{denied_value}
use Rattle.pci_spec.specs.Text.{Block}
use Rattle.pciplan_tasks.specs.Answers.{answer_of}
use Rattle.pciplan_tasks.specs.MapAnswers.{IsFirstLine}
use Rattle.pciplan_tasks.specs.WordsSettling.{AreFaultsBeside, beside_said}
use Rattle.pciplan_tasks.proofs.ByWords.{all_plain, ended_in_fault, ended_well, none_at, writes_made}
use Rattle.pciplan_tasks.proofs.settling_by_words.ended.Goals as goal

pub settled_reply-requires : goal.settled_reply-requires
settled_reply-requires g c =
    let dump = c.args.texts.now.dump.now in
    let items = c.args.settled.writes.all.items in
    let made = c.as_listed.ensures ∙ (λ i. map (listed_write (c.blocks-2.ensures.value i)) (map write_value (c.as_mut_slice.ensures.value i))) in
    all_plain dump items c.as_slice-2.result.now (writes_made dump c.args.settled.writes.all.len c.as_listed.new.writes items c.as_slice-2.result.now made c.args.settled.writes.all.ok.0 c.as_slice-2.ensures.value) c.requires

pub returns-then-not-is_empty : goal.returns-then-not-is_empty
returns-then-not-is_empty g c =
    let dump = c.args.texts.now.dump.now in
    let probe = c.args.texts.now.probe.now in
    let items = c.args.settled.writes.all.items in
    let beside = beside_said c.args.request.now in
    let faults = map any_fault_value c.in_ok-faults.faults.items in
    let made = c.as_listed.ensures ∙ (λ i. map (listed_write (c.blocks-2.ensures.value i)) (map write_value (c.as_mut_slice.ensures.value i))) in
    let written = writes_made dump c.args.settled.writes.all.len c.as_listed.new.writes items c.as_slice.result.now made c.args.settled.writes.all.ok.0 c.as_slice.ensures.value in
    let after = c.in_ok-after.ensures ∙ ap (blocks_after dump) written in
    ended_in_fault beside c.args.printed dump probe (map write_value items) (map denied_value c.args.settled.denied.items) faults c.first_line.result
    (subst (λ (bs : List Block). AreFaultsBeside beside bs probe faults) after c.in_ok-faults.ensures)
    (subst (λ (fs : List AnyFault). IfOk c.first_line.result (λ reply. IsFirstLine (map any_fault_value fs) (answer_of reply))) c.as_slice-then-not-is_empty.ensures.value c.first_line.ensures)

pub returns : goal.returns
returns g c =
    let dump = c.args.texts.now.dump.now in
    let probe = c.args.texts.now.probe.now in
    let items = c.args.settled.writes.all.items in
    let beside = beside_said c.args.request.now in
    let faults = map any_fault_value c.in_ok-faults.faults.items in
    let made = c.as_listed.ensures ∙ (λ i. map (listed_write (c.blocks-2.ensures.value i)) (map write_value (c.as_mut_slice.ensures.value i))) in
    let written = writes_made dump c.args.settled.writes.all.len c.as_listed.new.writes items c.as_slice.result.now made c.args.settled.writes.all.ok.0 c.as_slice.ensures.value in
    let printed = writes_made dump c.args.settled.writes.all.len c.as_listed.new.writes items c.as_slice-2.result.now made c.args.settled.writes.all.ok.0 c.as_slice-2.ensures.value in
    let after = c.in_ok-after.ensures ∙ ap (blocks_after dump) written in
    let none = eqb-true _ _ (sym c.is_empty.ensures ∙ c.if-not-is_empty.false) in
    let all = c.in_ok-faults.faults.ok.0 in
    ended_well beside c.args.printed dump probe (map write_value items) (map denied_value c.args.settled.denied.items) faults c.settled_reply.result
    (subst (λ (bs : List Block). AreFaultsBeside beside bs probe faults) after c.in_ok-faults.ensures)
    (ap (map any_fault_value) (none_at c.in_ok-faults.faults.items (omega (arith, none, all))))
    c.blocks-start.result.now c.in_ok-after.after (map write_value c.as_slice-2.result.now) (map denied_value c.as_slice-denied.result.now)
    c.blocks-start.ensures.value printed (ap (map denied_value) c.as_slice-denied.ensures.value) after c.settled_reply.ensures
