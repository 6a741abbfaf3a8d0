use Rattle.std.proofs.Common.{List, ℕ, map, refl, sym, ◌∙◌, ap, subst}
use Rattle.pci_tree.specs.Admission.{IsAdmitted}
use Rattle.pci_model_settle.specs.LineValues.{line_value}
use Rattle.pci_model_settle.specs.OffDevices.{blocks_without}
use Rattle.pciplan_tasks.proofs.ByWords.{no_slots, none_to_fit, settled_whole, settled_without, too_many_fit_none}
use Rattle.pciplan_tasks.proofs.settling_by_words.settle_without.Goals as goal

pub returns-then-is_empty : goal.returns-then-is_empty
returns-then-is_empty g c =
    let q = c.args.asked.now in
    let a = c.args.admitted.now in
    settled_whole q.words q.request.now q.printed q.fixed.now q.left.now c.args.texts.now.dump.now c.args.texts.now.probe.now a.dump a.probe c.settle_whole.result
    (none_to_fit _ q.left.now (no_slots q.left.now (sym c.is_empty.ensures ∙ c.if-is_empty.true)))
    (subst (λ (roots : List ℕ). IsAdmitted record { roots = roots; dump = a.dump; probe = a.probe }) c.requires.roots c.outline.ensures.admitted) c.settle_whole.ensures

pub returns-in-Err-Fault : goal.returns-in-Err-Fault
returns-in-Err-Fault g c =
    let q = c.args.asked.now in
    let a = c.args.admitted.now in
    let dump = c.args.texts.now.dump.now in
    let many = rw c.in-Err-Fault.field-0-is at c.in-Err-Fault.ensures.many in
    settled_whole q.words q.request.now q.printed q.fixed.now q.left.now dump c.args.texts.now.probe.now a.dump a.probe c.settle_whole-in-Err-Fault.result
    (too_many_fit_none q.words q.request.now q.printed q.fixed.now q.left.now dump c.args.texts.now.probe.now a.dump a.probe (map line_value c.deref.result.now)
    (ap (map line_value) c.deref.ensures.value ∙ c.in_ok-devices.ensures.lines)
    (many refl))
    (subst (λ (roots : List ℕ). IsAdmitted record { roots = roots; dump = a.dump; probe = a.probe }) c.requires.roots c.outline.ensures.admitted) c.settle_whole-in-Err-Fault.ensures

pub returns : goal.returns
returns g c =
    let q = c.args.asked.now in
    let a = c.args.admitted.now in
    let dump = c.args.texts.now.dump.now in
    settled_without q.words q.request.now q.printed q.fixed.now q.left.now dump c.args.texts.now.probe.now a.dump a.probe (map line_value c.deref.result.now) c.in-Ok.kept
    c.in_ok-without_registers.field-0 c.in_ok-without_registers-2.field-0 c.settle_off.result
    (ap (map line_value) c.deref.ensures.value ∙ c.in_ok-devices.ensures.lines)
    c.in-Ok.ensures.kept c.in-Ok.ensures.told
    (c.in_ok-without_registers.ensures ∙ ap (blocks_without q.left.now) c.dump.ensures) (c.in_ok-without_registers-2.ensures ∙ ap (blocks_without q.left.now) c.probe.ensures)
    c.settle_off.ensures
