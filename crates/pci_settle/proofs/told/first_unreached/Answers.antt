use Rattle.std.proofs.Common.{◌≡◌, ◌+◌, length, false, Some, arith, sym, ◌∙◌, ap, subst}
use Rattle.std.specs.Option.{option_map}
use Rattle.judge_spec.specs.Told.{ToldRange}
use Rattle.settle_spec.specs.Keeping.Writes.{is_not_reached}
use Rattle.std.proofs.lemmas.Option.{same_Some}
use Rattle.judge_spec.specs.ToldClaims.{told_register}
use Rattle.pci_base.specs.declared.window_kind.WindowKind.TheVariants as kinds
use Rattle.pci_kept.specs.declared.told_line.ToldLine.{ToldLine}
use Rattle.pci_settle.specs.declared.lack.SettleFault.TheVariants as fault
use Rattle.pci_settle.specs.ToldEndings.{told_fault, known_told_value}
use Rattle.pci_settle.proofs.ToldFirsts.{told_at, none_yet, none_next, none_past, none_at_all, one_there}
use Rattle.pci_settle.proofs.ToldTests.{range_here, unreached_is, line_is}
use Rattle.pci_settle.proofs.told.first_unreached.Goals as goal

abbrev no_line : ToldLine
no_line = record { level = 0; class = kinds.Io; on = false }

pub loop-index-init : goal.loop-index-init
loop-index-init c = λ q s knows. none_yet q (is_not_reached q s)

pub loop-index-preserved : goal.loop-index-preserved
loop-index-preserved c = λ q s knows.
    let index = c.loop-index.index in
    let r : ToldRange = c.index-ranges-index.result in
    let here = range_here q s (known_told_value c.args.told.now) knows c.as_slice-ranges.result.now c.as_slice-ranges.ensures.value index r c.loop-index-test.true c.index-ranges-index.is in
    none_next q (is_not_reached q s) index (c.loop-index.invariant q s knows)
    (λ x at. subst (λ y. is_not_reached q s (told_at (told_register index) y) ≡ false) (same_Some r x (sym here ∙ at))
    (sym (unreached_is q s (known_told_value c.args.told.now) knows index r no_line here) ∙ sym c.is_unreached.ensures ∙ c.if-is_unreached.false))

pub returns-then-is_unreached : goal.returns-then-is_unreached
returns-then-is_unreached c = λ q s knows.
    let index = c.loop-index.index in
    let r : ToldRange = c.index-ranges-index.result in
    let here = range_here q s (known_told_value c.args.told.now) knows c.as_slice-ranges.result.now c.as_slice-ranges.ensures.value index r c.loop-index-test.true c.index-ranges-index.is in
    ap Some (c.fault_of_line.ensures ∙ ap (λ slot. fault.Told slot (index + 1)) (ap (λ (x : ToldRange). x.slot) c.range.view_is) ∙ ap (fault.Told r.slot) (line_is index))
    ∙ sym (ap (option_map told_fault) (one_there q (is_not_reached q s) index r (c.loop-index.invariant q s knows) here
    (sym (unreached_is q s (known_told_value c.args.told.now) knows index r no_line here) ∙ sym c.is_unreached.ensures ∙ c.if-is_unreached.true)))

pub returns : goal.returns
returns c = λ q s knows.
    let done = c.loop-index-test.false in
    sym (ap (option_map told_fault) (none_at_all q (is_not_reached q s)
    (none_past q (is_not_reached q s) c.loop-index.index (c.loop-index.invariant q s knows)
    (let e = ap length (knows.ranges ∙ sym c.as_slice-ranges.ensures.value) in omega (arith, e, done)))))
