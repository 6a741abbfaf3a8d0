use Rattle.std.proofs.Common.{◌≡◌, ◌<◌, ◌+◌, ◌∷◌, [], sym, ap, ◌∙◌, arith, length, get_or, subst}
use Rattle.std.specs.Bool.{if◌then◌else◌}
use Rattle.std.proofs.lemmas.List.{get_or_default, length-append}
use Rattle.pci_spec.specs.Bus.{is_root}
use Rattle.judge_spec.specs.Told.{ToldRange}
use Rattle.settle_laws.specs.Order.{level}
use Rattle.pci_kept.specs.declared.told_line.ToldLine.{ToldLine}
use Rattle.pci_kept.specs.ToldLines.{IsToldLineOf}
use Rattle.pci_kept.proofs.ToldIndexes.{lines_more}
use Rattle.pci_kept.proofs.told_line.told_lines.Goals as goal

pub loop-range-init : goal.loop-range-init
loop-range-init g c = record {
  size = ap length c.new-lines.ensures.items;
  each = λ q s tree roots ranges awake k d t low. absurd (let no : ⊥ = omega (arith, low) in no);
}

pub loop-range-preserved : goal.loop-range-preserved
loop-range-preserved g c =
    let ranges = c.args.ranges.now in
    let k = c.loop-range.range-index in
    let low = c.loop-range-test.true in
    let r = c.range-item.result in
    let line : ToldLine = record { level = c.level-level.result; class = c.range_class-class.result; on = c.is_on-on.result } in
    record {
      size = ap length c.in_ok-push.ensures.items ∙ length-append c.loop-range.lines.items (line ∷ []) ∙ ap (λ n. n + 1) c.loop-range.invariant.size;
      each = λ q s tree roots same awake.
          (let bus_is = c.bus.ensures ∙ ap (λ (t : ToldRange). t.slot.bus) c.range.view_is in
          let level_is : c.level-level.result ≡ level q r.slot.bus =
          c.level-level.ensures ∙ ap (λ rs. if is_root rs c.bus.result then 0 else c.bus.result + 1) (sym roots) ∙ ap (level q) bus_is in
          lines_more (IsToldLineOf q s) ranges c.loop-range.lines.items k line c.loop-range.invariant.size (c.loop-range.invariant.each q s tree roots same awake)
          (λ t. subst (λ (y : ToldRange). IsToldLineOf q s y line) (c.range-item.is ∙ get_or_default ranges k r t low) record {
            level = level_is;
            class = c.range_class-class.ensures q s tree level_is;
            on = c.is_on-on.ensures q s tree awake;
          })
          c.push.new.self.items c.in_ok-push.ensures.items);
    }

pub returns-clause-count : goal.returns-clause-count
returns-clause-count g c =
    let end = c.loop-range-test.false in
    let count = c.loop-range.auto.range-index-end in
    c.loop-range.invariant.size ∙ (let e : c.loop-range.range-index ≡ length c.args.ranges.now = omega (arith, end, count) in e)

pub returns-clause-lines : goal.returns-clause-lines
returns-clause-lines g c = λ q s tree roots same awake.
    let end = c.loop-range-test.false in
    let count = c.loop-range.auto.range-index-end in
    record {
      size = c.loop-range.invariant.size ∙ (let e : c.loop-range.range-index ≡ length c.args.ranges.now = omega (arith, end, count) in e) ∙ ap length (sym same);
      each = λ k d t low.
          (let inside : k < c.loop-range.range-index = (let small = subst (λ xs. k < length xs) same low in omega (arith, small, end)) in
          subst (λ xs. IsToldLineOf q s (get_or xs k t) (get_or c.loop-range.lines.items k d)) (sym same) (c.loop-range.invariant.each q s tree roots same awake k d t inside));
    }
