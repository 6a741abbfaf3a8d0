use Rattle.std.proofs.Common.{◌≡◌, ◌<◌, ◌≤◌, ◌+◌, sym, ap, ◌∙◌, arith, length, get_or, subst}
use Rattle.std.proofs.lemmas.List.{get_or_default}
use Rattle.judge_spec.specs.Told.{ToldRange}
use Rattle.pci_kept.specs.declared.told_line.ToldLine.{ToldLine}
use Rattle.pci_kept.specs.RangePass.{no_told_line, no_range}
use Rattle.pci_kept.proofs.LineRowing.{AreRowsBelow, rows_none, rows_skip, rows_more, rows_all}
use Rattle.pci_kept.proofs.off.add_rows.Goals as goal
use Rattle.pci_kept.proofs.off.add_rows.Goals.{then-is_taken+in_ok-push, else-is_taken}

pub loop-index-init : goal.loop-index-init
loop-index-init g c = λ q s same lines empty. subst (AreRowsBelow q s c.args.all 0) (sym empty) (rows_none q s c.args.all)

pub loop-index-preserved : goal.loop-index-preserved
loop-index-preserved g c = λ q s same are empty.
    let ranges = c.args.told.now.ranges.now in
    let lines = c.args.told.now.lines.now in
    let all = c.args.all in
    let k = c.loop-index.index in
    let low = c.loop-index-test.true in
    let count = c.requires.count in
    let within : k < length q.told.ranges = subst (λ xs. k < length xs) (sym same) low in
    let line : ToldLine = get_or lines k no_told_line in
    let line_is : line ≡ get_or lines k line = sym (get_or_default lines k line no_told_line (omega (arith, low, count))) in
    let before = c.loop-index.invariant q s same are empty in
    elim c.if-is_taken.branch [
      | then-is_taken+in_ok-push w ↦
          let t : ToldRange = get_or ranges k w.index-told-index.result in
          subst (AreRowsBelow q s all (k + 1)) (sym (ap (λ v. v.items) w.rows-is))
          (rows_more q s all lines are k within c.loop-index.rows.items before t (sym (get_or_default ranges k t w.index-told-index.result low) ∙ ap (λ xs. get_or xs k t) (sym same)) line line_is w.row_of.result
          record { key = w.row_of.ensures.key; owner = w.row_of.ensures.owner; range = w.row_of.ensures.range }
          (sym c.is_taken.ensures ∙ w.if-is_taken.true) w.push.new.self.items w.in_ok-push.ensures.items)
      | else-is_taken w ↦
          let t : ToldRange = get_or q.told.ranges k no_range in
          subst (AreRowsBelow q s all (k + 1)) (sym (ap (λ v. v.items) w.rows-is))
          (rows_skip q s all lines are k within c.loop-index.rows.items before t (sym (get_or_default q.told.ranges k t no_range within)) line line_is (sym c.is_taken.ensures ∙ w.if-is_taken.false))
    ]

pub returns : goal.returns
returns g c = λ q s same are empty.
    rows_all q s c.args.all c.loop-index.index c.loop-index.rows.items (subst (λ xs. length xs ≤ c.loop-index.index) (sym same) c.loop-index-test.false) (c.loop-index.invariant q s same are empty)
