use Rattle.std.proofs.Common.{List, ap, subst, sym, ◌∙◌}
use Rattle.judge_spec.specs.Told.{ToldRange, IsTold}
use Rattle.pci_tree.specs.Roots.{buses_of}
use Rattle.pci_first_fit.specs.Lines.{AreLines, told_row}
use Rattle.pci_first_fit.proofs.Rows.{line_more, lines_sorted, rows_forward}
use Rattle.pci_first_fit.proofs.lines.lines.Goals as goal

pub loop-index-preserved : goal.loop-index-preserved
loop-index-preserved g c =
    line_more (buses_of c.args.roots.now) c.loop-index.index c.as_slice-range-items.result.now c.range-item.result c.loop-index.lines.items c.push.new.self.items c.line_of.result c.loop-index-test.true c.loop-index.invariant (c.line_of.ensures ∙ ap (told_row (buses_of c.args.roots.now) c.loop-index.index) c.range-item.is) c.in_ok-push.ensures.items

pub returns-clause-lines : goal.returns-clause-lines
returns-clause-lines g c =
    subst (λ (rs : List ToldRange). AreLines (buses_of c.args.roots.now) rs c.sort_by_level.new.lines.items) c.as_slice-range-items.ensures.value
    (lines_sorted (buses_of c.args.roots.now) c.as_slice-range-items.result.now c.loop-index.index c.loop-index.lines.items c.sort_by_level.new.lines.items c.loop-index-test.false c.loop-index.invariant c.sort_by_level.ensures.permutation)

pub returns-clause-rows : goal.returns-clause-rows
returns-clause-rows g c = record {
  order = c.sort_by_level.ensures.order;
  forward = rows_forward (buses_of c.args.roots.now) c.as_slice-range-items.result.now c.sort_by_level.new.lines.items
      (subst (λ (rs : List ToldRange). IsTold rs) (sym c.as_slice-range-items.ensures.value) c.as_slice-range-items.ensures.told)
      (lines_sorted (buses_of c.args.roots.now) c.as_slice-range-items.result.now c.loop-index.index c.loop-index.lines.items c.sort_by_level.new.lines.items c.loop-index-test.false c.loop-index.invariant c.sort_by_level.ensures.permutation);
}
