use Rattle.std.proofs.Common.{sym, ap, ◌∙◌}
use Rattle.pci_first_fit.proofs.Walks.{no_range, had_more, had_less, had_all}
use Rattle.pci_first_fit.proofs.list.ranges_of.Goals as goal
use Rattle.pci_first_fit.proofs.list.ranges_of.Goals.{then-is_had_by+in_ok-push, else-is_had_by}

pub loop-one-preserved : goal.loop-one-preserved
loop-one-preserved g c = elim c.if-is_had_by.branch [
  | then-is_had_by+in_ok-push w ↦
      had_more c.args.bus c.args.list.now c.loop-one.one-index c.loop-one.ranges.items no_range c.if-is_had_by.ranges.items c.loop-one-test.true c.loop-one.invariant
      (sym c.is_had_by.ensures ∙ w.if-is_had_by.true) (ap (λ v. v.items) w.ranges-is ∙ w.in_ok-push.ensures.items)
  | else-is_had_by w ↦
      had_less c.args.bus c.args.list.now c.loop-one.one-index c.loop-one.ranges.items no_range c.if-is_had_by.ranges.items c.loop-one-test.true c.loop-one.invariant
      (sym c.is_had_by.ensures ∙ w.if-is_had_by.false) (ap (λ v. v.items) w.ranges-is)
]

pub returns : goal.returns
returns g c = had_all c.args.bus c.args.list.now c.loop-one.one-index c.loop-one.ranges.items c.loop-one-test.false c.loop-one.invariant
