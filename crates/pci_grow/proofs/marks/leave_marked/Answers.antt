use Rattle.std.proofs.Common.{arith, ◌∙◌, ap, cond, get_or, None}
use Rattle.pci_base.specs.WindowKinds.{by_kind}
use Rattle.pci_first_fit.specs.Kept.{nothing_kept}
use Rattle.pci_first_fit.specs.Tables.{untold}
use Rattle.pci_grow.proofs.Marked.{IsLeftTold, none_done, one_done, mark_of, all_left}
use Rattle.pci_grow.proofs.marks.leave_marked.Goals as goal

pub loop-index-init : goal.loop-index-init
loop-index-init c = none_done untold IsLeftTold c.args.table.now c.args.marks.now

pub loop-index-preserved : goal.loop-index-preserved
loop-index-preserved c =
    one_done untold IsLeftTold c.loop-index.index c.args.table.now c.args.marks.now c.loop-index.table c.leave_one.new.ranges
    (omega (arith, c.loop-index-test.true, c.requires)) c.loop-index.invariant (λ class.
    c.leave_one.ensures class
    ∙ ap (λ b. cond b (by_kind (get_or c.loop-index.table c.loop-index.index untold) class) None) (mark_of (get_or c.args.marks.now c.loop-index.index nothing_kept) class))

pub returns : goal.returns
returns c = all_left c.loop-index.index c.args.table.now c.args.marks.now c.loop-index.table (omega (arith, c.loop-index-test.false, c.requires)) c.requires c.loop-index.invariant
