use Rattle.std.proofs.Common.{arith}
use Rattle.pci_first_fit.specs.Kept.{nothing_kept}
use Rattle.pci_grow.proofs.Marked.{IsKeptToo, none_done, one_done, all_kept}
use Rattle.pci_grow.proofs.marks.keep_marked.Goals as goal

pub loop-index-init : goal.loop-index-init
loop-index-init c = none_done nothing_kept IsKeptToo c.args.table.now c.args.marks.now

pub loop-index-preserved : goal.loop-index-preserved
loop-index-preserved c =
    one_done nothing_kept IsKeptToo c.loop-index.index c.args.table.now c.args.marks.now c.loop-index.table c.keep_also.new.kept
    (omega (arith, c.loop-index-test.true, c.requires)) c.loop-index.invariant (λ part. c.keep_also.ensures part)

pub returns : goal.returns
returns c = all_kept c.loop-index.index c.args.table.now c.args.marks.now c.loop-index.table (omega (arith, c.loop-index-test.false, c.requires)) c.requires c.loop-index.invariant
