use Rattle.std.proofs.Common.{sym, ◌∙◌}
use Rattle.pci_image.proofs.Sizes.{size-memory_32, size-memory_64, size-io_none, size-io_large, size-io_some}
use Rattle.pci_image.proofs.bar.size_log2.Goals as goal

pub returns-in_err-start-in-Io : goal.returns-in_err-start-in-Io
returns-in_err-start-in-Io c =
    rw (c.from_residual.ensures, c.in-Io.is) (size-io_none c.args.mask c.run_start.result c.run_start-in-Io.result c.run_start.ensures c.run_start-in-Io.ensures (sym c.or.ensures ∙ c.in_err-start-in-Io.was))

pub returns-then-start-le-IO_LARGEST : goal.returns-then-start-le-IO_LARGEST
returns-then-start-le-IO_LARGEST c =
    rw c.in-Io.is (size-io_some c.args.mask c.in_ok-start-in-Io.start c.run_start.result c.run_start-in-Io.result c.run_start.ensures c.run_start-in-Io.ensures (sym c.or.ensures ∙ c.in_ok-start-in-Io.was)
    c.if-start-le-IO_LARGEST.true)

pub returns-else-start-le-IO_LARGEST : goal.returns-else-start-le-IO_LARGEST
returns-else-start-le-IO_LARGEST c =
    rw c.in-Io.is (size-io_large c.args.mask c.in_ok-start-in-Io.start c.run_start.result c.run_start-in-Io.result c.run_start.ensures c.run_start-in-Io.ensures (sym c.or.ensures ∙ c.in_ok-start-in-Io.was)
    c.if-start-le-IO_LARGEST.false)

pub returns-in-Mem32 : goal.returns-in-Mem32
returns-in-Mem32 c = rw c.in-Mem32.is (size-memory_32 c.args.mask c.run_start-in-Mem32.result c.run_start-in-Mem32.ensures)

pub returns-in-Mem64 : goal.returns-in-Mem64
returns-in-Mem64 c = rw c.in-Mem64.is (size-memory_64 c.args.mask c.run_start-in-Mem64.result c.run_start-in-Mem64.ensures)
