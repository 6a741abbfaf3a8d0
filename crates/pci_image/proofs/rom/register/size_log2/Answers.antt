use Rattle.std.proofs.Common.{arith}
use Rattle.pci_image.proofs.Roms.{size-rom_none, size-rom_other}
use Rattle.pci_image.proofs.rom.register.size_log2.Goals as goal
use Rattle.pci_image.proofs.rom.register.size_log2.Goals.{then-start-lt-SMALLEST, else-start-lt-SMALLEST}

pub returns-in_err-start : goal.returns-in_err-start
returns-in_err-start c = rw c.from_residual.ensures (size-rom_none c.args.mask c.run_start.result c.run_start.ensures c.in_err-start.was)

pub returns-then-start-gt-LARGEST : goal.returns-then-start-gt-LARGEST
returns-then-start-gt-LARGEST c =
    size-rom_other c.args.mask c.in_ok-start.start c.run_start.result c.run_start.ensures c.in_ok-start.was (λ low high.
    elim c.if-start-lt-SMALLEST.branch [
      | then-start-lt-SMALLEST w ↦ omega arith
      | else-start-lt-SMALLEST w ↦ omega arith
    ])
