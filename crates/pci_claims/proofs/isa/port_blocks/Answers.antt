use Rattle.std.proofs.Common.{subst, sym, refl}
use Rattle.pci_claims.specs.Isa.{ArePortBlocks}
use Rattle.pci_claims.proofs.Cutting.{no_blocks, more_blocks}
use Rattle.pci_claims.proofs.isa.port_blocks.Goals as goal

pub loop-kilobyte-init : goal.loop-kilobyte-init
loop-kilobyte-init g c = subst (λ xs. ArePortBlocks 0 xs) (sym c.new-out.ensures.items) no_blocks

pub loop-kilobyte-preserved : goal.loop-kilobyte-preserved
loop-kilobyte-preserved g c = more_blocks c.loop-kilobyte.kilobyte c.loop-kilobyte.out.items _ _ c.loop-kilobyte.invariant refl refl c.in_ok-push.ensures.items
