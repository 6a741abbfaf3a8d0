use Rattle.std.proofs.Common.{refl}
use Rattle.pci_dump.proofs.Filled.{moves_start}
use Rattle.pci_dump.proofs.ahead.ReadAhead.fill.Goals as goal

pub loop-self-init : goal.loop-self-init
loop-self-init g c = record { moved = moves_start _ _ c.requires.over; fine = refl }
