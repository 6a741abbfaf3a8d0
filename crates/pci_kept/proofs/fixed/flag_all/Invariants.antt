use Rattle.std.proofs.Common.{◌≡◌, length}
use Rattle.pci_kept.proofs.Flags.{Told}
use Rattle.pci_kept.proofs.fixed.flag_all.Given as goal

abbrev pub invariant-loop-slot : goal.invariant-loop-slot
invariant-loop-slot l = record { size : length l.flags ≡ 65536; told : Told l.slots l.fn.flags l.slot-index l.flags }
