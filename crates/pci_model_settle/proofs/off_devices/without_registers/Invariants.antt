use Rattle.std.proofs.Common.{◌≡◌, take}
use Rattle.pci_model_settle.specs.OffDevices.{blocks_without}
use Rattle.pci_model_settle.proofs.off_devices.without_registers.Given as goal

abbrev pub invariant-loop-i : goal.invariant-loop-i
invariant-loop-i g l = l.without ≡ blocks_without l.slots (take l.i l.blocks)
