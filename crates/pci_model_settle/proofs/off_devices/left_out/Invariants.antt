use Rattle.std.proofs.Common.{◌≡◌, take}
use Rattle.pci_model_settle.specs.OffDevices.{left_out}
use Rattle.pci_model_settle.proofs.off_devices.left_out.Given as goal

abbrev pub invariant-loop-i : goal.invariant-loop-i
invariant-loop-i g l = l.slots.items ≡ left_out l.unmoved (take l.i l.dump) (take l.i l.blocks) (take l.i l.probes)
