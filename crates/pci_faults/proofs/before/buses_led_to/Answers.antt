use Rattle.std.proofs.Common.{rules}
use Rattle.pci_faults.proofs.Leading.{led_none}
use Rattle.pci_faults.proofs.before.buses_led_to.Goals as goal

pub loop-block-init : goal.loop-block-init
loop-block-init c = record { size = search rules; are = λ bus small. led_none bus small }
