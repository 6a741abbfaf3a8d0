-- The fault of a text where a block stops after so many.
use Rattle.std.specs.Prelude.{ℕ, ◌+◌, ◌*◌}
use Rattle.pci_dump.specs.declared.read_fault.ReadFault.{ReadFault}
use Rattle.pci_dump.specs.declared.read_fault.ReadFault.TheVariants as faults
use Rattle.pci_dump.specs.declared.parse.BlockFault.{BlockFault}
use Rattle.pci_dump.specs.declared.parse.BlockFault.TheVariants as stops

abbrev pub fault_at : ℕ → BlockFault → ReadFault
fault_at count stops.BadSlot = faults.BadSlot (18 * count + 1)
fault_at count stops.BadTitle = faults.BadTitle (18 * count + 1)
fault_at count (stops.BadLine r) = faults.BadLine (18 * count + r + 2)
fault_at count stops.NoBlank = faults.NoBlank (18 * count + 18)
fault_at count stops.Order = faults.Order (18 * count + 1)
fault_at count (stops.Ended r) = faults.Ended (18 * count + r + 2)
fault_at count stops.EndedFirst = faults.Ended (18 * count + 1)
