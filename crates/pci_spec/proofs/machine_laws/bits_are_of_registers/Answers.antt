use Rattle.pci_spec.proofs.WritableBits.{no_bit_is_both}
use Rattle.pci_spec.proofs.KeptBits.{writable_bits_are_of_registers, clearing_bits_are_of_status, command_is_writable, rom_enable_is_writable}
use Rattle.pci_spec.proofs.machine_laws.bits_are_of_registers.Goals as goal

pub returns-clause-both : goal.returns-clause-both
returns-clause-both c = no_bit_is_both

pub returns-clause-writable : goal.returns-clause-writable
returns-clause-writable c = writable_bits_are_of_registers

pub returns-clause-clearing : goal.returns-clause-clearing
returns-clause-clearing c = clearing_bits_are_of_status

pub returns-clause-command : goal.returns-clause-command
returns-clause-command c = command_is_writable

pub returns-clause-rom : goal.returns-clause-rom
returns-clause-rom c = rom_enable_is_writable
