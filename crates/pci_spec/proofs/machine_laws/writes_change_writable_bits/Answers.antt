use Rattle.pci_spec.proofs.WrittenBits.{write_keeps_other_bits, write_keeps_other_bytes, write_sets_writable_bits, one_clears, zero_clears_nothing, write_leaves_image}
use Rattle.pci_spec.proofs.machine_laws.writes_change_writable_bits.Goals as goal

pub returns-clause-other_bits : goal.returns-clause-other_bits
returns-clause-other_bits c = write_keeps_other_bits

pub returns-clause-other_bytes : goal.returns-clause-other_bytes
returns-clause-other_bytes c = write_keeps_other_bytes

pub returns-clause-writable : goal.returns-clause-writable
returns-clause-writable c = write_sets_writable_bits

pub returns-clause-one : goal.returns-clause-one
returns-clause-one c = one_clears

pub returns-clause-zero : goal.returns-clause-zero
returns-clause-zero c = zero_clears_nothing

pub returns-clause-image : goal.returns-clause-image
returns-clause-image c = write_leaves_image
