use Rattle.pci_spec.proofs.BarKinds.{odd_register_is_io, low_bits_are_of_memory, other_types_are_reserved, memory_alone_is_prefetchable}
use Rattle.pci_spec.proofs.bar_laws.low_bits_show_kinds.Goals as goal

pub returns-clause-io : goal.returns-clause-io
returns-clause-io c = odd_register_is_io

pub returns-clause-memory : goal.returns-clause-memory
returns-clause-memory c = low_bits_are_of_memory

pub returns-clause-reserved : goal.returns-clause-reserved
returns-clause-reserved c = other_types_are_reserved

pub returns-clause-prefetchable : goal.returns-clause-prefetchable
returns-clause-prefetchable c = memory_alone_is_prefetchable
