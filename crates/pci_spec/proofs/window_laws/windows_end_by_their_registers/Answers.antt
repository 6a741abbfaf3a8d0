use Rattle.pci_spec.proofs.WindowLaws.{io_window_ends, memory_window_ends, prefetch_window_ends}
use Rattle.pci_spec.proofs.window_laws.windows_end_by_their_registers.Goals as goal

pub returns-clause-io : goal.returns-clause-io
returns-clause-io c = io_window_ends

pub returns-clause-memory : goal.returns-clause-memory
returns-clause-memory c = memory_window_ends

pub returns-clause-prefetch : goal.returns-clause-prefetch
returns-clause-prefetch c = prefetch_window_ends
