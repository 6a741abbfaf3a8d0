use Rattle.pci_spec.proofs.WindowSpace.{window_stays_in_space, narrow_window_stays_low, memory_window_is_there}
use Rattle.pci_spec.proofs.window_laws.windows_stay_in_space.Goals as goal

pub returns-clause-space : goal.returns-clause-space
returns-clause-space c = window_stays_in_space

pub returns-clause-narrow : goal.returns-clause-narrow
returns-clause-narrow c = narrow_window_stays_low

pub returns-clause-memory : goal.returns-clause-memory
returns-clause-memory c = memory_window_is_there
