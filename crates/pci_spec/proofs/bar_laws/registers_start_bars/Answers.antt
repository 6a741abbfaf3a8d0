use Rattle.pci_spec.proofs.BarLaws.{first_register_starts_bar, upper_half_starts_no_bar, other_registers_start_bars}
use Rattle.pci_spec.proofs.bar_laws.registers_start_bars.Goals as goal

pub returns-clause-first : goal.returns-clause-first
returns-clause-first c = first_register_starts_bar

pub returns-clause-upper : goal.returns-clause-upper
returns-clause-upper c = upper_half_starts_no_bar

pub returns-clause-other : goal.returns-clause-other
returns-clause-other c = other_registers_start_bars
