use Rattle.pci_spec.proofs.BarLaws.{bar_answers_its_size, rom_answers_its_size, bar_stays_in_space, rom_stays_in_space}
use Rattle.pci_spec.proofs.bar_laws.bars_answer_their_sizes.Goals as goal

pub returns-clause-bar : goal.returns-clause-bar
returns-clause-bar c = bar_answers_its_size

pub returns-clause-rom : goal.returns-clause-rom
returns-clause-rom c = rom_answers_its_size

pub returns-clause-bar_space : goal.returns-clause-bar_space
returns-clause-bar_space c = bar_stays_in_space

pub returns-clause-rom_space : goal.returns-clause-rom_space
returns-clause-rom_space c = rom_stays_in_space
