use Rattle.pci_spec.proofs.BarLaws.{bar_has_one_size, rom_has_one_size, memory_read_back_shows_size, wide_read_back_shows_size, io_read_back_shows_size, rom_read_back_shows_size, reserved_type_has_no_size}
use Rattle.pci_spec.proofs.bar_laws.read_backs_show_sizes.Goals as goal

pub returns-clause-bar : goal.returns-clause-bar
returns-clause-bar c = bar_has_one_size

pub returns-clause-rom : goal.returns-clause-rom
returns-clause-rom c = rom_has_one_size

pub returns-clause-memory_read_back : goal.returns-clause-memory_read_back
returns-clause-memory_read_back c = memory_read_back_shows_size

pub returns-clause-wide_read_back : goal.returns-clause-wide_read_back
returns-clause-wide_read_back c = wide_read_back_shows_size

pub returns-clause-io_read_back : goal.returns-clause-io_read_back
returns-clause-io_read_back c = io_read_back_shows_size

pub returns-clause-rom_read_back : goal.returns-clause-rom_read_back
returns-clause-rom_read_back c = rom_read_back_shows_size

pub returns-clause-reserved : goal.returns-clause-reserved
returns-clause-reserved c = reserved_type_has_no_size
