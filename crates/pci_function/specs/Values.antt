-- Records of the code as those of the definitions.
use Rattle.std.specs.Prelude.{map}
use Rattle.std.specs.Option.{option_map}
use Rattle.pci_spec.specs.Decoded as decoded
use Rattle.pci_image.specs.Bars.{decoded_bar_of}
use Rattle.pci_image.specs.Roms.{decoded_rom_of}
use Rattle.pci_image.specs.Windows.{decoded_windows_of}
use Rattle.pci_function.specs.declared.record.Bridge.{Bridge}
use Rattle.pci_function.specs.declared.record.Record.{Record}

abbrev pub bridge_value : Bridge → decoded.Bridge
bridge_value b = record {
  primary = b.primary;
  secondary = b.secondary;
  subordinate = b.subordinate;
  windows = decoded_windows_of b.windows;
}

-- a record as the definitions have it
abbrev pub record_value : Record → decoded.Record
record_value r = record {
  slot = r.slot;
  command = r.command;
  bars = map decoded_bar_of r.bars.items;
  rom = option_map decoded_rom_of r.rom;
  bridge = option_map bridge_value r.bridge;
}
