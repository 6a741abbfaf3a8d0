-- The parts that are decoded of a function make its record.
use Rattle.std.proofs.Common.{◌≡◌, ℕ, List, map, Option, Some, None, if◌then◌else◌, eq-eqb}
use Rattle.std.specs.Prelude.{IsFalse, ◌==◌}
use Rattle.std.specs.Option.{option_map}
use Rattle.pci_spec.specs.Slot.{Slot}
use Rattle.pci_spec.specs.Header.{command, layout, primary_bus, secondary_bus, subordinate_bus}
use Rattle.pci_spec.specs.Window.{WindowKind, IoWindow, MemoryWindow, PrefetchWindow, breaks_window_rule}
use Rattle.pci_spec.specs.System.{Function}
use Rattle.pci_spec.specs.Decoded.{record_of, bridge_of, decoded_bar, decoded_bars, decoded_rom, DecodedBar, decoded_windows}
use Rattle.pci_spec.specs.Decoded as decoded
use Rattle.pci_image.specs.Bars.{decoded_bar_of}
use Rattle.pci_image.specs.Roms.{decoded_rom_of}
use Rattle.pci_image.specs.Windows.{decoded_windows_of, HasLawfulWindows}
use Rattle.pci_function.specs.declared.record.Bridge.{Bridge}
use Rattle.pci_function.specs.declared.record.Record.{Record}
use Rattle.pci_function.specs.Values.{record_value, bridge_value}
use Rattle.pci_function.specs.Decoding.{IsBridgeAt}

lawful_kind : (image probe : List ℕ) (kind : WindowKind) → HasLawfulWindows image probe → IsFalse (breaks_window_rule kind image probe)
lawful_kind image probe IoWindow is = is.io
lawful_kind image probe MemoryWindow is = is.memory
lawful_kind image probe PrefetchWindow is = is.prefetch

pub bridge_is_at : (image probe : List ℕ) (b : Bridge) → HasLawfulWindows image probe → b.primary ≡ primary_bus image → b.secondary ≡ secondary_bus image
    → b.subordinate ≡ subordinate_bus image → decoded_windows_of b.windows ≡ decoded_windows image probe → IsBridgeAt image probe (Some b)
bridge_is_at image probe b is primary secondary subordinate windows = record {
  same = rw (eq-eqb (layout image) 1 is.bridge) cc;
  windows = λ kind bridge. lawful_kind image probe kind is;
}

-- the record of these parts
decoded_record : Slot → ℕ → List DecodedBar → Option decoded.DecodedRom → Option decoded.Bridge → decoded.Record
decoded_record slot c bars rom bridge = record { slot = slot; command = c; bars = bars; rom = rom; bridge = bridge }

same_fields : (s t : Slot) (c d : ℕ) (bars other_bars : List DecodedBar) (rom other_rom : Option decoded.DecodedRom) (bridge other_bridge : Option decoded.Bridge)
    → s ≡ t → c ≡ d → bars ≡ other_bars → rom ≡ other_rom → bridge ≡ other_bridge → decoded_record s c bars rom bridge ≡ decoded_record t d other_bars other_rom other_bridge
same_fields s t c d bars other_bars rom other_rom bridge other_bridge e_slot e_command e_bars e_rom e_bridge = cc

-- a record whose parts are decoded is its function's
pub record_is : (r : Record) (f : Function) → r.slot ≡ f.slot → r.command ≡ command f.image → map decoded_bar_of r.bars.items ≡ decoded_bars f.image f.probe
    → option_map decoded_rom_of r.rom ≡ decoded_rom f.image f.probe → option_map bridge_value r.bridge ≡ (if layout f.image == 1 then Some (bridge_of f.image f.probe) else None)
    → record_value r ≡ record_of f
unfolding decoded_record
record_is r f e_slot e_command e_bars e_rom e_bridge =
    same_fields r.slot f.slot r.command (command f.image) (map decoded_bar_of r.bars.items) (decoded_bars f.image f.probe) (option_map decoded_rom_of r.rom) (decoded_rom f.image f.probe)
    (option_map bridge_value r.bridge) (if layout f.image == 1 then Some (bridge_of f.image f.probe) else None) e_slot e_command e_bars e_rom e_bridge
