-- What of a record has an assumed read back, by what is decoded of it.
use Rattle.std.specs.Prelude.{ℕ, ◌&&◌, if◌then◌else◌, List, Option, None, Some}
use Rattle.std.specs.Option.{is_some, option_map, option_or}
use Rattle.pci_spec.specs.Slot.{Slot}
use Rattle.pci_spec.specs.Header.{rom_place}
use Rattle.pci_spec.specs.Mark.{AssumedRegister, is_size_assumed}
use Rattle.pci_image.specs.declared.bar.Bar.{Bar as CodeBar}
use Rattle.pci_function.specs.declared.record.Record.{Record}
use Rattle.pci_settle_places.specs.Claims.{is_rom_on}
use Rattle.pci_settle.specs.Fixed.{first}
use Rattle.pci_settle.specs.declared.lack.SettleFault.{SettleFault}
use Rattle.pci_settle.specs.declared.lack.SettleFault.TheVariants.{Assumed}

abbrev pub bar_assumed : List AssumedRegister → Slot → List CodeBar → Option ℕ
bar_assumed named slot bars = first (λ bar. bar.reg) (λ bar. is_size_assumed named slot bar.reg) bars

abbrev pub rom_assumed : List AssumedRegister → Record → Option ℕ
rom_assumed named r =
    if is_rom_on r.rom && is_size_assumed named r.slot (rom_place (is_some r.bridge))
    then Some (rom_place (is_some r.bridge)) else None

abbrev pub record_assumed : List AssumedRegister → Record → Option SettleFault
record_assumed named r =
    option_map (Assumed r.slot)
    (option_or (bar_assumed named r.slot r.bars.items) (rom_assumed named r))
