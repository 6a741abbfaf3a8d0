-- Functions whose registers may not be written: what of them a table says no to, by what is decoded of each.
use Rattle.std.specs.Prelude.{ℕ, ◌-◌, ◌/◌, Bool, ◌&&◌, not, if◌then◌else◌, List, Option, None, Some}
use Rattle.std.specs.Option.{is_some, option_map, option_or}
use Rattle.std.specs.List.{find}
use Rattle.pci_spec.specs.Registers.{BASE_ADDRESS}
use Rattle.pci_spec.specs.Header.{rom_place}
use Rattle.pci_spec.specs.Window.{WindowKind, IoWindow, MemoryWindow, PrefetchWindow, window_register}
use Rattle.pci_spec.specs.Decoded.{DecodedWindow}
use Rattle.pci_spec.specs.Machine.{Write}
use Rattle.pci_spec.specs.System.{Bar, Window, register_of}
use Rattle.settle_spec.specs.Parts.{FunctionPart}
use Rattle.pci_image.specs.declared.bar.Bar.{Bar as CodeBar}
use Rattle.pci_function.specs.declared.record.Bridge.{Bridge}
use Rattle.pci_function.specs.declared.record.Record.{Record}
use Rattle.pci_tree.specs.Passes.{range_in}
use Rattle.pci_place.specs.declared.above.Above.{Above}
use Rattle.pci_first_fit.specs.declared.own.Terms.{Terms}
use Rattle.pci_first_fit.specs.Own.{is_left_bar}
use Rattle.pci_settle_places.specs.Claims.{is_rom_on}
use Rattle.pci_first_fit.specs.declared.kept.Kept.{Kept}
use Rattle.pci_first_fit.specs.Kept.{kept_of}
use Rattle.pci_settle.specs.declared.lack.SettleFault.{SettleFault}
use Rattle.pci_settle.specs.declared.lack.SettleFault.TheVariants.{Assumed, Fixed}

-- ---- what is named

-- a part of a function whose registers may not be written
abbrev pub fixed_part : FunctionPart → SettleFault
fixed_part r = Fixed r.function.slot (register_of r.function r.part)

-- a part whose read back is assumed
abbrev pub assumed_part : FunctionPart → SettleFault
assumed_part r = Assumed r.function.slot (register_of r.function r.part)

-- a register that may not
abbrev pub fixed_register : Write → SettleFault
fixed_register w = Fixed w.slot w.offset

-- ---- the register of the first part of a record that a table says no to

-- what is told of the first element that passes a test
abbrev pub first : {X Z : Type 0} → (X → Z) → (X → Bool) → List X → Option Z
first value test xs = option_map value (find test xs)

abbrev pub is_bar_without : Above → Terms → Kept → CodeBar → Bool
is_bar_without above t told bar =
    not (is_left_bar bar above t.has_io)
    && not (kept_of told (Bar ((bar.reg - BASE_ADDRESS) / 4)))

abbrev pub bar_without : Above → Terms → Kept → List CodeBar → Option ℕ
bar_without above t told bars = first (λ bar. bar.reg) (is_bar_without above t told) bars

abbrev pub window_without : WindowKind → Option DecodedWindow → Kept → Option ℕ
window_without c w told =
    if is_some (range_in w) && not (kept_of told (Window c)) then Some (window_register c) else None

abbrev pub bridge_without : Option Bridge → Kept → Option ℕ
bridge_without None told = None
bridge_without (Some b) told =
    option_or (window_without IoWindow b.windows.io told)
    (option_or (window_without MemoryWindow (Some b.windows.mem) told)
    (window_without PrefetchWindow b.windows.pref told))

abbrev pub rom_without : Record → Kept → Option ℕ
rom_without r told =
    if is_rom_on r.rom && not told.rom then Some (rom_place (is_some r.bridge)) else None

abbrev pub part_without : Above → Terms → Kept → Record → Option ℕ
part_without above t told r =
    option_or (bar_without above t told r.bars.items)
    (option_or (bridge_without r.bridge told) (rom_without r told))

-- of a function that may be written there is none
abbrev pub record_without : Bool → Above → Terms → Kept → Record → Option SettleFault
record_without fixed above t told r =
    if fixed then option_map (Fixed r.slot) (part_without above t told r) else None
