-- Where the parts of functions are before any wish, by what tables of the code tell: where they stay, or else at their places.
use Rattle.std.specs.Prelude.{◌≡◌, ℕ, ◌<◌, ◌+◌, ◌-◌, ◌/◌, Bool, false, if◌then◌else◌, List, length, Option, None, Some, slice_index_or}
use Rattle.std.specs.Option.{option_map, option_or}
use Rattle.std.specs.List.{All, list_any, sum_by, range_with_len}
use Rattle.pci_spec.specs.Registers.{BASE_ADDRESS}
use Rattle.pci_spec.specs.Slot.{Slot, same_slot}
use Rattle.pci_spec.specs.Window.{WindowKind}
use Rattle.pci_spec.specs.Decoded.{Range as DecodedRange}
use Rattle.pci_spec.specs.System.{Memory, Bar, Window}
use Rattle.pci_base.specs.declared.range.Range.{Range}
use Rattle.pci_base.specs.declared.window_kind.ByKind.{ByKind}
use Rattle.pci_base.specs.declared.window_kind.WindowKind.{WindowKind as CodeKind}
use Rattle.pci_base.specs.Ranges.{decoded_range_of}
use Rattle.pci_base.specs.WindowKinds.{kind_value}
use Rattle.pci_image.specs.declared.bar.Bar.{Bar as CodeBar}
use Rattle.pci_image.specs.declared.rom.Rom.{Rom as CodeRom}
use Rattle.pci_image.specs.Windows.{window_of}
use Rattle.pci_function.specs.declared.record.Bridge.{Bridge}
use Rattle.pci_function.specs.declared.record.Record.{Record}
use Rattle.pci_tree.specs.Passes.{range_in}
use Rattle.pci_tree.specs.Regions.{space_in}
use Rattle.pci_first_fit.specs.declared.kept.Kept.{Kept}
use Rattle.pci_first_fit.specs.Kept.{kept_of}
use Rattle.pci_first_fit.specs.Keeping.{told_of_kind}
use Rattle.pci_first_fit.specs.Tables.{untold, told}
use Rattle.pci_settle_places.specs.declared.places.Places.{Places}
use Rattle.pci_settle_places.specs.Places.{place_range_in}
use Rattle.pci_settle_places.specs.Shown.{HasRegister}
use Rattle.pci_grow.specs.declared.fill.Located.{Located}
use Rattle.pci_grow.specs.RoomRows.{bus_level, row_number}
use Rattle.pci_grow.specs.Located.{told_weight, located_total}
use Rattle.pci_settle.specs.declared.tables.Tables.{Tables}

-- ---- windows

-- one that stays is where it grows to, or else where it is
abbrev pub window_before : Option DecodedRange → Option DecodedRange → Bool → Option DecodedRange → Option DecodedRange
window_before own place kept grown = if kept then option_or grown own else place

-- those of a function; None of what is no bridge
abbrev pub windows_before : Option Bridge → Places → Kept → ByKind (Option Range) → WindowKind → Option DecodedRange
windows_before None p kept grown c = None
windows_before (Some b) p kept grown c =
    window_before (range_in (window_of b.windows c)) (option_map decoded_range_of (place_range_in p (Window c)))
    (kept_of kept (Window c)) (option_map decoded_range_of (told_of_kind grown c))

-- what is told of a function
pub record IsToldAt (records : List Record) (t : Tables) (k : ℕ) (r : Record) (p : Places) (kept : Kept) : Type 0 where
  pub within : k < length records
  pub record_is : r ≡ slice_index_or records k r
  pub places_are : p ≡ slice_index_or t.places.now k p
  pub kept_is : kept ≡ slice_index_or t.staying.now k kept

-- a table tells the windows of the first functions
abbrev pub AreWindowsBefore : List Record → Tables → ℕ → List (ByKind (Option Range)) → Type 0
AreWindowsBefore records t count table =
    (k : ℕ) (r : Record) (p : Places) (kept : Kept) (class : CodeKind) → k < count
    → IsToldAt records t k r p kept
    → option_map decoded_range_of (told table k class)
    ≡ windows_before r.bridge p kept (slice_index_or t.grown.now k untold) (kind_value class)

-- ---- BARs and ROMs

abbrev pub bar_before : CodeBar → Places → Kept → Option Range
bar_before bar p kept =
    if kept_of kept (Bar ((bar.reg - BASE_ADDRESS) / 4)) then Some record { first = bar.first; last = bar.last }
    else place_range_in p (Bar ((bar.reg - BASE_ADDRESS) / 4))

abbrev pub rom_before : Option CodeRom → Places → Kept → Option Range
rom_before None p kept = p.rom
rom_before (Some rom) p kept = if kept.rom then Some record { first = rom.first; last = rom.last } else p.rom

-- what they weigh in a row
abbrev pub bar_weight : List ℕ → (DecodedRange → ℕ) → ℕ → ℕ → Places → Kept → CodeBar → ℕ
bar_weight roots weight n bus p kept bar =
    told_weight weight (row_number (bus_level roots bus) (space_in bar.kind)) n (bar_before bar p kept)

abbrev pub rom_weight : List ℕ → (DecodedRange → ℕ) → ℕ → ℕ → Places → Kept → Option CodeRom → ℕ
rom_weight roots weight n bus p kept rom =
    told_weight weight (row_number (bus_level roots bus) Memory) n (rom_before rom p kept)

abbrev pub bars_weight : List ℕ → (DecodedRange → ℕ) → ℕ → Record → Places → Kept → ℕ
bars_weight roots weight n r p kept = sum_by (bar_weight roots weight n r.slot.bus p kept) r.bars.items

abbrev pub record_weight : List ℕ → (DecodedRange → ℕ) → ℕ → Record → Places → Kept → ℕ
record_weight roots weight n r p kept =
    bars_weight roots weight n r p kept + rom_weight roots weight n r.slot.bus p kept r.rom

-- a list has the BARs and ROMs of the first functions
abbrev pub AreOwnBefore : List Record → Tables → ℕ → List Located → Type 0
AreOwnBefore records t count parts =
    (roots : List ℕ) (weight : DecodedRange → ℕ) (n : ℕ) (per : ℕ → ℕ)
    → ((k : ℕ) (r : Record) (p : Places) (kept : Kept) → IsToldAt records t k r p kept
    → record_weight roots weight n r p kept ≡ per k)
    → located_total roots weight n parts ≡ sum_by per (range_with_len 0 count)

-- each BAR is at a Base Address register
abbrev pub HaveRegisters : List Record → Type 0
HaveRegisters records = All (λ r. All HasRegister r.bars.items) records

-- ---- flags by function

pub record AreFlagsOf (records : List Record) (slots : List Slot) (flags : List Bool) : Type 0 where
  pub count : length flags ≡ length records
  pub each : (k : ℕ) (r : Record) → k < length records → r ≡ slice_index_or records k r
      → slice_index_or flags k false ≡ list_any (same_slot r.slot) slots
