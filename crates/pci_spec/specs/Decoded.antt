-- What the registers of a function decode to: ranges of addresses, and the numbers that placing and judging read.
use Rattle.std.specs.Prelude.{◌≡◌, ℕ, ◌+◌, ◌*◌, ◌/◌, ◌-◌, ◌^◌, ◌<◌, ◌≤◌, ◌==◌, Bool, if◌then◌else◌, IsFalse, List, map, Option, None, Some}
use Rattle.std.specs.List.{All, filter, range_with_len}
use Rattle.pci_spec.specs.Number.{lowest_one}
use Rattle.pci_spec.specs.Slot.{Slot}
use Rattle.pci_spec.specs.Header.{command, layout, primary_bus, secondary_bus, subordinate_bus, bar_count, bar_register, rom_register}
use Rattle.pci_spec.specs.Bar.{BarKind, bar_at, bar_kind, bar_fault, is_io, is_prefetchable, has_bar, whole_bar}
use Rattle.pci_spec.specs.Rom.{rom_at, has_rom, rom_is_on, breaks_rom_rule}
use Rattle.pci_spec.specs.Window.{WindowKind, IoWindow, MemoryWindow, PrefetchWindow, has_window, is_wide_window, is_closed, base_page, limit_page, page_size, breaks_window_rule}
use Rattle.pci_spec.specs.System.{Function, System}
use Rattle.pci_spec.specs.Fault.{has_no_vendor, has_other_layout}

-- the addresses from first to last, both of them too
pub record Range : Type 0 where
  pub first : ℕ
  pub last : ℕ

abbrev pub InRange : Range → ℕ → Type 0
InRange r a = (r.first ≤ a) × (a ≤ r.last)

-- the addresses whose bits agree with a value from the lowest bit of a size upward, the size being a power of two
abbrev pub aligned_range : ℕ → ℕ → Range
aligned_range value size =
    record { first = value / size * size; last = value / size * size + (size - 1) }

-- ---- BARs

-- how many addresses the BAR at register n has, by its read back
abbrev pub bar_size : List ℕ → ℕ → ℕ
bar_size probe n =
    2 ^ lowest_one (if is_io (bar_at probe n) then 2 else 4) (whole_bar probe probe n)

pub record DecodedBar : Type 0 where
  pub register : ℕ
  pub kind : BarKind
  pub prefetchable : Bool
  pub range : Range

abbrev pub decoded_bar : List ℕ → List ℕ → ℕ → DecodedBar
decoded_bar image probe n = record {
  register = bar_register n;
  kind = bar_kind (bar_at probe n);
  prefetchable = is_prefetchable (bar_at probe n);
  range = aligned_range (whole_bar probe image n) (bar_size probe n);
}

-- the implemented BARs, in the order of their registers
abbrev pub decoded_bars : List ℕ → List ℕ → List DecodedBar
decoded_bars image probe =
    map (decoded_bar image probe)
    (filter (has_bar probe) (range_with_len 0 (bar_count (layout image))))

-- ---- the ROM

abbrev pub rom_size : List ℕ → List ℕ → ℕ
rom_size image probe = 2 ^ lowest_one 0 (rom_at image probe)

pub record DecodedRom : Type 0 where
  pub register : ℕ
  -- its own enable bit
  pub on : Bool
  pub range : Range

abbrev pub decoded_rom : List ℕ → List ℕ → Option DecodedRom
decoded_rom image probe =
    if has_rom image probe
    then Some record {
      register = rom_register (layout image);
      on = rom_is_on image;
      range = aligned_range (rom_at image image) (rom_size image probe);
    }
    else None

-- ---- windows of a bridge

pub record DecodedWindow : Type 0 where
  -- whether its upper halves are there
  pub wide : Bool
  -- None where it is closed
  pub range : Option Range

-- from the first address of the base's page to the last of the limit's
abbrev pub window_range : WindowKind → List ℕ → Option Range
window_range kind image =
    if is_closed kind image then None
    else Some record {
      first = base_page kind image * page_size kind;
      last = limit_page kind image * page_size kind + (page_size kind - 1);
    }

abbrev pub decoded_window : WindowKind → List ℕ → List ℕ → DecodedWindow
decoded_window kind image probe =
    record { wide = is_wide_window kind probe; range = window_range kind image }

abbrev pub optional_window : WindowKind → List ℕ → List ℕ → Option DecodedWindow
optional_window kind image probe =
    if has_window kind probe then Some (decoded_window kind image probe) else None

pub record DecodedWindows : Type 0 where
  pub io : Option DecodedWindow
  pub memory : DecodedWindow
  pub prefetch : Option DecodedWindow

abbrev pub decoded_windows : List ℕ → List ℕ → DecodedWindows
decoded_windows image probe = record {
  io = optional_window IoWindow image probe;
  memory = decoded_window MemoryWindow image probe;
  prefetch = optional_window PrefetchWindow image probe;
}

-- ---- a function's record: all that judging needs of it

pub record Bridge : Type 0 where
  pub primary : ℕ
  pub secondary : ℕ
  pub subordinate : ℕ
  pub windows : DecodedWindows

pub record Record : Type 0 where
  pub slot : Slot
  pub command : ℕ
  pub bars : List DecodedBar
  pub rom : Option DecodedRom
  pub bridge : Option Bridge

abbrev pub bridge_of : List ℕ → List ℕ → Bridge
bridge_of image probe = record {
  primary = primary_bus image;
  secondary = secondary_bus image;
  subordinate = subordinate_bus image;
  windows = decoded_windows image probe;
}

abbrev pub record_of : Function → Record
record_of f = record {
  slot = f.slot;
  command = command f.image;
  bars = decoded_bars f.image f.probe;
  rom = decoded_rom f.image f.probe;
  bridge = if layout f.image == 1 then Some (bridge_of f.image f.probe) else None;
}

-- the header and the address registers of a function decode: none of their rules is broken
pub record IsDecodable (f : Function) : Type 0 where
  pub vendor : IsFalse (has_no_vendor f.image)
  pub header : IsFalse (has_other_layout f.image)
  pub bars : (n : ℕ) → n < bar_count (layout f.image) → bar_fault f.image f.probe n ≡ None
  pub rom : IsFalse (breaks_rom_rule f.image f.probe)
  pub windows : (kind : WindowKind) → layout f.image ≡ 1
      → IsFalse (breaks_window_rule kind f.image f.probe)

-- a system whose functions decode to these records
pub record HasRecords (s : System) (records : List Record) : Type 0 where
  pub decodable : All IsDecodable s
  pub same : map record_of s ≡ records
