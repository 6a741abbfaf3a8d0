-- The parts of a record that can stand, and what is said of each.
use Rattle.std.specs.Prelude.{◌/◌, ◌-◌, ◌≤◌, false, not, if◌then◌else◌, List, [], ◌∷◌, ◌++◌, map, Option, None, Some}
use Rattle.std.specs.List.{filter}
use Rattle.pci_spec.specs.Registers.{BASE_ADDRESS}
use Rattle.pci_spec.specs.Window as windows
use Rattle.pci_spec.specs.Decoded as decoded
use Rattle.pci_base.specs.Space.{space_of, is_on}
use Rattle.pci_base.specs.Ranges.{range_of_decoded}
use Rattle.pci_base.specs.declared.range.Range.{Range}
use Rattle.pci_base.specs.declared.space.Space.{Space}
use Rattle.pci_base.specs.declared.space.Space.TheVariants as spaces
use Rattle.pci_base.specs.declared.window_kind.WindowKind.{WindowKind}
use Rattle.pci_base.specs.declared.window_kind.WindowKind.TheVariants as kinds
use Rattle.pci_image.specs.declared.bar.Bar.{Bar}
use Rattle.pci_image.specs.declared.bar.BarKind.{BarKind}
use Rattle.pci_image.specs.declared.bar.BarKind.TheVariants.{Io, Mem32, Mem64}
use Rattle.pci_image.specs.declared.rom.Rom.{Rom}
use Rattle.pci_function.specs.declared.record.Bridge.{Bridge}
use Rattle.pci_function.specs.declared.record.Record.{Record}
use Rattle.pci_tree.specs.Passes.{range_in}
use Rattle.pci_first_fit.specs.declared.over.Over.{Over}
use Rattle.pci_first_fit.specs.declared.own.Terms.{Terms}
use Rattle.pci_first_fit.specs.Own.{is_left_bar, bar_class_of}
use Rattle.pci_kept.specs.declared.region.Owner.{Owner}
use Rattle.pci_first_fit.specs.declared.kept.Part.{Part}
use Rattle.pci_first_fit.specs.declared.kept.Part.TheVariants as parts
use Rattle.pci_kept.specs.declared.region.Region.{Region}

abbrev pub owned_region : Owner → Part → Space → WindowKind → Range → Region
owned_region o part space class range = record {
  function = o.function;
  bus = o.bus;
  level = o.level;
  fixed = o.fixed;
  on = is_on o.command (space_of space);
  leads = false;
  can_stand = false;
  part = part;
  space = space;
  class = class;
  range = range;
}

-- ---- BARs

abbrev pub bar_space : BarKind → Space
bar_space Io = spaces.Io
bar_space Mem32 = spaces.Mem
bar_space Mem64 = spaces.Mem

-- the kind of a window that is such one of the definitions
abbrev pub kind_of : windows.WindowKind → WindowKind
kind_of windows.IoWindow = kinds.Io
kind_of windows.MemoryWindow = kinds.Memory
kind_of windows.PrefetchWindow = kinds.Prefetchable

-- a BAR at a Base Address register
abbrev pub HasBarNumber : Bar → Type 0
HasBarNumber bar = BASE_ADDRESS ≤ bar.reg

abbrev pub owned_bar_region : Owner → Over → Terms → Bar → Region
owned_bar_region o over t bar =
    owned_region o (parts.Bar ((bar.reg - BASE_ADDRESS) / 4)) (bar_space bar.kind)
    (kind_of (bar_class_of bar over t.prefetch_last)) record { first = bar.first; last = bar.last }

abbrev pub owned_bar_regions : Owner → Over → Terms → List Bar → List Region
owned_bar_regions o over t bars =
    map (owned_bar_region o over t) (filter (λ bar. not (is_left_bar bar over.above t.has_io)) bars)

-- ---- windows and the ROM

abbrev pub owned_window_regions : Owner → WindowKind → Space → Option decoded.Range → List Region
owned_window_regions o kind space None = []
owned_window_regions o kind space (Some r) =
    owned_region o (parts.Window kind) space kind (range_of_decoded r) ∷ []

abbrev pub owned_bridge_regions : Owner → Option Bridge → List Region
owned_bridge_regions o None = []
owned_bridge_regions o (Some b) =
    owned_window_regions o kinds.Io spaces.Io (range_in b.windows.io)
    ++ (owned_window_regions o kinds.Memory spaces.Mem b.windows.mem.range
    ++ owned_window_regions o kinds.Prefetchable spaces.Mem (range_in b.windows.pref))

abbrev pub owned_rom_region : Owner → Rom → Region
owned_rom_region o rom =
    owned_region o parts.Rom spaces.Mem kinds.Memory record { first = rom.first; last = rom.last }

abbrev pub owned_rom_regions : Owner → Option Rom → List Region
owned_rom_regions o None = []
owned_rom_regions o (Some rom) = if rom.on then owned_rom_region o rom ∷ [] else []

-- in the order of their registers
abbrev pub record_regions : Owner → Over → Terms → Record → List Region
record_regions o over t r =
    owned_bar_regions o over t r.bars.items ++ (owned_bridge_regions o r.bridge ++ owned_rom_regions o r.rom)
