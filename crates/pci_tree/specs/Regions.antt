-- The regions of a record, in the order of their registers.
use Rattle.std.specs.Prelude.{◌≡◌, ℕ, ◌+◌, ◌*◌, ◌<◌, ◌≤◌, ◌↔◌, Bool, true, false, if◌then◌else◌, List, [], ◌∷◌, ◌++◌, map, Option, None, Some, IfSome}
use Rattle.std.specs.List.{All, AllPairs, Contains, filter, flat_map}
use Rattle.pci_spec.specs.Slot.{Slot, slot_number}
use Rattle.pci_spec.specs.Window.{WindowKind, IoWindow, MemoryWindow, PrefetchWindow, window_register}
use Rattle.pci_spec.specs.Decoded.{Range as DecodedRange}
use Rattle.pci_spec.specs.System as system
use Rattle.pci_image.specs.declared.bar.Bar.{Bar}
use Rattle.pci_image.specs.declared.bar.BarKind.{BarKind}
use Rattle.pci_image.specs.declared.bar.BarKind.TheVariants as kinds
use Rattle.pci_image.specs.declared.rom.Rom.{Rom}
use Rattle.pci_image.specs.declared.window.Windows.{Windows}
use Rattle.pci_function.specs.declared.record.Bridge.{Bridge}
use Rattle.pci_function.specs.declared.record.Record.{Record}
use Rattle.pci_tree.specs.declared.region.Region.{Region}
use Rattle.pci_tree.specs.declared.region.Part.{Part}
use Rattle.pci_tree.specs.declared.region.Part.TheVariants as parts
use Rattle.pci_base.specs.Space.{is_on}
use Rattle.pci_tree.specs.Passes.{range_in}

-- the space that a kind of BAR maps into
abbrev pub space_in : BarKind → system.Space
space_in kinds.Io = system.Io
space_in kinds.Mem32 = system.Memory
space_in kinds.Mem64 = system.Memory

abbrev pub same_space : system.Space → system.Space → Bool
same_space system.Io system.Io = true
same_space system.Io system.Memory = false
same_space system.Memory system.Io = false
same_space system.Memory system.Memory = true

abbrev pub bar_region : Slot → Bar → Region
bar_region slot b =
    record {
      slot = slot;
      reg = b.reg;
      part = parts.Bar;
      prefetch = b.prefetch;
      first = b.first;
      last = b.last;
    }

abbrev pub is_bar_of : system.Space → Bar → Bool
is_bar_of space b = same_space (space_in b.kind) space

abbrev pub bar_regions : Slot → system.Space → List Bar → List Region
bar_regions slot space bars = map (bar_region slot) (filter (is_bar_of space) bars)

abbrev pub window_region : Slot → ℕ → DecodedRange → Region
window_region slot reg range =
    record {
      slot = slot;
      reg = reg;
      part = parts.Window;
      prefetch = false;
      first = range.first;
      last = range.last;
    }

-- the region of a window, where it is open
abbrev pub window_regions : Slot → ℕ → Option DecodedRange → List Region
window_regions slot reg None = []
window_regions slot reg (Some range) = window_region slot reg range ∷ []

-- the range of a window of a bridge, where it is there and open
abbrev pub window_in : WindowKind → Windows → Option DecodedRange
window_in IoWindow w = range_in w.io
window_in MemoryWindow w = w.mem.range
window_in PrefetchWindow w = range_in w.pref

abbrev pub kinds_in : system.Space → List WindowKind
kinds_in system.Io = IoWindow ∷ []
kinds_in system.Memory = MemoryWindow ∷ PrefetchWindow ∷ []

abbrev pub kind_regions : Slot → Windows → WindowKind → List Region
kind_regions slot windows kind = window_regions slot (window_register kind) (window_in kind windows)

abbrev pub bridge_regions : Slot → system.Space → Option Bridge → List Region
bridge_regions slot space None = []
bridge_regions slot space (Some b) = flat_map (kind_regions slot b.windows) (kinds_in space)

abbrev pub rom_region : Slot → Rom → Region
rom_region slot r =
    record
    { slot = slot; reg = r.reg; part = parts.Rom; prefetch = false; first = r.first; last = r.last }

-- the region of a ROM, which lies in memory space and has to be enabled by its own bit
abbrev pub rom_regions : Slot → system.Space → Option Rom → List Region
rom_regions slot space None = []
rom_regions slot system.Io (Some r) = []
rom_regions slot system.Memory (Some r) = if r.on then rom_region slot r ∷ [] else []

abbrev pub regions_of : Record → system.Space → List Region
regions_of r space =
    if is_on r.command space
    then bar_regions r.slot space r.bars.items ++ bridge_regions r.slot space r.bridge
    ++ rom_regions r.slot space r.rom
    else []

-- ---- what a region is of

abbrev pub name_of : system.Part → Part
name_of (system.Bar n) = parts.Bar
name_of system.Rom = parts.Rom
name_of (system.Window kind) = parts.Window

-- the region is that of the function's part, and has the addresses that the part claims
pub record IsRegionOf (f : system.Function) (part : system.Part) (space : system.Space)
    (q : Region) : Type 0 where
  pub slot : q.slot ≡ f.slot
  pub register : q.reg ≡ system.register_of f part
  pub named : q.part ≡ name_of part
  pub prefetch : q.prefetch ≡ system.is_prefetchable_part f part
  pub some : q.first ≤ q.last
  pub claims : (a : ℕ) → ((q.first ≤ a) × (a ≤ q.last)) ↔ system.Claims f part space a

-- the place of a region in the order of slots and registers
abbrev pub region_number : Region → ℕ
region_number q = slot_number q.slot * 256 + q.reg

-- a region of a bus of the system
pub record IsRegionOn (s : system.System) (bus : ℕ) (space : system.Space)
    (q : Region) : Type 0 where
  pub f : system.Function
  pub part : system.Part
  pub listed : Contains s f
  pub on_bus : f.slot.bus ≡ bus
  pub is : IsRegionOf f part space q

-- the list has the region of a function's part
pub record HasRegionOf (qs : List Region) (f : system.Function) (part : system.Part)
    (space : system.Space) : Type 0 where
  pub q : Region
  pub has : Contains qs q
  pub is : IsRegionOf f part space q

-- each part of the functions of a bus that claims some address of the space is in the list
abbrev pub HasEachRegion : system.System → ℕ → system.Space → List Region → Type 0
HasEachRegion s bus space qs =
    (f : system.Function) (part : system.Part) (a : ℕ) → Contains s f → f.slot.bus ≡ bus
    → system.Claims f part space a → HasRegionOf qs f part space

-- the regions of a bus and space, in the order of slots and registers
pub record AreRegionsOf (s : system.System) (bus : ℕ) (space : system.Space)
    (qs : List Region) : Type 0 where
  pub each : (q : Region) → Contains qs q → IsRegionOn s bus space q
  pub complete : HasEachRegion s bus space qs
  pub rising : AllPairs (λ p q. region_number p < region_number q) qs

-- ---- what a lawful record keeps

-- there is an address, and all are of the space
abbrev pub IsSpanIn : system.Space → ℕ → ℕ → Type 0
IsSpanIn space first last = (first ≤ last) × system.IsAddress space last

pub record IsLawful (r : Record) : Type 0 where
  pub bars : All (λ b. IsSpanIn (space_in b.kind) b.first b.last) r.bars.items
  pub windows : IfSome r.bridge (λ b. (kind : WindowKind)
      → IfSome (window_in kind b.windows) (λ w. IsSpanIn (system.window_space kind) w.first w.last))
  pub rom : IfSome r.rom (λ x. IsSpanIn system.Memory x.first x.last)

-- whether a region is a window
abbrev pub is_of_window : Part → Bool
is_of_window parts.Bar = false
is_of_window parts.Rom = false
is_of_window parts.Window = true
