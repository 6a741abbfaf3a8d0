-- What is placed in the code, as the definitions have it.
use Rattle.std.specs.Prelude.{◌≡◌, ℕ, ◌/◌, ◌-◌, ◌<◌, ◌≤◌, nat_lt, if◌then◌else◌, IsTrue, List, [], ◌∷◌, ◌++◌, map, Option, None, Some, length, slice_index, slice_index_or}
use Rattle.std.specs.List.{All, filter}
use Rattle.std.specs.List.Sorted.{IsStrictlyIncreasing}
use Rattle.pci_spec.specs.Registers.{BASE_ADDRESS}
use Rattle.pci_spec.specs.Window.{WindowKind, MemoryWindow}
use Rattle.pci_spec.specs.System.{System, Function, IsSystem, Part, Bar, Rom, Window, is_bridge}
use Rattle.pci_spec.specs.Bus.{secondary, IsNested}
use Rattle.plan_spec.specs.Plan.{Pools, same_class, window_size}
use Rattle.plan_spec.specs.Place.{Item}
use Rattle.plan_spec.specs.Planning.Sorted.{all_items, group_of}
use Rattle.pci_image.specs.declared.bar.Bar.{Bar as CodeBar}
use Rattle.pci_image.specs.declared.rom.Rom.{Rom as CodeRom}
use Rattle.pci_function.specs.declared.record.Bridge.{Bridge}
use Rattle.pci_function.specs.declared.record.Record.{Record}
use Rattle.pci_place.specs.declared.above.Above.{Above}
use Rattle.pci_place.specs.declared.pools.Pools.{Pools as CodePools}
use Rattle.pci_place.specs.declared.item.Item.{Item as CodeItem}
use Rattle.pci_place.specs.declared.item.Owner.{Owner}
use Rattle.pci_place.specs.declared.item.Part.{Part as CodePart}
use Rattle.pci_place.specs.declared.item.Part.TheVariants as parts
use Rattle.pci_place.specs.Classes.{bar_class}
use Rattle.pci_place.specs.Sizes.{span}

abbrev pub part_value : WindowKind → CodePart → Part
part_value c (parts.Bar n) = Bar n
part_value c parts.Rom = Rom
part_value c (parts.Window bus) = Window c

-- a header has six Base Address registers at most
abbrev pub IsPart : CodePart → Type 0
IsPart (parts.Bar n) = n < 6
IsPart parts.Rom = Unit {0}
IsPart (parts.Window bus) = Unit {0}

-- ---- the items of a record

abbrev pub owned : Owner → CodePart → ℕ → CodeItem
owned o part size = record { function = o.function; group = o.group; part = part; size = size }

-- a BAR at a Base Address register, with some address
abbrev pub IsBar : CodeBar → Type 0
IsBar bar = (BASE_ADDRESS ≤ bar.reg) × (bar.first ≤ bar.last)

abbrev pub bar_item : Owner → CodeBar → CodeItem
bar_item o bar = owned o (parts.Bar ((bar.reg - BASE_ADDRESS) / 4)) (span bar.first bar.last)

-- the BARs of a class
abbrev pub bar_items : Owner → WindowKind → Above → CodePools → List CodeBar → List CodeItem
bar_items o c above pools bars =
    map (bar_item o) (filter (λ bar. same_class c (bar_class bar above pools)) bars)

-- the window of a bridge with something behind it, by what the buses need
abbrev pub window_items : Owner → WindowKind → List ℕ → Option Bridge → List CodeItem
window_items o c needs None = []
window_items o c needs (Some b) =
    if nat_lt 0 (slice_index needs b.secondary)
    then owned o (parts.Window b.secondary) (window_size c (slice_index needs b.secondary)) ∷ []
    else []

-- a ROM, which is memory
abbrev pub rom_items : Owner → WindowKind → Option CodeRom → List CodeItem
rom_items o c None = []
rom_items o c (Some rom) =
    if same_class c MemoryWindow then owned o parts.Rom (span rom.first rom.last) ∷ [] else []

-- in the order of their registers
abbrev pub record_items : Owner → WindowKind → Above → CodePools → List ℕ → Record → List CodeItem
record_items o c above pools needs r =
    bar_items o c above pools r.bars.items
    ++ (window_items o c needs r.bridge ++ rom_items o c r.rom)

-- ---- their values

-- stands for no function of a system
abbrev pub no_function : Function
no_function = record { slot = record { bus = 0; device = 0; function = 0 }; image = []; probe = [] }

abbrev pub function_in : System → ℕ → Function
function_in s k = slice_index_or s k no_function

abbrev pub item_value : System → WindowKind → CodeItem → Item
item_value s c i =
    record { function = function_in s i.function; part = part_value c i.part; size = i.size }

-- a window is that around what is behind its bridge
abbrev pub IsItemPartOf : Function → CodePart → Type 0
IsItemPartOf f (parts.Bar n) = n < 6
IsItemPartOf f parts.Rom = Unit {0}
IsItemPartOf f (parts.Window bus) = IsTrue (is_bridge f) × (secondary f ≡ bus)

pub record IsItemIn (roots : List ℕ) (s : System) (i : CodeItem) : Type 0 where
  pub within : i.function < length s
  pub group : i.group ≡ group_of roots (function_in s i.function).slot.bus
  pub part : IsItemPartOf (function_in s i.function) i.part

-- a lawful system below roots that are named once
pub record IsRooted (roots : List ℕ) (s : System) : Type 0 where
  pub system : IsSystem s
  pub nested : IsNested roots s
  pub rising : IsStrictlyIncreasing roots

-- the items of a class, in the order of slots and registers
pub record AreItems (roots : List ℕ) (s : System) (pools : Pools) (c : WindowKind)
    (items : List CodeItem) : Type 0 where
  pub all : map (item_value s c) items ≡ all_items s pools c
  pub each : All (IsItemIn roots s) items
