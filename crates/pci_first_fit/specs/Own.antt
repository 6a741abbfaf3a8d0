-- What a record has to place in a class.
use Rattle.std.specs.Prelude.{◌≡◌, ℕ, ◌+◌, ◌-◌, ◌/◌, ◌%◌, ◌<◌, ◌≤◌, ◌^◌, Bool, false, ◌&&◌, not, if◌then◌else◌, IsTrue, List, [], ◌∷◌, ◌++◌, map, Option, None, Some}
use Rattle.std.specs.Option.{option_map}
use Rattle.std.specs.List.{AllPairs, filter}
use Rattle.std.specs.List.Sorted.{IsPermutation}
use Rattle.pci_spec.specs.Number.{number_at}
use Rattle.pci_spec.specs.Registers.{BASE_ADDRESS}
use Rattle.pci_spec.specs.Window.{WindowKind, IoWindow, MemoryWindow, PrefetchWindow}
use Rattle.pci_spec.specs.System.{System, Function, Part, Bar, Rom, Window, is_bridge, has_part}
use Rattle.plan_spec.specs.Plan.{same_class, greatest}
use Rattle.plan_spec.specs.Plan as plan
use Rattle.settle_spec.specs.FirstPlace.{Extent as ExtentValue}
use Rattle.settle_spec.specs.Lists.{RootRange, Request}
use Rattle.settle_spec.specs.Parts.{FunctionPart, is_empty}
use Rattle.settle_spec.specs.Items.{PlacingItem as ItemValue, highest_of_bar, has_of, items_of}
use Rattle.settle_spec.specs.PlacingLaws.{HasLowerRank}
use Rattle.pci_base.specs.declared.range.Range.{Range as CodeRange}
use Rattle.pci_base.specs.Ranges.{decoded_range_of}
use Rattle.pci_base.specs.WindowKinds.{kind_value}
use Rattle.pci_image.specs.declared.bar.Bar.{Bar as CodeBar}
use Rattle.pci_image.specs.declared.rom.Rom.{Rom as CodeRom}
use Rattle.pci_function.specs.declared.record.Record.{Record}
use Rattle.pci_place.specs.declared.above.Above.{Above}
use Rattle.pci_place.specs.declared.pools.Pools.{Pools}
use Rattle.pci_place.specs.Records.{IsRecordInSystem}
use Rattle.pci_place.specs.Classes.{is_io_kind, bar_class}
use Rattle.pci_place.specs.Items.{function_in}
use Rattle.pci_first_fit.specs.declared.extent.Extent.{Extent}
use Rattle.pci_first_fit.specs.declared.item.Item.{Item}
use Rattle.pci_first_fit.specs.declared.item.Part.{Part as CodePart}
use Rattle.pci_first_fit.specs.declared.item.Part.TheVariants as parts
use Rattle.pci_first_fit.specs.declared.kept.Kept.{Kept}
use Rattle.pci_first_fit.specs.declared.over.Over.{Over}
use Rattle.pci_first_fit.specs.declared.own.Situation.{Situation as CodeSituation}
use Rattle.pci_first_fit.specs.declared.own.Terms.{Terms}
use Rattle.pci_first_fit.specs.Kept.{kept_of}
use Rattle.pci_first_fit.specs.Slots.{Demand, demand_of, spares_value}
use Rattle.pci_first_fit.specs.Over.{range_holds, IsOverBus}
use Rattle.pci_first_fit.specs.Spots.{extent_value}

-- ---- what lists and slots tell

abbrev pub last_of : List RootRange → Option ℕ
last_of [] = None
last_of (r ∷ more) = Some (greatest (map (λ (x : RootRange). x.range.last) (r ∷ more)))

pub record AreTerms (d : Demand) (t : Terms) : Type 0 where
  pub io : t.has_io ≡ not (is_empty d.lists.io)
  pub last : t.prefetch_last ≡ last_of d.lists.prefetch
  pub slots : d.slots ≡ t.slots.now.bridges.now
  pub spares : d.spares ≡ spares_value t.slots.now

-- ---- BARs

-- pools of which the prefetchable one ends at an address
abbrev pub pools_to : ℕ → plan.Pools
pools_to last = record {
  io = record { first = 0; last = 0 };
  memory = record { first = 0; last = 0 };
  prefetch = record { first = 0; last = last };
}

abbrev pub code_pools : ℕ → Pools
code_pools last = record {
  io = record { first = 0; last = 0 };
  mem = record { first = 0; last = 0 };
  pref = record { first = 0; last = last };
}

-- where no open window holds it
abbrev pub class_anew : CodeBar → Above → Option ℕ → WindowKind
class_anew bar above None = if is_io_kind bar.kind then IoWindow else MemoryWindow
class_anew bar above (Some last) = bar_class bar above (code_pools last)

abbrev pub is_held_bar : Option CodeRange → CodeBar → Bool
is_held_bar window bar =
    bar.prefetch && range_holds (option_map decoded_range_of window) record { first = bar.first; last = bar.last }

abbrev pub bar_class_of : CodeBar → Over → Option ℕ → WindowKind
bar_class_of bar over last =
    if is_held_bar over.windows.memory bar then MemoryWindow
    else if is_held_bar over.windows.prefetch bar && over.above.pref then PrefetchWindow
    else class_anew bar over.above last

-- the Base Address register that starts it
abbrev pub first_bar_register : CodeBar → ℕ
first_bar_register bar = (bar.reg - BASE_ADDRESS) / 4

abbrev pub is_left_bar : CodeBar → Above → Bool → Bool
is_left_bar bar above has_io = is_io_kind bar.kind && not (has_io && above.io)

abbrev pub is_own_bar : WindowKind → Over → Terms → Kept → CodeBar → Bool
is_own_bar c over t kept bar =
    not (is_left_bar bar over.above t.has_io) && same_class c (bar_class_of bar over t.prefetch_last)
    && not (kept_of kept (Bar (first_bar_register bar)))

-- there is an address, and all of them can be counted in 64 bits
pub record IsSpanned (first last : ℕ) : Type 0 where
  pub some : first ≤ last
  pub few : last - first + 1 < 2 ^ 64

-- a BAR at a Base Address register
pub record HasBarRegister (bar : CodeBar) : Type 0 where
  pub register : BASE_ADDRESS ≤ bar.reg
  pub aligned : bar.reg % 4 ≡ 0
  pub span : IsSpanned bar.first bar.last

abbrev pub extent_of_size : ℕ → ℕ → ℕ → Extent
extent_of_size first last highest = record {
  size = last - first + 1;
  alignment = last - first + 1;
  highest = highest;
}

-- with what the registers of its function read back
abbrev pub asked_bar_item : ℕ → List ℕ → CodeBar → Item
asked_bar_item k probe bar = record {
  function = k;
  part = parts.Bar (first_bar_register bar);
  extent = extent_of_size bar.first bar.last (highest_of_bar (number_at probe bar.reg 4));
}

abbrev pub asked_bar_items : ℕ → List ℕ → WindowKind → Over → Terms → Kept → List CodeBar → List Item
asked_bar_items k probe c over t kept bars = map (asked_bar_item k probe) (filter (is_own_bar c over t kept) bars)

-- ---- ROMs and windows

abbrev pub rom_item : ℕ → CodeRom → Item
rom_item k rom =
    record { function = k; part = parts.Rom; extent = extent_of_size rom.first rom.last 0xffff_ffff }

abbrev pub asked_rom_items : ℕ → WindowKind → Kept → Option CodeRom → List Item
asked_rom_items k c kept None = []
asked_rom_items k c kept (Some rom) =
    if rom.on && same_class c MemoryWindow && not kept.rom then rom_item k rom ∷ [] else []

abbrev pub asked_window_items : ℕ → WindowKind → Kept → Option Extent → List Item
asked_window_items k c kept None = []
asked_window_items k c kept (Some e) =
    if kept_of kept (Window c) then []
    else record { function = k; part = parts.Window; extent = e } ∷ []

-- ---- all of them

-- what the items of a record are found by: its place among the records, what its function reads back, a class, what is over
-- its bus, what is told of the lists, its new window, and what keeps its place
pub record Situation : Type 0 where
  pub place : ℕ
  pub probe : List ℕ
  pub class : WindowKind
  pub over : Over
  pub terms : Terms
  pub window : Option Extent
  pub kept : Kept

abbrev pub situation : ℕ → List ℕ → WindowKind → Over → Terms → Option Extent → Kept → Situation
situation k probe c over t window kept =
    record { place = k; probe = probe; class = c; over = over; terms = t; window = window; kept = kept }

-- that of the code
abbrev pub situation_value : CodeSituation → Situation
situation_value x =
    situation x.function x.probe.now.0 (kind_value x.class) x.over.now x.terms x.window x.kept.now

-- in the order of their registers
abbrev pub asked_record_items : Situation → Record → List Item
asked_record_items o r =
    asked_bar_items o.place o.probe o.class o.over o.terms o.kept r.bars.items
    ++ (asked_window_items o.place o.class o.kept o.window ++ asked_rom_items o.place o.class o.kept r.rom)

-- ---- their values

abbrev pub class_part : WindowKind → CodePart → Part
class_part c (parts.Bar n) = Bar n
class_part c parts.Rom = Rom
class_part c parts.Window = Window c

abbrev pub asked_item_value : System → WindowKind → Item → ItemValue
asked_item_value s c i = record {
  region = record { function = function_in s i.function; part = class_part c i.part };
  class = c;
  extent = extent_value i.extent;
}

-- the new window of a bridge, where it has something of the class behind it
abbrev pub IsWindowOf : Bool → ExtentValue → Option Extent → Type 0
IsWindowOf there e None = there ≡ false
IsWindowOf there e (Some x) = IsTrue there × (extent_value x ≡ e)

-- what is asked for, which parts keep their places, and the extents of new windows
pub record Asking : Type 0 where
  pub request : Request
  pub keeps : FunctionPart → Bool
  pub extent : Function → ExtentValue

-- the record is that of a function of a system, with these windows over it, this new one, and what keeps its place
pub record IsAskedFor (a : Asking) (s : System) (f : Function) (o : Situation) (r : Record) : Type 0 where
  pub terms : AreTerms (demand_of a.request) o.terms
  pub is : IsRecordInSystem s f r
  pub here : function_in s o.place ≡ f
  pub probe_is : o.probe ≡ f.probe
  pub over_is : IsOverBus a.request s f.slot.bus o.over
  pub new : IsWindowOf (is_bridge f && has_of a.request s o.class f) (a.extent f) o.window
  pub keeps_is : (part : Part) → IsTrue (has_part f part)
      → kept_of o.kept part ≡ a.keeps record { function = f; part = part }

-- the items of a list, by rising slots and registers
pub record AreByRank (items all : List ItemValue) : Type 0 where
  pub same : IsPermutation items all
  pub rising : AllPairs HasLowerRank items

-- then its items are those of the function
abbrev pub AreItemsOf : Situation → Record → Type 0
AreItemsOf o r =
    (a : Asking) (s : System) (f : Function) → IsAskedFor a s f o r
    → AreByRank (map (asked_item_value s o.class) (asked_record_items o r))
    (items_of a.request s o.class a.keeps a.extent f)
