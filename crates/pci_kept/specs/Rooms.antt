-- What is taken on a bus, and the room that a window has for what is behind it.
use Rattle.std.specs.Prelude.{◌≡◌, ℕ, ◌==◌, Bool, ◌&&◌, IsFalse, List, ◌++◌, map, Option, None, slice_index_or}
use Rattle.std.specs.List.{filter}
use Rattle.std.specs.List.Sorted.{IsPermutation}
use Rattle.pci_spec.specs.Window.{WindowKind}
use Rattle.pci_spec.specs.Decoded.{Range as DecodedRange}
use Rattle.pci_spec.specs.System.{System, Function, Space, IsSystem}
use Rattle.pci_spec.specs.Bus.{secondary, is_root}
use Rattle.settle_spec.specs.FirstPlace.{Extent as ExtentValue}
use Rattle.settle_spec.specs.Lists.{Request}
use Rattle.settle_spec.specs.Parts.{FunctionPart, addresses, are_same_space}
use Rattle.settle_spec.specs.Stands.{window_part}
use Rattle.settle_spec.specs.Lines.{lines_on, taken_for}
use Rattle.settle_spec.specs.Items.{PlacingItem as ItemValue, place_each, place_in, are_placed, bus_items, new_window}
use Rattle.pci_base.specs.declared.range.Range.{Range}
use Rattle.pci_base.specs.Ranges.{decoded_range_of}
use Rattle.pci_base.specs.Space.{space_of}
use Rattle.pci_first_fit.specs.declared.item.Item.{Item}
use Rattle.pci_first_fit.specs.declared.kept.Kept.{Kept}
use Rattle.pci_first_fit.specs.declared.lines.Line.{Line}
use Rattle.pci_first_fit.specs.declared.placing.Wanted.{Wanted}
use Rattle.pci_first_fit.specs.Kept.{spec_part, kept_of, nothing_kept}
use Rattle.pci_first_fit.specs.Buses.{Listing, IsListingOf}
use Rattle.pci_first_fit.specs.Lines.{AreLines}
use Rattle.pci_kept.specs.declared.region.Region.{Region as CodeRegion}
use Rattle.pci_kept.specs.Known.{AreParts}

-- ---- what is taken

abbrev pub region_bus : CodeRegion → ℕ
region_bus r = r.bus

abbrev pub region_range : CodeRegion → Range
region_range r = r.range

-- whether a part is of a space and keeps its place
abbrev pub is_taken : Space → List Kept → CodeRegion → Bool
is_taken space table r =
    are_same_space space (space_of r.space)
    && kept_of (slice_index_or table r.function nothing_kept) (spec_part r.part)

-- and is on a bus
abbrev pub is_taken_on : ℕ → Space → List Kept → CodeRegion → Bool
is_taken_on bus space table r = bus == r.bus && is_taken space table r

-- on a bus behind a bridge that is taken, and what lines hold there, in some order
abbrev pub AreTakenBehindBridge : List CodeRegion → List Line → ℕ → Space → List Kept → List Range → Type 0
AreTakenBehindBridge regions lines bus space table taken =
    (q : Request) → AreLines q.roots q.told.ranges lines → IsFalse (is_root q.roots bus)
    → IsPermutation
    (lines_on q space bus
    ++ map decoded_range_of (map region_range (filter (is_taken_on bus space table) regions)))
    (map decoded_range_of taken)

-- ---- room

abbrev pub wanted_value : Item → Wanted
wanted_value i = record { extent = i.extent; list = 0; at = None }

-- the first place of an item in a range, off what is taken, and off what lines hold behind it
abbrev pub place_off : Request → DecodedRange → ItemValue → List DecodedRange → Option ℕ
place_off q r i taken = place_in r i (taken_for q i.region taken)

-- with these extents of new windows a range has room for the items of a bus exactly where it has with their own
abbrev pub HasSameRoom : Request → System → WindowKind → (FunctionPart → Bool) → (Function → ExtentValue) → DecodedRange → ℕ → Type 0
HasSameRoom q s c keeps extent r bus =
    (taken : List DecodedRange)
    → are_placed (place_each (place_off q r) taken (bus_items q s c keeps extent bus))
    ≡ are_placed (place_each (place_off q r) taken (bus_items q s c keeps (new_window q s c) bus))

-- this is listed for the bus behind a bridge, and these are the parts of the system, the told ranges, and the bridge's window
pub record IsRoomOf (l : Listing) (regions : List CodeRegion) (lines : List Line) (range : Range) (q : Request)
    (keeps : FunctionPart → Bool) (b : Function) : Type 0 where
  pub system : IsSystem l.classing.system
  pub extent : Function → ExtentValue
  pub listed : IsListingOf record { request = q; keeps = keeps; extent = extent } l
  pub parts : AreParts q l.classing.system regions
  pub told : AreLines q.roots q.told.ranges lines
  pub bus_is : secondary b ≡ l.bus
  pub no_root : IsFalse (is_root q.roots l.bus)
  pub range_is : decoded_range_of range ≡ addresses (window_part l.class b)
  pub same : HasSameRoom q l.classing.system l.class keeps extent
      (addresses (window_part l.class b)) l.bus
