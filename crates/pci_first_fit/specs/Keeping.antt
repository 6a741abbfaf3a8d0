-- What stays, and where, as tables of the code tell it: which parts stay, what windows that grow come to, and the places of
-- the items in these.
use Rattle.std.specs.Prelude.{◌≡◌, ℕ, ◌<◌, ◌^◌, IsTrue, List, Option, None, Some, IfSome, slice_get, slice_index_or}
use Rattle.std.specs.List.{Contains}
use Rattle.std.specs.Option.{option_map}
use Rattle.pci_spec.specs.Decoded.{Range as DecodedRange}
use Rattle.pci_spec.specs.Window.{WindowKind, IoWindow, MemoryWindow, PrefetchWindow}
use Rattle.pci_spec.specs.System.{System, Function, Part, Bar, Rom, Window, has_part, is_bridge, window_space}
use Rattle.pci_spec.specs.Bus.{secondary}
use Rattle.settle_spec.specs.Lists.{Request}
use Rattle.settle_spec.specs.Parts.{FunctionPart, addresses}
use Rattle.settle_spec.specs.Stands.{window_part, stands}
use Rattle.settle_spec.specs.Items.{PlacingItem, taken_by, place_in}
use Rattle.settle_spec.specs.Kept.{Kept, range_or}
use Rattle.settle_spec.specs.Keeping.Places.{space_items}
use Rattle.pci_base.specs.declared.range.Range.{Range}
use Rattle.pci_base.specs.declared.window_kind.ByKind.{ByKind}
use Rattle.pci_base.specs.Ranges.{decoded_range_of}
use Rattle.pci_first_fit.specs.declared.over.Left.{Left}
use Rattle.pci_first_fit.specs.Kept.{AreKeptParts}
use Rattle.pci_first_fit.specs.Tables.{untold, AreForward}
use Rattle.pci_first_fit.specs.PlaceTables.{placed}

-- what is told of a window of a kind
abbrev pub told_of_kind : ByKind (Option Range) → WindowKind → Option Range
told_of_kind t IoWindow = t.io
told_of_kind t MemoryWindow = t.memory
told_of_kind t PrefetchWindow = t.prefetchable

-- what a part of a function comes to where it grows: no BAR or ROM does
abbrev pub grown_of : List (ByKind (Option Range)) → ℕ → Part → Option DecodedRange
grown_of grown n (Bar b) = None
grown_of grown n Rom = None
grown_of grown n (Window c) =
    option_map decoded_range_of (told_of_kind (slice_index_or grown n untold) c)

-- in a window that grows an item has the place that is told, and else the one that is found
abbrev pub told_if_grown : Option DecodedRange → Option ℕ → Option ℕ → Option ℕ
told_if_grown None told found = found
told_if_grown (Some r) told found = told

-- what stays has the addresses to which it grows, or else its own
abbrev pub AreKeptRanges : System → Kept → List (ByKind (Option Range)) → Type 0
AreKeptRanges s keep grown =
    (n : ℕ) (f : Function) (part : Part) → slice_get s n ≡ Some f → IsTrue (has_part f part)
    → IsTrue (keep.stays record { function = f; part = part })
    → keep.range record { function = f; part = part }
    ≡ range_or (grown_of grown n part) (addresses record { function = f; part = part })

-- an item is placed behind a bridge, in a window that stays: `n` and `m` are the functions of the window and of the item
pub record IsInKept (q : Request) (s : System) (keep : Kept) (n m : ℕ) (b : Function) (i : PlacingItem) : Type 0 where
  pub bridge_is : slice_get s n ≡ Some b
  pub function_is : slice_get s m ≡ Some i.region.function
  pub leads : IsTrue (is_bridge b)
  pub stays_is : IsTrue (keep.stays (window_part i.class b))
  pub listed : Contains (space_items q s keep (window_space i.class) (secondary b)) i

-- this is what is kept, as the tables tell it
pub record TellsKept (q : Request) (s : System) (keep : Kept) (left : Left) : Type 0 where
  pub standing : (r : FunctionPart) → IsTrue (keep.stays r) → IsTrue (stands q s r)
  pub stays_are : AreKeptParts s keep.stays left.kept.now
  pub ranges_are : AreKeptRanges s keep left.grown.now
  pub places_are : (n m : ℕ) (b : Function) (i : PlacingItem) → IsInKept q s keep n m b i
      → (taken : List DecodedRange)
      → keep.place b i taken
      ≡ told_if_grown (grown_of left.grown.now n (Window i.class)) (placed left.places.now m i.region.part)
      (place_in (addresses (window_part i.class b)) i taken)
  -- nothing else grows
  pub grown_stay : (n : ℕ) (f : Function) (c : WindowKind) → slice_get s n ≡ Some f → IsTrue (is_bridge f)
      → IfSome (grown_of left.grown.now n (Window c)) (λ _. IsTrue (keep.stays (window_part c f)))
  -- 64 bits hold all addresses
  pub forward : AreForward left.grown.now
  pub ends : (n m : ℕ) (b : Function) (i : PlacingItem) → IsInKept q s keep n m b i
      → IfSome (grown_of left.grown.now n (Window i.class)) (λ _.
      IfSome (placed left.places.now m i.region.part) (λ a. (taken_by i a).last < 2 ^ 64))
