-- What is there: what holds as it stands, and windows that take with what they come to.
use Rattle.std.specs.Prelude.{ℕ, ◌==◌, min, max, nat_lt, Bool, true, if◌then◌else◌, List, [], ◌∷◌, map, Option, None, Some, slice_index_or}
use Rattle.std.specs.List.{filter, flat_map, fold}
use Rattle.std.specs.Option.{option_map}
use Rattle.pci_spec.specs.Window.{WindowKind, IoWindow, MemoryWindow, PrefetchWindow}
use Rattle.pci_spec.specs.Decoded.{Range as DecodedRange}
use Rattle.pci_spec.specs.System.{System, Part, Bar, Rom, Window}
use Rattle.plan_spec.specs.Plan.{same_class}
use Rattle.settle_spec.specs.Parts.{FunctionPart, addresses}
use Rattle.pci_base.specs.declared.range.Range.{Range}
use Rattle.pci_base.specs.declared.window_kind.ByKind.{ByKind}
use Rattle.pci_base.specs.Ranges.{decoded_range_of}
use Rattle.pci_base.specs.WindowKinds.{kind_value}
use Rattle.pci_first_fit.specs.declared.item.Item.{Item}
use Rattle.pci_first_fit.specs.declared.kept.Kept.{Kept}
use Rattle.pci_first_fit.specs.declared.kept.Part.{Part as CodePart}
use Rattle.pci_first_fit.specs.declared.kept.Part.TheVariants as parts
use Rattle.pci_first_fit.specs.Spots.{extent_range}
use Rattle.pci_kept.specs.declared.region.Region.{Region}
use Rattle.pci_kept.specs.Held.{is_region_kept}
use Rattle.pci_kept.specs.Tables.{index_of, stands_in}
use Rattle.pci_first_fit.specs.declared.place.Places.{Places}
use Rattle.pci_grow.specs.declared.there.There.{There}
use Rattle.pci_grow.specs.Rows.{region_row_number}
use Rattle.pci_first_fit.specs.PlaceTables.{placed}
use Rattle.pci_first_fit.specs.Tables.{untold, told}

-- ---- what tables tell

-- by function in slot order: which parts are there, with what windows come to, and places around those windows
pub record Tables : Type 0 where
  pub kept : List Kept
  pub grown : List (ByKind (Option Range))
  pub places : List Places

-- those of the code
abbrev pub tables_of : {A : Type 0} → There A → Tables
tables_of t = record { kept = t.kept.items; grown = t.grown.items; places = t.places.items }

-- what a window has come to
abbrev pub grown_window_range : List (ByKind (Option Range)) → ℕ → CodePart → Option Range
grown_window_range table k (parts.Bar n) = None
grown_window_range table k parts.Rom = None
grown_window_range table k (parts.Window class) = told table k class

-- those addresses, or else its own where a part keeps them
abbrev pub or_own : Option Range → Bool → Range → Option Range
or_own None keeps own = if keeps then Some own else None
or_own (Some grown) keeps own = Some grown

-- the addresses with which a part is there
abbrev pub range_told : Tables → Region → Option Range
range_told t r = or_own (grown_window_range t.grown r.function r.part) (is_region_kept t.kept r) r.range

-- the same of parts of a class
abbrev pub class_told : WindowKind → Tables → Region → Option Range
class_told c t r = if same_class c (kind_value r.class) then range_told t r else None

abbrev pub listed : Option Range → List Range
listed None = []
listed (Some r) = r ∷ []

-- the addresses of what is there of a row
abbrev pub there_of : Tables → List Region → List Range
there_of t row = flat_map (λ r. listed (range_told t r)) row

abbrev pub there_of_class : WindowKind → Tables → List Region → List Range
there_of_class c t row = flat_map (λ r. listed (class_told c t r)) row

-- the parts of a row
abbrev pub in_row : ℕ → List Region → List Region
in_row number rows = filter (λ r. region_row_number r == number) rows

-- ---- ranges around others

-- the least range that holds one and others
abbrev pub holding : Range → List Range → Range
holding r others = record {
  first = fold min r.first (map (λ (t : Range). t.first) others);
  last = fold max r.last (map (λ (t : Range). t.last) others);
}

-- items at their places
abbrev pub placed_ranges : List Item → List ℕ → List Range
placed_ranges [] places = []
placed_ranges (i ∷ items) [] = []
placed_ranges (i ∷ items) (a ∷ places) = extent_range i.extent a ∷ placed_ranges items places

-- the greatest last address so far
abbrev pub later_range_end : Option ℕ → Option Range → Option ℕ
later_range_end end None = end
later_range_end None (Some r) = Some r.last
later_range_end (Some e) (Some r) = Some (max e r.last)

-- whether a range begins behind an address, if there is one
abbrev pub is_past : Option ℕ → Range → Bool
is_past None r = true
is_past (Some e) r = nat_lt e r.first

-- ---- what they tell, as the definitions have it

abbrev pub by_class : ByKind (Option Range) → WindowKind → Option Range
by_class b IoWindow = b.io
by_class b MemoryWindow = b.memory
by_class b PrefetchWindow = b.prefetchable

-- what a part has come to
abbrev pub grown_in : List (ByKind (Option Range)) → ℕ → Part → Option DecodedRange
grown_in table k (Bar n) = None
grown_in table k Rom = None
grown_in table k (Window c) =
    option_map decoded_range_of (by_class (slice_index_or table k untold) c)

abbrev pub with_own : Option DecodedRange → Bool → DecodedRange → Option DecodedRange
with_own None keeps own = if keeps then Some own else None
with_own (Some grown) keeps own = Some grown

abbrev pub grown_told : System → Tables → FunctionPart → Option DecodedRange
grown_told s t r = grown_in t.grown (index_of s r.function.slot) r.part

-- the addresses with which a part is there
abbrev pub there_told : System → Tables → FunctionPart → Option DecodedRange
there_told s t r = with_own (grown_told s t r) (stands_in s t.kept r) (addresses r)

-- the place of a part
abbrev pub place_told : System → Tables → FunctionPart → Option ℕ
place_told s t r = placed t.places (index_of s r.function.slot) r.part
