-- Lists of ranges by number, three in each column: of what is plain, of what may lie above 4 GB, and of prefetchable memory;
-- and the places that are told instead.
use Rattle.std.specs.Prelude.{◌≡◌, ℕ, ◌+◌, ◌*◌, ◌<◌, Bool, if◌then◌else◌, IsTrue, List, [], ◌∷◌, ◌++◌, map, length, slice_index_or, Option, None, Some}
use Rattle.std.specs.List.{filter, Contains}
use Rattle.pci_spec.specs.Decoded.{Range as DecodedRange}
use Rattle.pci_spec.specs.Window.{WindowKind, IoWindow, MemoryWindow, PrefetchWindow}
use Rattle.pci_spec.specs.System.{System, Space, Io, Memory}
use Rattle.pci_spec.specs.Bus.{is_root}
use Rattle.settle_spec.specs.FirstPlace.{is_high, else_at, first_place}
use Rattle.settle_spec.specs.Lists.{RootRange, Lists, Request, is_had_by}
use Rattle.settle_spec.specs.Items.{PlacingItem as ItemValue, Placed}
use Rattle.settle_spec.specs.Kept.{Kept}
use Rattle.settle_spec.specs.Keeping.Places.{space_items, place_of_item}
use Rattle.pci_base.specs.declared.range.Range.{Range}
use Rattle.pci_base.specs.declared.window_kind.ByKind.{ByKind}
use Rattle.pci_base.specs.Ranges.{decoded_range_of}
use Rattle.pci_base.specs.WindowKinds.{by_kind, kind_value}
use Rattle.pci_first_fit.specs.declared.place.Places.{Places}
use Rattle.pci_first_fit.specs.declared.placing.Wanted.{Wanted}
use Rattle.pci_first_fit.specs.Own.{class_part}
use Rattle.pci_first_fit.specs.PlaceTables.{placed}
use Rattle.pci_settle_places.specs.declared.candidate.Candidate.{Candidate}
use Rattle.pci_settle_places.specs.Candidates.{candidate_value}

-- ---- numbers

-- which list of a column it is
abbrev pub kind_number : WindowKind → Bool → ℕ
kind_number IoWindow high = 0
kind_number MemoryWindow high = if high then 1 else 0
kind_number PrefetchWindow high = 2

-- a root has a column of its own
abbrev pub column : List ℕ → ℕ → ℕ
column roots bus = if is_root roots bus then bus else 0

abbrev pub list_number : List ℕ → ItemValue → ℕ
list_number roots i =
    3 * column roots i.region.function.slot.bus + kind_number i.class (is_high i.extent)

-- the place of an item where its window grows, as tables tell it
abbrev pub told_if : Option Range → Option ℕ → Option ℕ
told_if None at = None
told_if (Some r) at = at

abbrev pub told_place : List Places → ByKind (Option Range) → Candidate → Option ℕ
told_place places grown c =
    told_if (by_kind grown c.class)
    (placed places c.item.function (class_part (kind_value c.class) c.item.part))

abbrev pub candidate_wanted : List ℕ → System → List Places → ByKind (Option Range) → Candidate → Wanted
candidate_wanted roots s places grown c = record {
  extent = c.item.extent;
  list = list_number roots (candidate_value s c);
  at = told_place places grown c;
}

abbrev pub list_at : List (List Range) → ℕ → List DecodedRange
list_at lists n = map decoded_range_of (slice_index_or lists n [])

-- each item of a bus has the place that is told, or else the first one in its list
abbrev pub AreListsFor : Request → System → Kept → Space → (ℕ → List Placed) → ℕ → List (List Range) → List Places → ByKind (Option Range) → Type 0
AreListsFor q s keep space placed bus lists places grown =
    (c : Candidate) → Contains (space_items q s keep space bus) (candidate_value s c)
    → (taken : List DecodedRange)
    → place_of_item q s keep placed (candidate_value s c) taken
    ≡ else_at (told_place places grown c)
    (first_place (list_at lists (list_number q.roots (candidate_value s c))) taken (candidate_value s c).extent)

-- ---- of roots

-- the ranges of a list that a root has
abbrev pub had : ℕ → List RootRange → List DecodedRange
had bus list = map (λ (r : RootRange). r.range) (filter (λ r. is_had_by r.root bus) list)

pub record IsMemoryColumn (l : Lists) (bus : ℕ) (plain wide prefetch : List Range) : Type 0 where
  pub plain_is : map decoded_range_of plain ≡ had bus l.memory
  pub wide_is : map decoded_range_of wide ≡ had bus l.memory ++ had bus l.prefetch
  pub prefetch_is : map decoded_range_of prefetch ≡ had bus l.prefetch

-- three lists have the ranges of a root in a space
abbrev pub AreColumn : Lists → Space → ℕ → List Range → List Range → List Range → Type 0
AreColumn l Io bus plain wide prefetch = map decoded_range_of plain ≡ had bus l.io
AreColumn l Memory bus plain wide prefetch = IsMemoryColumn l bus plain wide prefetch

abbrev pub HasColumn : Lists → Space → List (List Range) → ℕ → Type 0
HasColumn l space lists bus =
    AreColumn l space bus (slice_index_or lists (3 * bus) [])
    (slice_index_or lists (3 * bus + 1) []) (slice_index_or lists (3 * bus + 2) [])

-- a column for each of so many buses, with the ranges of those that are roots
pub record HasRootColumns (roots : List ℕ) (l : Lists) (space : Space) (count : ℕ)
    (lists : List (List Range)) : Type 0 where
  pub size : length lists ≡ 3 * count
  pub each : (bus : ℕ) → bus < count → IsTrue (is_root roots bus) → HasColumn l space lists bus

-- ---- of a window

abbrev pub window_range_list : Option Range → List Range
window_range_list None = []
window_range_list (Some r) = r ∷ []
