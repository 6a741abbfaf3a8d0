-- What is to be placed: BARs and ROMs that don't keep their places, and new windows around what is behind bridges.
use Rattle.std.specs.Prelude.{ℕ, zero, suc, ◌+◌, ◌==◌, nat_lt, nat_le, max, Bool, true, false, ◌&&◌, ◌||◌, not, if◌then◌else◌, List, [], ◌∷◌, ◌++◌, map, Option, None, Some}
use Rattle.std.specs.List.{list_any, list_all, filter, flat_map}
use Rattle.pci_spec.specs.Bar.{bar_at, is_io, is_wide}
use Rattle.pci_spec.specs.Window.{WindowKind, IoWindow, MemoryWindow, PrefetchWindow, page_size, is_wide_window}
use Rattle.pci_spec.specs.Decoded.{Range}
use Rattle.pci_spec.specs.System.{System, Function, Part, Bar, Window, window_space, is_bridge, is_window}
use Rattle.pci_spec.specs.Bus.{secondary, is_behind, are_siblings}
use Rattle.plan_spec.specs.Plan.{bridges_above, greatest, raised_to, same_class, size_of}
use Rattle.plan_spec.specs.Place.{range_from}
use Rattle.judge_spec.specs.ToldRegion.{ToldRegion}
use Rattle.settle_spec.specs.Lines.{line_bus, lines_on, taken_for}
use Rattle.settle_spec.specs.FirstPlace.{Extent, least_number, first_spot, first_place}
use Rattle.settle_spec.specs.Lists.{Request}
use Rattle.settle_spec.specs.Spares.{spare_below, with_spare}
use Rattle.settle_spec.specs.Parts.{FunctionPart, system_parts, function_parts, addresses, bridge_over, class_in, are_same_space}
use Rattle.settle_spec.specs.Stands.{rank, window_part, part_space, stands, range_class, range_stands}

-- what is to be placed
pub record PlacingItem : Type 0 where
  pub region : FunctionPart
  pub class : WindowKind
  pub extent : Extent

-- ---- in turn

-- falling alignments come first, then falling sizes, then lower slots and registers
abbrev pub item_precedes : PlacingItem → PlacingItem → Bool
item_precedes i j =
    nat_lt j.extent.alignment i.extent.alignment || (i.extent.alignment == j.extent.alignment
    && (nat_lt j.extent.size i.extent.size || (i.extent.size == j.extent.size
    && nat_lt (rank i.region) (rank j.region))))

abbrev pub put_in : PlacingItem → List PlacingItem → List PlacingItem
put_in i [] = i ∷ []
put_in i (j ∷ items) = if item_precedes i j then i ∷ (j ∷ items) else j ∷ put_in i items

-- items in the order in which they are placed
abbrev pub in_turn : List PlacingItem → List PlacingItem
in_turn [] = []
in_turn (i ∷ items) = put_in i (in_turn items)

-- an item at its place
pub record Placed : Type 0 where
  pub item : PlacingItem
  pub at : ℕ

abbrev pub taken_by : PlacingItem → ℕ → Range
taken_by i a = range_from a i.extent.size

-- all of them, or those before the first that has no place
pub data Placing : Type 0 where
  AllPlaced : (placed : List Placed) → Placing
  Lacks : (item : PlacingItem) → Placing

abbrev pub and_placed : PlacingItem → ℕ → Placing → Placing
and_placed i a (AllPlaced placed) = AllPlaced (record { item = i; at = a } ∷ placed)
and_placed i a (Lacks j) = Lacks j

-- each item gets its first place, those before it being taken
abbrev pub place_next : PlacingItem → Option ℕ → (ℕ → Placing) → Placing
place_next i None rest = Lacks i
place_next i (Some a) rest = and_placed i a (rest a)

abbrev pub place_all : (PlacingItem → List Range) → List Range → List PlacingItem → Placing
place_all ranges taken [] = AllPlaced []
place_all ranges taken (i ∷ items) =
    place_next i (first_place (ranges i) taken i.extent)
    (λ a. place_all ranges (taken_by i a ∷ taken) items)

-- each item gets the place that is found for it beside what is taken
abbrev pub place_each : (PlacingItem → List Range → Option ℕ) → List Range → List PlacingItem → Placing
place_each find taken [] = AllPlaced []
place_each find taken (i ∷ items) =
    place_next i (find i taken) (λ a. place_each find (taken_by i a ∷ taken) items)

-- the first place of an item in a range
abbrev pub place_in : Range → PlacingItem → List Range → Option ℕ
place_in r i taken = first_place (r ∷ []) taken i.extent

-- ---- of a bus

-- the highest address that a BAR can have, by the read back of its register: an I/O BAR may have 16 bits
abbrev pub highest_of_bar : ℕ → ℕ
highest_of_bar mask =
    if is_io mask then (if nat_le mask 0xffff then 0xffff else 0xffff_ffff)
    else if is_wide mask then 0xffff_ffff_ffff_ffff
    else 0xffff_ffff

abbrev pub highest_of : Function → Part → ℕ
highest_of f (Bar n) = highest_of_bar (bar_at f.probe n)
highest_of f p = 0xffff_ffff

-- a BAR's size is its alignment, and so is a ROM's
abbrev pub own_extent : FunctionPart → Extent
own_extent r = record {
  size = size_of r.function r.part;
  alignment = size_of r.function r.part;
  highest = highest_of r.function r.part;
}

abbrev pub own_item : WindowKind → FunctionPart → PlacingItem
own_item c r = record { region = r; class = c; extent = own_extent r }

-- a BAR or ROM of a class
abbrev pub is_own : Request → System → WindowKind → FunctionPart → Bool
is_own q s c r =
    not (is_window r.part) && same_class c (class_in q s r.function r.part)

-- whether a BAR or ROM of a class is behind a bridge
abbrev pub has_of : Request → System → WindowKind → Function → Bool
has_of q s c b =
    list_any (λ f. is_behind b f.slot.bus && list_any (is_own q s c) (function_parts q s f)) s

-- the items of a function in a class: `keeps` says what keeps its place, `extent` how large a new window is
abbrev pub items_of : Request → System → WindowKind → (FunctionPart → Bool) → (Function → Extent) → Function → List PlacingItem
items_of q s c keeps extent f =
    map (own_item c) (filter (λ r. is_own q s c r && not (keeps r)) (function_parts q s f))
    ++ (if is_bridge f && has_of q s c f && not (keeps (window_part c f))
    then record { region = window_part c f; class = c; extent = extent f } ∷ [] else [])

-- those of a bus, in turn: all roots are one bus
abbrev pub bus_items : Request → System → WindowKind → (FunctionPart → Bool) → (Function → Extent) → ℕ → List PlacingItem
bus_items q s c keeps extent bus =
    in_turn (flat_map (λ f. if are_siblings q.roots bus f.slot.bus then items_of q s c keeps extent f else []) s)

-- ---- new windows

-- what extents take when each is placed from 0 on, off those before it
abbrev pub laid_out : List Range → List Extent → List Range
laid_out taken [] = taken
laid_out taken (e ∷ extents) =
    laid_out (range_from (first_spot 0 taken e) e.size ∷ taken) extents

-- the end of the last address
abbrev pub end_of : List Range → ℕ
end_of taken = greatest (map (λ (t : Range). t.last + 1) taken)

-- an extent around others: whole pages, as aligned as they are, and no higher than any of them may be
abbrev pub extent_around : ℕ → ℕ → List Extent → Extent
extent_around page highest extents = record {
  size = raised_to page (end_of (laid_out [] extents));
  alignment = max page (greatest (map (λ (e : Extent). e.alignment) extents));
  highest = least_number (highest ∷ map (λ (e : Extent). e.highest) extents);
}

-- the highest address that a window can hold, by the read backs of its bridge: an I/O or prefetchable one may have
-- upper halves
abbrev pub highest_in : WindowKind → List ℕ → ℕ
highest_in IoWindow probe = if is_wide_window IoWindow probe then 0xffff_ffff else 0xffff
highest_in MemoryWindow probe = 0xffff_ffff
highest_in PrefetchWindow probe =
    if is_wide_window PrefetchWindow probe then 0xffff_ffff_ffff_ffff else 0xffff_ffff

-- the spare of a class behind a bridge with a slot
abbrev pub spare_of : Request → WindowKind → Function → Option Extent
spare_of q c b = spare_below q c b (highest_in c b.probe)

-- a new window of a bridge around items: over a slot it has the spare behind them
abbrev pub window_around : Request → WindowKind → Function → List PlacingItem → Extent
window_around q c b items =
    extent_around (page_size c) (highest_in c b.probe)
    (with_spare (spare_of q c b) (map (λ (i : PlacingItem). i.extent) items))

abbrev pub nothing : FunctionPart → Bool
nothing r = false

-- the new window of a bridge, where at most `depth` buses are behind one another
unfoldable pub window_within : Request → System → WindowKind → ℕ → Function → Extent
window_within q s c zero b = window_around q c b []
window_within q s c (suc depth) b =
    window_around q c b (bus_items q s c nothing (window_within q s c depth) (secondary b))

-- buses rise on the way down, so 256 of them are all
abbrev pub new_window : Request → System → WindowKind → Function → Extent
new_window q s c b = window_within q s c 256 b

-- that of a bridge where a BAR or ROM of the class is behind it
abbrev pub new_window_over : Request → System → WindowKind → Option Function → Option Extent
new_window_over q s c None = None
new_window_over q s c (Some b) = if has_of q s c b then Some (new_window q s c b) else None

-- the new window through which a bus is reached
abbrev pub window_to : Request → System → WindowKind → ℕ → Option Extent
window_to q s c bus = new_window_over q s c (bridge_over s bus)

-- ---- what keeps its place

abbrev pub are_placed : Placing → Bool
are_placed (AllPlaced placed) = true
are_placed (Lacks i) = false

-- what is taken on a bus in the space of a class
abbrev pub taken_on : Request → System → WindowKind → (FunctionPart → Bool) → ℕ → List Range
taken_on q s c keeps bus =
    lines_on q (window_space c) bus
    ++ map addresses
    (filter (λ r. are_siblings q.roots bus r.function.slot.bus && are_same_space (window_space c) (part_space r) && keeps r)
    (system_parts q s))

-- whether a window has a place for each item behind it, `keeps` saying what keeps its place there
abbrev pub has_places : Request → System → (FunctionPart → Bool) → Function → WindowKind → Bool
has_places q s keeps b c =
    are_placed (place_each
    (λ i taken. place_in (addresses (window_part c b)) i (taken_for q i.region taken))
    (taken_on q s c keeps (secondary b))
    (bus_items q s c keeps (new_window q s c) (secondary b)))

-- whether what is behind a part has its place there: nothing is behind a BAR or a ROM
abbrev pub has_room : Request → System → (FunctionPart → Bool) → Function → Part → Bool
has_room q s keeps f (Window c) = has_places q s keeps f c
has_room q s keeps f p = true

-- a part stands and, if it is a window, holds, where at most `depth` buses are behind one another
unfoldable pub holds_within : Request → System → ℕ → FunctionPart → Bool
holds_within q s zero r = stands q s r
holds_within q s (suc depth) r =
    stands q s r && has_room q s (holds_within q s depth) r.function r.part

abbrev pub has_room_behind : Request → System → FunctionPart → Bool
has_room_behind q s r = holds_within q s 256 r

-- a part stays where it holds and each window of its class above it does
abbrev pub stays : Request → System → FunctionPart → Bool
stays q s r =
    has_room_behind q s r
    && list_all (λ b. has_room_behind q s (window_part (class_in q s r.function r.part) b))
    (bridges_above s r.function.slot.bus)

-- a told range stays where it stands and each window of its class above it stays
abbrev pub range_stays : Request → System → (FunctionPart → Bool) → ToldRegion → Bool
range_stays q s keeps x =
    range_stands q s x
    && list_all (λ b. keeps (window_part (range_class q s x) b)) (bridges_above s (line_bus x))
