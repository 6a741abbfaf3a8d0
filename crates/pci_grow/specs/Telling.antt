-- What is told of what is there, row by row as rows fall, and in a row as addresses rise.
use Rattle.std.specs.Prelude.{◌≡◌, ℕ, ◌+◌, ◌<◌, ◌≤◌, ◌⊎◌, true, if◌then◌else◌, IsTrue, IsFalse, List, [], map, length, take, Option, None, Some, slice_index_or}
use Rattle.std.specs.List.{All, AllPairs, Contains, flat_map}
use Rattle.std.specs.Option.{is_some}
use Rattle.pci_spec.specs.Window.{WindowKind}
use Rattle.pci_spec.specs.Decoded.{Range as DecodedRange}
use Rattle.pci_spec.specs.System.{System, Function, IsSystem, Part, Window, is_bridge, has_part}
use Rattle.pci_spec.specs.Bus.{secondary, are_siblings, IsNested}
use Rattle.settle_spec.specs.Lists.{Request}
use Rattle.settle_spec.specs.Parts.{FunctionPart, system_parts, header_parts, addresses, class_in}
use Rattle.settle_spec.specs.Stands.{rank, part_space, window_part, stands}
use Rattle.settle_spec.specs.Items.{AllPlaced, has_room_behind}
use Rattle.settle_spec.specs.Places.{placed_of, place_among}
use Rattle.settle_spec.specs.Reach.{reach}
use Rattle.settle_spec.specs.Growth.{range_list, taken_around, window_comes_to, there, comes_to, takes_growth}
use Rattle.settle_spec.specs.Kept.{address_of_placed}
use Rattle.settle_laws.specs.Order.{level}
use Rattle.settle_laws.specs.Reach.{WindowsAreLow}
use Rattle.pci_base.specs.declared.range.Range.{Range}
use Rattle.pci_base.specs.declared.window_kind.WindowKind.{WindowKind as CodeKind}
use Rattle.pci_base.specs.declared.window_kind.ByKind.{ByKind}
use Rattle.pci_base.specs.Ranges.{decoded_range_of}
use Rattle.pci_base.specs.WindowKinds.{kind_value, by_kind}
use Rattle.pci_function.specs.declared.record.Bridge.{Bridge}
use Rattle.pci_function.specs.declared.record.Record.{Record}
use Rattle.pci_place.specs.Records.{IsRecordInSystem}
use Rattle.pci_first_fit.specs.declared.extent.Extent.{Extent}
use Rattle.pci_first_fit.specs.declared.lines.Line.{Line}
use Rattle.pci_first_fit.specs.Lines.{AreLineRows, AreLines}
use Rattle.pci_first_fit.specs.Buses.{Classing, classing_value, TellsClasses}
use Rattle.pci_first_fit.specs.Kept.{kept_of, nothing_kept, AreKeptParts}
use Rattle.pci_first_fit.specs.NewWindows.{HasNewWindows, HasMarkedWindows}
use Rattle.pci_first_fit.specs.Own.{asked_item_value}
use Rattle.pci_first_fit.specs.Placings.{at_places}
use Rattle.pci_kept.specs.declared.region.Region.{Region}
use Rattle.pci_kept.specs.Boards.{IsKnown}
use Rattle.pci_kept.specs.Known.{region_value}
use Rattle.pci_kept.specs.Windows.{IsWholeRange}
use Rattle.pci_kept.specs.Holding.{AreHolding}
use Rattle.pci_grow.specs.declared.around.Around.{Around}
use Rattle.pci_grow.specs.declared.coming.Coming.{Coming}
use Rattle.pci_grow.specs.declared.coming.Setting.{Setting as CodeSetting}
use Rattle.pci_first_fit.specs.PlaceTables.{ArePlaceless}
use Rattle.pci_grow.specs.Rows.{IsInRowOrder}
use Rattle.pci_grow.specs.RoomRows.{row_number}
use Rattle.pci_first_fit.specs.Tables.{AreUntold, told, TellsSame}
use Rattle.pci_grow.specs.Reaches.{AreWindowReaches}
use Rattle.pci_grow.specs.There.{Tables, grown_told, there_told, place_told, in_row}

-- ---- what is given

-- what windows come to is found by: what classes are told by, the new windows, the parts that stand, row by row, how far windows
-- can grow, and the ranges that a text tells of
pub record Setting : Type 0 where
  pub classing : Classing
  pub windows : ByKind (List (Option Extent))
  pub rows : List Region
  pub reaches : List (ByKind (Option Range))
  pub lines : List Line

-- that of the code
abbrev pub setting_value : {B : Type 0} → CodeSetting B → Setting
setting_value p = record {
  classing = classing_value p.classing.now;
  windows = p.windows.now;
  rows = p.rows.now;
  reaches = p.reaches.now;
  lines = p.lines.now;
}

-- all parts that stand, by rows, and in a row by rising addresses
pub record AreStandingRows (q : Request) (s : System) (rows : List Region) : Type 0 where
  pub known : All (IsKnown q s) rows
  pub stand : All (λ r. IsTrue (stands q s (region_value s r))) rows
  pub all : (t : FunctionPart) → Contains (system_parts q s) t → IsTrue (stands q s t)
      → Contains (map (region_value s) rows) t
  pub order : AllPairs (IsInRowOrder (λ r. rank (region_value s r))) rows

-- a table has the new windows of a class, or marks those of 2^64 addresses or more, for which a window has no room however
-- far it grows
abbrev pub HasNewAround : Request → Classing → WindowKind → List (Option Extent) → Function → Type 0
HasNewAround q p c windows f =
    HasNewWindows q p.system c p.terms windows
    ⊎ (HasMarkedWindows q p.system c windows × (IsWholeRange (reach q p.system c f) → ⊥))

-- what is asked for of a lawful system
pub record IsGrowing (q : Request) (p : Setting) : Type 0 where
  pub system : IsSystem p.classing.system
  pub nested : IsNested q.roots p.classing.system
  pub line_rows : AreLineRows p.lines
  pub lines : AreLines q.roots q.told.ranges p.lines
  pub low : WindowsAreLow q p.classing.system
  pub left : TellsClasses p.classing q
  pub rows : AreStandingRows q p.classing.system p.rows
  pub reaches : AreWindowReaches q p.classing.system p.reaches
  pub new : (class : CodeKind) (f : Function) → Contains p.classing.system f
      → IsTrue (stands q p.classing.system (window_part (kind_value class) f))
      → HasNewAround q p.classing (kind_value class) (by_kind p.windows class) f

-- ---- what a window comes to

-- a window of a bridge that stands, with its addresses and how far it can grow
pub record IsWindowWithReach (q : Request) (s : System) (f : Function) (b : Bridge) (class : CodeKind)
    (around : Around) : Type 0 where
  pub x : Record
  pub is : IsRecordInSystem s f x
  pub bridge : x.bridge ≡ Some b
  pub stand : IsTrue (stands q s (window_part (kind_value class) f))
  pub window : decoded_range_of around.window ≡ addresses (window_part (kind_value class) f)
  pub reach_is : decoded_range_of around.reach ≡ reach q s (kind_value class) f

-- what is told to be there: parts that stand, each kept
pub record IsThereTold (q : Request) (s : System) (t : Tables) : Type 0 where
  pub stand : (r : FunctionPart) → Contains (system_parts q s) r → IsTrue (is_some (there_told s t r))
      → IsTrue (stands q s r)
  pub keeps : AreKeptParts s (λ r. is_some (there_told s t r)) t.kept

-- what a window comes to where that is told to be there, and the places around it
abbrev pub IsComing : {A : Type 0} → Request → System → (FunctionPart → Option DecodedRange) → WindowKind → Function → Option (Coming A) → Type 0
IsComing q s told c f None = window_comes_to q s told c f ≡ None
IsComing q s told c f (Some x) =
    (window_comes_to q s told c f ≡ Some (decoded_range_of x.range))
    × (taken_around q s told c f
    ≡ AllPlaced (at_places (map (asked_item_value s c) x.items.items) x.places.items))

-- ---- what is done

-- the row of a part
abbrev pub part_row_number : Request → FunctionPart → ℕ
part_row_number q r = row_number (level q r.function.slot.bus) (part_space r)

-- a part is in a row behind one, or among the first so many of that row
abbrev pub IsDone : Request → System → List Region → ℕ → ℕ → FunctionPart → Type 0
IsDone q s rows number count r =
    (number < part_row_number q r) ⊎ Contains (map (region_value s) (take count (in_row number rows))) r

-- what a window that takes comes to, and nothing of other parts
abbrev pub grown_there : Request → System → FunctionPart → Option DecodedRange
grown_there q s r = if takes_growth q s r then comes_to q s r else None

abbrev pub range_as_it_stands : Request → System → FunctionPart → Option DecodedRange
range_as_it_stands q s r = if has_room_behind q s r then Some (addresses r) else None

-- the place of a part around the window over it, where that takes
abbrev pub place_there : Request → System → WindowKind → Function → FunctionPart → Option ℕ
place_there q s c b r =
    if takes_growth q s (window_part c b)
    then address_of_placed (place_among r (placed_of (taken_around q s (there q s) c b))) else None

-- a part of a class is on the bus behind a bridge
pub record IsUnder (q : Request) (s : System) (c : WindowKind) (b : Function) (r : FunctionPart) : Type 0 where
  pub bridge : IsTrue (is_bridge b)
  pub listed : Contains s r.function
  pub part : IsTrue (has_part r.function r.part)
  pub beside : IsTrue (are_siblings q.roots (secondary b) r.function.slot.bus)
  pub class : class_in q s r.function r.part ≡ c

-- tables tell this of a part: what it has come to, and with which addresses it is there
pub record IsToldAs (s : System) (t : Tables) (r : FunctionPart) (grown is : Option DecodedRange) : Type 0 where
  pub grown_is : grown_told s t r ≡ grown
  pub there_is : there_told s t r ≡ is

-- of the parts that are done tables tell what is there, and of the rest what holds as it stands
pub record AreToldWhere (q : Request) (s : System) (done : FunctionPart → Type 0) (t : Tables) : Type 0 where
  pub kept : length t.kept ≡ length s
  pub grown : length t.grown ≡ length s
  pub places : length t.places ≡ length s
  pub off : (r : FunctionPart) → Contains s r.function → Contains (header_parts r.function) r.part
      → IsFalse (stands q s r) → IsToldAs s t r None None
  pub each : (r : FunctionPart) → Contains (system_parts q s) r → IsTrue (stands q s r) → done r
      → IsToldAs s t r (grown_there q s r) (there q s r)
  pub rest : (r : FunctionPart) → Contains (system_parts q s) r → IsTrue (stands q s r)
      → (done r → ⊥) → IsToldAs s t r None (range_as_it_stands q s r)
  pub keeps : AreKeptParts s (λ r. is_some (there_told s t r)) t.kept
  pub around : (c : WindowKind) (b : Function) (r : FunctionPart) → Contains s b
      → IsTrue (stands q s (window_part c b)) → IsUnder q s c b r → done (window_part c b)
      → place_told s t r ≡ place_there q s c b r
  pub unplaced : (c : WindowKind) (b : Function) (r : FunctionPart) → Contains s b → IsUnder q s c b r
      → (IsTrue (stands q s (window_part c b)) → done (window_part c b) → ⊥)
      → place_told s t r ≡ None

-- those in rows from a number on are done
abbrev pub AreToldFrom : Request → System → ℕ → Tables → Type 0
AreToldFrom q s number t = AreToldWhere q s (λ r. number ≤ part_row_number q r) t

-- so are those in rows behind one, and the first so many of that row
abbrev pub AreToldTo : Request → System → List Region → ℕ → ℕ → Tables → Type 0
AreToldTo q s rows number count t = AreToldWhere q s (IsDone q s rows number count) t

-- a part is the next one of its row
pub record IsNext (q : Request) (p : Setting) (number count : ℕ) (t : Tables) (r : Region) : Type 0 where
  pub growing : IsGrowing q p
  pub told : AreToldTo q p.classing.system p.rows number count t
  pub within : count < length (in_row number p.rows)
  pub at : slice_index_or (in_row number p.rows) count r ≡ r

-- something can be asked for of which it is
pub record IsNextOfSome (p : Setting) (t : Tables) (r : Region) : Type 0 where
  pub request : Request
  pub number : ℕ
  pub count : ℕ
  pub is : IsNext request p number count t r

-- something can be asked for of which those behind a row are done
pub record IsRowOfSome (p : Setting) (number : ℕ) (t : Tables) : Type 0 where
  pub request : Request
  pub growing : IsGrowing request p
  pub told : AreToldFrom request p.classing.system (number + 1) t

-- what a window has come to is noted, and that it is there
pub record IsWindowNoted (old new : Tables) (k : ℕ) (class : CodeKind) (range : Range) : Type 0 where
  pub kept_size : length new.kept ≡ length old.kept
  pub grown_size : length new.grown ≡ length old.grown
  pub places_size : length new.places ≡ length old.places
  pub grown : told new.grown k class ≡ Some range
  pub other_grown : TellsSame old.grown new.grown k class
  pub kept : kept_of (slice_index_or new.kept k nothing_kept) (Window (kind_value class)) ≡ true
  pub other_kept : (j : ℕ) (part : Part) → ((j ≡ k) → (part ≡ Window (kind_value class)) → ⊥)
      → kept_of (slice_index_or new.kept j nothing_kept) part
      ≡ kept_of (slice_index_or old.kept j nothing_kept) part

-- the greatest last address of some ranges, if there are any
abbrev pub IsLatest : List DecodedRange → Option ℕ → Type 0
IsLatest rs None = rs ≡ []
IsLatest rs (Some e) =
    ((r : DecodedRange) → Contains rs r → r.last ≤ e)
    × ((r : DecodedRange) × Contains rs r × (r.last ≡ e))

-- what is there of parts
abbrev pub there_among : Request → System → List Region → List DecodedRange
there_among q s rs = flat_map (λ r. range_list (there q s (region_value s r))) rs

-- ---- from the beginning to the end

-- nothing has grown
pub record IsNothingGrown (q : Request) (s : System) (t : Tables) : Type 0 where
  pub holding : AreHolding q s t.kept
  pub untold : AreUntold t.grown
  pub placeless : ArePlaceless t.places
  pub grown : length t.grown ≡ length s
  pub places : length t.places ≡ length s

-- something can be asked for where nothing has grown
pub record IsBegunOfSome (p : Setting) (t : Tables) : Type 0 where
  pub request : Request
  pub growing : IsGrowing request p
  pub begun : IsNothingGrown request p.classing.system t

-- tables tell all that is there
pub record AreThere (q : Request) (s : System) (t : Tables) : Type 0 where
  pub kept : length t.kept ≡ length s
  pub grown : length t.grown ≡ length s
  pub places : length t.places ≡ length s
  pub each : (r : FunctionPart) → Contains (system_parts q s) r
      → IsToldAs s t r (grown_there q s r) (there q s r)
  pub off : (r : FunctionPart) → Contains s r.function → Contains (header_parts r.function) r.part
      → IsFalse (stands q s r) → IsToldAs s t r None None
  pub around : (c : WindowKind) (b : Function) (r : FunctionPart) → Contains s b → IsUnder q s c b r
      → place_told s t r ≡ place_there q s c b r
