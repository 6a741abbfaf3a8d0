-- A window among what stands beside it, and tables of reaches.
use Rattle.std.specs.Prelude.{◌≡◌, ℕ, ◌<◌, IsTrue, List, ◌++◌, length, Option, Some, slice_get, slice_index_or}
use Rattle.std.specs.Option.{option_map}
use Rattle.pci_spec.specs.Window.{WindowKind}
use Rattle.pci_spec.specs.System.{System, Function, is_bridge}
use Rattle.pci_spec.specs.Bus.{secondary}
use Rattle.pci_spec.specs.Decoded.{Range}
use Rattle.judge_spec.specs.Told.{ToldRange}
use Rattle.settle_spec.specs.Lists.{Lists, Request}
use Rattle.settle_spec.specs.Parts.{FunctionPart, addresses}
use Rattle.settle_spec.specs.Stands.{window_part, stands}
use Rattle.settle_spec.specs.Items.{highest_in}
use Rattle.settle_spec.specs.Reach.{lines_beside, standing_beside, reach}
use Rattle.settle_laws.specs.Reach.{WindowsAreLow}
use Rattle.pci_base.specs.declared.range.Range.{Range as CodeRange}
use Rattle.pci_base.specs.declared.window_kind.WindowKind.{WindowKind as CodeKind}
use Rattle.pci_base.specs.declared.window_kind.ByKind.{ByKind}
use Rattle.pci_base.specs.WindowKinds.{kind_value}
use Rattle.pci_base.specs.Ranges.{decoded_range_of}
use Rattle.pci_function.specs.declared.record.Record.{Record}
use Rattle.pci_place.specs.Items.{function_in}
use Rattle.pci_first_fit.specs.declared.kept.Part.TheVariants as parts
use Rattle.pci_first_fit.specs.declared.lines.Line.{Line}
use Rattle.pci_first_fit.specs.Lists.{lists_value}
use Rattle.pci_first_fit.specs.Lines.{AreLineRows, AreLines}
use Rattle.pci_kept.specs.declared.region.Region.{Region}
use Rattle.pci_kept.specs.Boards.{IsBoard}
use Rattle.pci_grow.specs.declared.among.Among.{Among}
use Rattle.pci_grow.specs.declared.reach.Board.{Board}
use Rattle.pci_first_fit.specs.Tables.{told}
use Rattle.pci_grow.specs.Rooms.{IsNearestBelow, IsNearestAbove}
use Rattle.pci_grow.specs.Rows.{HasRows}

-- what can keep a window off beside it: lines, and parts that stand
abbrev pub beside_window : Request → System → FunctionPart → List Range
beside_window q s w = lines_beside q w ++ standing_beside q s w

-- a window of a bridge with its neighbours among what is beside it, and the highest address that it can hold
pub record IsWindowAmong (q : Request) (s : System) (c : WindowKind) (b : Function) (highest : ℕ)
    (a : Among) : Type 0 where
  pub window : addresses (window_part c b) ≡ decoded_range_of a.window
  pub highest_is : highest_in c b.probe ≡ highest
  pub below : IsNearestBelow (decoded_range_of a.window) (beside_window q s (window_part c b))
      (option_map decoded_range_of a.before)
  pub above : IsNearestAbove (decoded_range_of a.window) (beside_window q s (window_part c b))
      (option_map decoded_range_of a.behind)

-- a table tells this of the windows of a class of the bridges to a bus
abbrev pub AreToldOver : System → WindowKind → ℕ → (Function → Range) → List (ByKind (Option CodeRange)) → Type 0
AreToldOver s c bus reach table =
    (k : ℕ) (f : Function) (class : CodeKind) → slice_get s k ≡ Some f → IsTrue (is_bridge f)
    → secondary f ≡ bus → kind_value class ≡ c
    → option_map decoded_range_of (told table k class) ≡ Some (reach f)

-- ---- all windows that stand

-- the lists, and the ranges that a text tells of, with their rows
pub record ListsAndLines : Type 0 where
  pub lists : Lists
  pub told : List ToldRange
  pub lines : List Line

-- those of the code
abbrev pub given_value : Board → ListsAndLines
given_value b = record {
  lists = lists_value b.lists.now;
  told = b.told.now;
  lines = b.lines.now;
}

-- a lawful board with the rows of what stands and of what is told, and no window above the highest address that it can hold
pub record StandsInRows (q : Request) (s : System) (records : List Record) (given : ListsAndLines)
    (rows : List Region) : Type 0 where
  pub board : IsBoard q s records given.lists
  pub told_is : q.told.ranges ≡ given.told
  pub line_rows : AreLineRows given.lines
  pub lines : AreLines q.roots given.told given.lines
  pub low : WindowsAreLow q s
  pub has : HasRows q s rows

-- and the window over a part is told
pub record IsToldAbove (q : Request) (s : System) (records : List Record) (given : ListsAndLines)
    (rows : List Region) (index : ℕ) (class : CodeKind)
    (table : List (ByKind (Option CodeRange))) : Type 0 where
  pub stand : StandsInRows q s records given rows
  pub over : (d : Region) → AreToldOver s (kind_value class) (slice_index_or rows index d).bus
      (reach q s (kind_value class)) table

-- a table tells the reach of each window among the first parts of the rows
abbrev pub AreFirstReaches : Request → System → List Region → ℕ → List (ByKind (Option CodeRange)) → Type 0
AreFirstReaches q s rows count table =
    (k : ℕ) (d : Region) (class : CodeKind) → k < count → k < length rows
    → (slice_index_or rows k d).part ≡ parts.Window class
    → option_map decoded_range_of (told table (slice_index_or rows k d).function class)
    ≡ Some (reach q s (kind_value class) (function_in s (slice_index_or rows k d).function))

-- of windows that aren't among those parts a table tells the same as another one
abbrev pub TellsSameOutside : List Region → ℕ → List (ByKind (Option CodeRange)) → List (ByKind (Option CodeRange)) → Type 0
TellsSameOutside rows count old new =
    (k : ℕ) (class : CodeKind)
    → ((i : ℕ) (d : Region) → i < count → i < length rows → (slice_index_or rows i d).function ≡ k
    → (slice_index_or rows i d).part ≡ parts.Window class → ⊥)
    → told new k class ≡ told old k class

-- a table tells the reach of each window that stands
abbrev pub AreWindowReaches : Request → System → List (ByKind (Option CodeRange)) → Type 0
AreWindowReaches q s table =
    (k : ℕ) (f : Function) (class : CodeKind) → slice_get s k ≡ Some f → IsTrue (is_bridge f)
    → IsTrue (stands q s (window_part (kind_value class) f))
    → option_map decoded_range_of (told table k class) ≡ Some (reach q s (kind_value class) f)
