-- What a table tells of parts that hold.
use Rattle.std.specs.Prelude.{◌≡◌, ℕ, ◌<◌, ◌≤◌, ◌⊎◌, Bool, ◌&&◌, if◌then◌else◌, IsTrue, List, length, Option, Some, slice_get, slice_index_or}
use Rattle.std.specs.List.{Contains}
use Rattle.pci_spec.specs.Window.{WindowKind}
use Rattle.pci_spec.specs.System.{System, Function, Part, Window, IsSystem, has_part}
use Rattle.pci_spec.specs.Bus.{IsNested}
use Rattle.plan_spec.specs.Plan.{is_open}
use Rattle.plan_spec.specs.Planning.Layout.{range_of}
use Rattle.settle_spec.specs.Lists.{Request}
use Rattle.settle_spec.specs.Parts.{FunctionPart}
use Rattle.settle_spec.specs.Stands.{window_part, stands}
use Rattle.settle_spec.specs.Items.{has_places, has_room, has_room_behind}
use Rattle.pci_base.specs.declared.window_kind.WindowKind.{WindowKind as CodeKind}
use Rattle.pci_base.specs.declared.window_kind.ByKind.{ByKind}
use Rattle.pci_base.specs.WindowKinds.{kind_value, by_kind}
use Rattle.pci_first_fit.specs.declared.extent.Extent.{Extent}
use Rattle.pci_first_fit.specs.declared.kept.Kept.{Kept}
use Rattle.pci_first_fit.specs.declared.lines.Line.{Line}
use Rattle.pci_first_fit.specs.Kept.{kept_of, nothing_kept}
use Rattle.pci_first_fit.specs.Buses.{Classing, TellsClasses}
use Rattle.pci_first_fit.specs.Lines.{AreLines}
use Rattle.pci_first_fit.specs.NewWindows.{HasNewWindows, HasMarkedWindows}
use Rattle.pci_kept.specs.declared.region.Region.{Region as CodeRegion}
use Rattle.pci_kept.specs.Boards.{AreOpen}
use Rattle.pci_kept.specs.Known.{AreParts}
use Rattle.pci_kept.specs.Tables.{stands_in}
use Rattle.pci_kept.specs.Windows.{IsWholeRange}

-- a table has the new windows of a class, or marks those that an open window of a bridge has no room for
abbrev pub HasNewBeside : Request → Classing → WindowKind → List (Option Extent) → Function → Type 0
HasNewBeside q p c windows f =
    HasNewWindows q p.system c p.terms windows
    ⊎ (HasMarkedWindows q p.system c windows
    × (IsTrue (is_open f c) → IsWholeRange (range_of f (Window c)) → ⊥))

-- so it is of each window of the class that stands
abbrev pub HasNewWhereStands : Request → Classing → CodeKind → List (Option Extent) → Type 0
HasNewWhereStands q p class windows =
    (f : Function) → Contains p.system f
    → IsTrue (stands q p.system (window_part (kind_value class) f))
    → HasNewBeside q p (kind_value class) windows f

-- what is asked for of a lawful system, with the parts, the told ranges, the open windows and the new ones
pub record IsAsking (p : Classing) (windows : ByKind (List (Option Extent))) (regions : List CodeRegion)
    (lines : List Line) (q : Request) : Type 0 where
  pub system : IsSystem p.system
  pub nested : IsNested q.roots p.system
  pub left : TellsClasses p q
  pub parts : AreParts q p.system regions
  pub told : AreLines q.roots q.told.ranges lines
  pub new : (class : CodeKind) → HasNewWhereStands q p class (by_kind windows class)

-- a request leaves the open windows over each bus, and these are the new ones of each class of which a window stands
pub record IsKnowing (p : Classing) (windows : ByKind (List (Option Extent))) (q : Request) : Type 0 where
  pub left : TellsClasses p q
  pub new : (class : CodeKind) → HasNewWhereStands q p class (by_kind windows class)

-- what a table tells of a part that its function has; of another one, whether it stands
abbrev pub told_in : Request → System → List Kept → FunctionPart → Bool
told_in q s table r =
    if has_part r.function r.part then stands_in s table r else stands q s r

-- of the functions from place k on a table tells which parts stand with room, as it tells itself, and of those before which stand
pub record IsHeldFrom (q : Request) (s : System) (table : List Kept) (k : ℕ) : Type 0 where
  pub count : length table ≡ length s
  pub opens : AreOpen s table
  pub told : (j : ℕ) (f : Function) (part : Part) → k ≤ j → slice_get s j ≡ Some f
      → IsTrue (has_part f part)
      → kept_of (slice_index_or table j nothing_kept) part
      ≡ (stands q s record { function = f; part = part } && has_room q s (told_in q s table) f part)
  pub rest : (j : ℕ) (f : Function) (part : Part) → j < k → slice_get s j ≡ Some f
      → IsTrue (has_part f part)
      → kept_of (slice_index_or table j nothing_kept) part
      ≡ stands q s record { function = f; part = part }

-- whether a window stands with room, by what a table tells
abbrev pub IsWindowHolding : Request → System → List Kept → Function → WindowKind → Bool → Type 0
IsWindowHolding q s table f c holds =
    holds ≡ (stands q s (window_part c f) && has_places q s (told_in q s table) f c)

-- a table by function in slot order, with the parts of each of which a test holds; of windows only open ones are there
pub record AreNoted (s : System) (holds : FunctionPart → Bool) (table : List Kept) : Type 0 where
  pub count : length table ≡ length s
  pub opens : AreOpen s table
  pub each : (k : ℕ) (f : Function) (part : Part) → slice_get s k ≡ Some f
      → IsTrue (has_part f part)
      → kept_of (slice_index_or table k nothing_kept) part
      ≡ holds record { function = f; part = part }

-- a table with what holds of each
abbrev pub AreHolding : Request → System → List Kept → Type 0
AreHolding q s table = AreNoted s (has_room_behind q s) table
