-- What stands of a system, row by row, how far its windows can grow, and windows that can to all addresses of 64 bits.
use Rattle.std.specs.Prelude.{◌≡◌, ℕ, Bool, ◌||◌, IsTrue, IsFalse, List, length, Option, None, Some, slice_get, ⊤}
use Rattle.std.specs.List.{Contains}
use Rattle.std.specs.List.Sorted.{IsNonDecreasingBy}
use Rattle.std.specs.Option.{option_map}
use Rattle.pci_spec.specs.Window.{WindowKind}
use Rattle.pci_spec.specs.System.{System, Function}
use Rattle.settle_spec.specs.Lists.{Request}
use Rattle.settle_spec.specs.Stands.{window_part, stands}
use Rattle.settle_spec.specs.Reach.{reach}
use Rattle.pci_base.specs.declared.memory.Refused.{Refused}
use Rattle.pci_base.specs.declared.memory.Refused.TheVariants as refused
use Rattle.pci_base.specs.declared.range.Range.{Range}
use Rattle.pci_base.specs.declared.window_kind.WindowKind.{WindowKind as CodeKind}
use Rattle.pci_base.specs.declared.window_kind.ByKind.{ByKind}
use Rattle.pci_base.specs.WindowKinds.{kind_value}
use Rattle.pci_base.specs.Ranges.{decoded_range_of}
use Rattle.pci_first_fit.specs.declared.kept.Kept.{Kept}
use Rattle.pci_first_fit.specs.declared.lines.Line.{Line}
use Rattle.pci_first_fit.specs.Lines.{AreLineRows, AreLines}
use Rattle.pci_first_fit.specs.NewWindows.{IsTooLarge}
use Rattle.pci_kept.specs.declared.region.Region.{Region}
use Rattle.pci_kept.specs.Known.{AreParts}
use Rattle.pci_kept.specs.Passing.{AreStanding}
use Rattle.pci_kept.specs.declared.windows.TooLarge.{TooLarge}
use Rattle.pci_kept.specs.Windows.{IsWholeRange, is_whole_range}
use Rattle.pci_grow.specs.declared.reaching.Reaching.{Reaching as CodeReaching}
use Rattle.pci_grow.specs.Reaches.{AreWindowReaches}
use Rattle.pci_grow.specs.Rows.{region_row_number, AreRowsOfStanding}
use Rattle.pci_first_fit.specs.Tables.{told}

-- the parts of all functions, which of them stand, those row by row, how far each window can grow, and the told ranges
pub record Reaching : Type 0 where
  pub regions : List Region
  pub kept : List Kept
  pub rows : List Region
  pub reaches : List (ByKind (Option Range))
  pub lines : List Line

-- that of the code
abbrev pub reaching_value : {A : Type 0} → CodeReaching A → Reaching
reaching_value x = record {
  regions = x.regions.items;
  kept = x.kept.items;
  rows = x.rows.items;
  reaches = x.reaches.items;
  lines = x.lines.items;
}

-- so it is of a system: nothing is told of a window that doesn't stand
pub record IsReaching (q : Request) (s : System) (x : Reaching) : Type 0 where
  pub parts : AreParts q s x.regions
  pub stand : AreStanding q s x.kept
  pub are_rows : AreRowsOfStanding x.regions x.kept x.rows
  pub rise : IsNonDecreasingBy region_row_number x.rows
  pub count : length x.reaches ≡ length s
  pub told_reaches : AreWindowReaches q s x.reaches
  pub line_rows : AreLineRows x.lines
  pub are_lines : AreLines q.roots q.told.ranges x.lines
  pub only : (k : ℕ) (f : Function) (class : CodeKind) → slice_get s k ≡ Some f
      → IsFalse (stands q s (window_part (kind_value class) f)) → told x.reaches k class ≡ None

-- ---- all addresses

-- something told of the windows of a function has all addresses of 64 bits
abbrev pub tells_whole : ByKind (Option Range) → Bool
tells_whole ranges =
    is_whole_range (option_map decoded_range_of ranges.io)
    || is_whole_range (option_map decoded_range_of ranges.memory)
    || is_whole_range (option_map decoded_range_of ranges.prefetchable)

abbrev pub TellsWhole : List (ByKind (Option Range)) → Type 0
TellsWhole table = (ranges : ByKind (Option Range)) × (Contains table ranges × IsTrue (tells_whole ranges))

-- a window that stands can grow to all addresses of 64 bits
pub record HasWholeReach (q : Request) (s : System) : Type 0 where
  pub function : Function
  pub listed : Contains s function
  pub class : WindowKind
  pub stand : IsTrue (stands q s (window_part class function))
  pub whole : IsWholeRange (reach q s class function)

-- a new window of some class is too large, and a window that stands can grow to all addresses, or there was no memory
abbrev pub IsTooLargeAround : Request → System → Refused TooLarge → Type 0
IsTooLargeAround q s refused.Memory = ⊤
IsTooLargeAround q s (refused.Fault x) =
    IsTooLarge q s (kind_value x.class) x.function × HasWholeReach q s
