-- One pass over told ranges: which of the first stand, and the rows of those and of parts that stand.
use Rattle.std.specs.Prelude.{◌≡◌, ℕ, ◌+◌, ◌-◌, ◌<◌, Bool, true, false, IsTrue, List, [], ◌++◌, Some, length, slice_get, slice_index_or}
use Rattle.std.specs.Bool.{beq}
use Rattle.std.specs.List.{Contains, filter, range_with_len}
use Rattle.judge_spec.specs.Told.{ToldRange, Held}
use Rattle.pci_spec.specs.System.{Io, System}
use Rattle.judge_spec.specs.ToldClaims.{told_register}
use Rattle.judge_spec.specs.ToldRegion.{ToldRegion, told_regions}
use Rattle.settle_spec.specs.Lists.{Request}
use Rattle.settle_spec.specs.Parts.{FunctionPart, system_parts, addresses}
use Rattle.settle_spec.specs.Stands.{part_space, stands, range_stands}
use Rattle.settle_laws.specs.Order.{level}
use Rattle.settle_laws.specs.StandingTold.Passes.{AreFirstRangesTold}
use Rattle.pci_base.specs.Ranges.{decoded_range_of}
use Rattle.pci_base.specs.declared.window_kind.WindowKind.TheVariants as kinds
use Rattle.pci_kept.specs.declared.rows.Row.{Row}
use Rattle.pci_kept.specs.declared.told_line.ToldLine.{ToldLine}
use Rattle.pci_kept.specs.LineRows.{row_key, IsRowOf}

abbrev pub no_range : ToldRange
no_range = record { slot = record { bus = 0; device = 0; function = 0 }; space = Io; prefetchable = false; first = 0; last = 0; mark = Held; name = [] }

-- the line of the range at an index
abbrev pub region_at : Request → ℕ → ToldRegion
region_at q k = record { register = 256 + k; told = slice_index_or q.told.ranges k no_range }

-- of each line a flag, by its number
abbrev pub range_flag : List Bool → ToldRegion → Bool
range_flag flags x = slice_index_or flags (x.register - 256) false

-- flags say of each told range whether it stands, by its index in the text
abbrev pub AreStandingRanges : Request → System → List Bool → Type 0
AreStandingRanges q s flags =
    (n : ℕ) (r : ToldRange) → slice_get q.told.ranges n ≡ Some r
    → slice_index_or flags n false ≡ range_stands q s record { register = told_register n; told = r }

-- ---- turns

abbrev pub no_told_line : ToldLine
no_told_line = record { level = 0; class = kinds.Io; on = false }

-- the indexes of lines that are on, or of those that are off, up to one
abbrev pub turns_up_to : Bool → List ToldLine → ℕ → List ℕ
turns_up_to on lines count =
    filter (λ k. beq (slice_index_or lines k no_told_line).on on) (range_with_len 0 count)

abbrev pub turns_of : Bool → List ToldLine → List ℕ
turns_of on lines = turns_up_to on lines (length lines)

-- lines that are on come first
abbrev pub all_turns : List ToldLine → List ℕ
all_turns lines = turns_of true lines ++ turns_of false lines

-- the range at an index is the next one
pub record IsTurn (q : Request) (xs : List ToldRegion) (count : ℕ) (index : ℕ) : Type 0 where
  pub x : ToldRegion
  pub within : count < length xs
  pub there : slice_index_or xs count x ≡ x
  pub is : slice_index_or q.told.ranges index x.told ≡ x.told
  pub register : 256 + index ≡ x.register

-- rows of the told ranges of which a test says that they stand
pub record AreTakenRows (q : Request) (test : ToldRegion → Bool) (rows : List Row) : Type 0 where
  pub each : (r : Row) → Contains rows r
      → (y : ToldRegion) × Contains (told_regions q.told) y × IsTrue (test y) × IsRowOf q y r
  pub all : (y : ToldRegion) → Contains (told_regions q.told) y → IsTrue (test y)
      → (r : Row) × Contains rows r × IsRowOf q y r

-- the row of a part
pub record IsPartRow (q : Request) (p : FunctionPart) (r : Row) : Type 0 where
  pub key : r.key ≡ row_key (level q p.function.slot.bus) (part_space p)
  pub range : decoded_range_of r.range ≡ addresses p

-- rows of the parts that stand
pub record ArePartRows (q : Request) (s : System) (rows : List Row) : Type 0 where
  pub each : (r : Row) → Contains rows r
      → (p : FunctionPart) × Contains (system_parts q s) p × IsTrue (stands q s p) × IsPartRow q p r
  pub all : (p : FunctionPart) → Contains (system_parts q s) p → IsTrue (stands q s p)
      → (r : Row) × Contains rows r × IsPartRow q p r

-- the first told ranges are passed: those that stand have a flag and a row
pub record AreRangesPassed (q : Request) (s : System) (xs : List ToldRegion) (count : ℕ) (taken : List Row)
    (flags : List Bool) : Type 0 where
  pub size : length flags ≡ length q.told.ranges
  pub told : AreFirstRangesTold q s xs count (range_flag flags)
  pub rows : AreTakenRows q (range_flag flags) taken
