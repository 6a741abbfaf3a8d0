-- Told ranges as rows of the code, by the buses on which they are.
use Rattle.std.specs.Prelude.{◌≡◌, ℕ, ◌+◌, ◌<◌, ◌≤◌, ◌==◌, nat_le, Bool, ◌&&◌, not, if◌then◌else◌, List, [], ◌∷◌, ◌++◌, map, length, slice_index_or}
use Rattle.std.specs.List.{All}
use Rattle.std.specs.List.Sorted.{IsPermutation, IsNonDecreasingBy}
use Rattle.pci_spec.specs.Slot.{Slot, same_slot}
use Rattle.pci_spec.specs.Decoded.{Range as DecodedRange}
use Rattle.pci_spec.specs.Bus.{is_root}
use Rattle.pci_spec.specs.System.{Space}
use Rattle.judge_spec.specs.Told.{ToldRange}
use Rattle.judge_spec.specs.ToldClaims.{is_marked_held}
use Rattle.judge_spec.specs.ToldRegion.{told_extent}
use Rattle.settle_spec.specs.FirstPlace.{ranges_are_apart}
use Rattle.settle_spec.specs.Parts.{are_same_space}
use Rattle.pci_base.specs.declared.range.Range.{Range}
use Rattle.pci_base.specs.Ranges.{decoded_range_of}
use Rattle.pci_base.specs.Space.{space_of}
use Rattle.pci_first_fit.specs.declared.lines.Line.{Line}

-- ---- rows

-- 0 for a root, else one more than the bus number: all roots are one bus
abbrev pub level_of : List ℕ → ℕ → ℕ
level_of roots bus = if is_root roots bus then 0 else bus + 1

-- a told range on its bus, by its index in the text
pub record Row : Type 0 where
  pub level : ℕ
  pub bus : ℕ
  pub slot : Slot
  pub space : Space
  pub range : DecodedRange
  pub held : Bool
  pub index : ℕ

abbrev pub row_of : Line → Row
row_of l = record {
  level = l.level;
  bus = l.bus;
  slot = l.slot;
  space = space_of l.space;
  range = decoded_range_of l.range;
  held = l.held;
  index = l.index;
}

abbrev pub told_row : List ℕ → ℕ → ToldRange → Row
told_row roots index r = record {
  level = level_of roots r.slot.bus;
  bus = r.slot.bus;
  slot = r.slot;
  space = r.space;
  range = told_extent r;
  held = is_marked_held r.mark;
  index = index;
}

-- the rows of ranges of which the first has an index
abbrev pub rows_from : List ℕ → ℕ → List ToldRange → List Row
rows_from roots index [] = []
rows_from roots index (r ∷ ranges) = told_row roots index r ∷ rows_from roots (index + 1) ranges

abbrev pub line_level : Line → ℕ
line_level l = l.level

abbrev pub line_code_range : Line → Range
line_code_range l = l.range

abbrev pub IsForwardLine : Line → Type 0
IsForwardLine l = l.range.first ≤ l.range.last

-- by rising levels, each with an address
pub record AreLineRows (lines : List Line) : Type 0 where
  pub order : IsNonDecreasingBy line_level lines
  pub forward : All IsForwardLine lines

-- these are the rows of all ranges of a text
pub record AreLines (roots : List ℕ) (ranges : List ToldRange) (lines : List Line) : Type 0 where
  pub rows : IsPermutation (rows_from roots 0 ranges) (map row_of lines)

-- ---- which of them

-- whether a row of a space is on one of these levels
abbrev pub is_row_between : ℕ → ℕ → Space → Row → Bool
is_row_between low high space r =
    nat_le low r.level && (nat_le r.level high && are_same_space space r.space)

-- whether a row of a space is on a root among these buses
abbrev pub is_root_row : ℕ → ℕ → Space → Row → Bool
is_root_row first last space r =
    r.level == 0 && (nat_le first r.bus && (nat_le r.bus last && are_same_space space r.space))

abbrev pub is_on_levels : ℕ → ℕ → Space → Line → Bool
is_on_levels low high space l = is_row_between low high space (row_of l)

abbrev pub is_root_line : ℕ → ℕ → Space → Line → Bool
is_root_line first last space l = is_root_row first last space (row_of l)

-- whether a row keeps what the function of a slot has on a level and in a space off a range
abbrev pub row_keeps_off : ℕ → Slot → Space → DecodedRange → Row → Bool
row_keeps_off level slot space range r =
    r.level == level && (are_same_space space r.space
    && (not (r.held && same_slot r.slot slot) && not (ranges_are_apart r.range range)))

abbrev pub line_keeps_off : ℕ → Slot → Space → DecodedRange → Line → Bool
line_keeps_off level slot space range l = row_keeps_off level slot space range (row_of l)

-- ---- ranges that are added

-- none of some ranges is backward
abbrev pub AreForwardRanges : List Range → Type 0
AreForwardRanges ranges =
    (k : ℕ) (d : Range) → k < length ranges
    → (slice_index_or ranges k d).first ≤ (slice_index_or ranges k d).last

-- to ranges others are added, in some order
pub record AreAdded (old new : List Range) (more : List DecodedRange) : Type 0 where
  pub added : List Range
  pub put : new ≡ old ++ added
  pub same : IsPermutation more (map decoded_range_of added)
