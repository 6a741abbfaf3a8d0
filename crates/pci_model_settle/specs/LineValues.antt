-- Lines as the definitions have them.
use Rattle.std.specs.Prelude.{◌≡◌, ℕ, nat_le, Bool, true, false, List, [], ◌∷◌, ◌++◌, map}
use Rattle.pci_spec.specs.Slot.{slot_number}
use Rattle.std.specs.List.{All}
use Rattle.judge_spec.specs.Told.{AreInSlotOrder, IsToldRange, ToldRange}
use Rattle.pci_base.specs.Space.{space_of}
use Rattle.pci_dump.specs.ToldMarks.{mark_of}
use Rattle.pci_model_settle.specs.declared.claim_lines.Line.{Line as CodeLine}
use Rattle.pci_model_settle.specs.declared.claim_lines.Origin.TheVariants.{Bridge}
use Rattle.pci_model_settle.specs.declared.off_devices.Shown.{Shown}
use Rattle.pci_model_settle.specs.OffDevices.{ShownPart}
use Rattle.pci_model_settle.specs.ClaimLines.{Line, LinesWithOrigins, claim_line}

abbrev pub line_value : CodeLine → Line
line_value l = record {
  range = record {
    slot = l.slot;
    space = space_of l.space;
    prefetchable = l.prefetchable;
    first = l.first;
    last = l.last;
    mark = mark_of l.mark;
    name = [];
  };
  origin = l.origin;
}

-- a range that a register shows
abbrev pub shown_value : Shown → ShownPart
shown_value s = record {
  slot = s.slot;
  register = s.register;
  space = space_of s.space;
  prefetchable = s.prefetchable;
  range = record { first = s.first; last = s.last };
}

-- what lines are put in order by
abbrev pub key_of : CodeLine → ℕ
key_of l = slot_number l.slot

-- the ranges of lines
abbrev pub code_line_ranges : List CodeLine → List ToldRange
code_line_ranges lines = map (λ l. (line_value l).range) lines

-- some lines are put behind others
abbrev pub AddsLines : List CodeLine → List CodeLine → List Line → Type 0
AddsLines old new lines = map line_value new ≡ map line_value old ++ lines

-- some held ranges are
abbrev pub AddsClaims : List CodeLine → List CodeLine → List ToldRange → Type 0
AddsClaims old new claims = AddsLines old new (map claim_line claims)

-- whether the next line of two lists is the first list's
abbrev pub is_next : List CodeLine → List CodeLine → Bool
is_next xs [] = true
is_next [] (y ∷ ys) = false
is_next (x ∷ xs) (y ∷ ys) = nat_le (key_of x) (key_of y)

-- their ranges can be told one by one, and stand in the order of slots
pub record AreToldInOrder (lines : List CodeLine) : Type 0 where
  pub each : All IsToldRange (code_line_ranges lines)
  pub order : AreInSlotOrder (code_line_ranges lines)

-- lines as they are kept
abbrev pub kept_code_lines : List CodeLine → LinesWithOrigins
kept_code_lines lines = record { told = code_line_ranges lines; origins = Bridge ∷ map (λ l. l.origin) lines }
