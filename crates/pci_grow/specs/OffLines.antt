-- What told ranges hold beside a window on its bus, as the code finds it row by row.
use Rattle.std.specs.Prelude.{◌≡◌, ℕ, ◌-◌, ◌+◌, ◌<◌, ◌≤◌, ◌==◌, nat_lt, min, max, Bool, ◌&&◌, not, if◌then◌else◌, List, [], ◌++◌, length, Option, None, Some, IfSome, slice_index_or}
use Rattle.std.specs.List.{All, flat_map}
use Rattle.std.specs.Option.{option_map}
use Rattle.pci_spec.specs.Slot.{Slot, same_slot}
use Rattle.pci_spec.specs.Decoded.{Range as DecodedRange}
use Rattle.pci_spec.specs.System.{Space}
use Rattle.judge_spec.specs.Told.{ToldRange}
use Rattle.judge_spec.specs.ToldForm.{blank}
use Rattle.judge_spec.specs.ToldClaims.{is_marked_held}
use Rattle.settle_spec.specs.Parts.{are_same_space}
use Rattle.settle_spec.specs.Reach.{before_window, past_window}
use Rattle.pci_base.specs.Ranges.{decoded_range_of}
use Rattle.pci_base.specs.Space.{space_of}
use Rattle.pci_first_fit.specs.declared.lines.Line.{Line}
use Rattle.pci_grow.specs.declared.among.Among.{Among}
use Rattle.pci_grow.specs.Rooms.{IsNearestBelow, IsNearestAbove}

-- ---- the nearest of two

-- the one that ends later
abbrev pub ending_later : Option DecodedRange → Option DecodedRange → Option DecodedRange
ending_later None other = other
ending_later (Some r) None = Some r
ending_later (Some r) (Some t) = if nat_lt r.last t.last then Some t else Some r

-- the one that begins sooner
abbrev pub beginning_sooner : Option DecodedRange → Option DecodedRange → Option DecodedRange
beginning_sooner None other = other
beginning_sooner (Some r) None = Some r
beginning_sooner (Some r) (Some t) = if nat_lt t.first r.first then Some t else Some r

-- what a range has before a window, and behind it
abbrev pub part_before : DecodedRange → DecodedRange → Option DecodedRange
part_before w r =
    if nat_lt r.first w.first then Some record { first = r.first; last = min r.last (w.first - 1) } else None

abbrev pub part_behind : DecodedRange → DecodedRange → Option DecodedRange
part_behind w r =
    if nat_lt w.last r.last then Some record { first = max r.first (w.last + 1); last = r.last } else None

-- ---- row by row

abbrev pub pieces : DecodedRange → DecodedRange → List DecodedRange
pieces w r = before_window w r ++ past_window w r

abbrev pub told_at : List ToldRange → ℕ → ToldRange
told_at told k = slice_index_or told k blank

-- whether a row is of a level and a space, and is no held range of a slot
abbrev pub line_keeps_slot_off : List ToldRange → Slot → ℕ → Space → Line → Bool
line_keeps_slot_off told slot level space l =
    (l.level == level && are_same_space space (space_of l.space))
    && not (is_marked_held (told_at told l.index).mark && same_slot (told_at told l.index).slot slot)

-- what such a row holds beside a window
abbrev pub row_pieces : List ToldRange → Slot → ℕ → Space → DecodedRange → Line → List DecodedRange
row_pieces told slot level space w l =
    if line_keeps_slot_off told slot level space l then pieces w (decoded_range_of l.range) else []

-- and all of them
abbrev pub rows_beside : List ToldRange → Slot → ℕ → Space → DecodedRange → List Line → List DecodedRange
rows_beside told slot level space w lines = flat_map (row_pieces told slot level space w) lines

-- each row has a range of the text
abbrev pub HaveRanges : List ToldRange → List Line → Type 0
HaveRanges told lines = All (λ (l : Line). l.index < length told) lines

-- a window among what it was among, and ranges
pub record IsAmongAlso (w : DecodedRange) (old new : Among) (ts : List DecodedRange) : Type 0 where
  pub window : new.window ≡ old.window
  pub apart : IfSome old.before (λ r. r.last < w.first) → IfSome new.before (λ r. r.last < w.first)
  pub below : w.first ≤ w.last → (beside : List DecodedRange)
      → IsNearestBelow w beside (option_map decoded_range_of old.before)
      → IsNearestBelow w (ts ++ beside) (option_map decoded_range_of new.before)
  pub above : w.first ≤ w.last → (beside : List DecodedRange)
      → IsNearestAbove w beside (option_map decoded_range_of old.behind)
      → IsNearestAbove w (ts ++ beside) (option_map decoded_range_of new.behind)
