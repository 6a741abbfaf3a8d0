-- The text of told ranges byte by byte: how far a line is read, and what its next byte makes of that.
-- Reading goes on exactly where the bytes are a good beginning, and stops with the fault: proofs/ToldRows, proofs/ToldFaults.
use Rattle.std.specs.Prelude.{◌≡◌, ◌<◌, ◌≤◌, ◌^◌, ℕ, ◌+◌, ◌-◌, ◌*◌, ◌==◌, nat_le, nat_lt, Bool, true, false, ◌&&◌, if◌then◌else◌, List, [], ◌∷◌, ◌++◌, length, slice_index_or, Option, None, Some}
use Rattle.pci_spec.specs.Slot.{Slot, IsSlot, slot_number}
use Rattle.pci_spec.specs.System.{Space, Io, Memory, IsAddress}
use Rattle.pci_spec.specs.Text.{TextFault, BadSlot, BadLine, Order, TooMany}
use Rattle.judge_spec.specs.Told.{Command, Always, Held, ToldRange, is_name_byte, IsName}
use Rattle.judge_spec.specs.ToldText.{space_word, mark_word}

-- ---- a line

-- the numbers of a line
pub data Field : Type 0 where
  Bus : Field
  Device : Field
  Function : Field
  First : Field
  Last : Field

-- how far a line is read
pub data Place : Type 0 where
  -- so many digits of a number
  Digits : Field → ℕ → Place
  -- all digits of a number
  After : Field → Place
  -- so many letters of the space, and of the mark
  InSpace : ℕ → Place
  InMark : ℕ → Place
  -- the space behind the mark, and the name so far
  InName : Place

-- a line that is begun: the number that the digits so far spell, and what is read of the range
pub record Begun : Type 0 where
  pub place : Place
  pub number : ℕ
  pub range : ToldRange

-- a range of which nothing is read
abbrev pub blank : ToldRange
blank = record {
  slot = record { bus = 0; device = 0; function = 0 };
  space = Io;
  prefetchable = false;
  first = 0;
  last = 0;
  mark = Command;
  name = [];
}

-- no byte of a line
abbrev pub no_line : Begun
no_line = record { place = Digits Bus 0; number = 0; range = blank }

-- what a byte makes of a line: it is none, or it goes on, or it has ended
pub data Step : Type 0 where
  Wrong : Step
  Goes : Begun → Step
  Ends : ToldRange → Step

abbrev pub goes_at : Place → ToldRange → Step
goes_at place r = Goes record { place = place; number = 0; range = r }

-- ---- numbers

-- what a byte stands for as a hex digit in lower case
unfoldable pub digit_in : ℕ → Option ℕ
digit_in c =
    if nat_le 48 c && nat_le c 57 then Some (c - 48)
    else if nat_le 97 c && nat_le c 102 then Some (c - 87)
    else None

-- how many digits a number has
abbrev pub digits_of : Field → Space → ℕ
digits_of Bus space = 2
digits_of Device space = 2
digits_of Function space = 1
digits_of First Io = 8
digits_of First Memory = 16
digits_of Last Io = 8
digits_of Last Memory = 16

-- the greatest digit behind so many
abbrev pub greatest_digit : Field → ℕ → ℕ
greatest_digit Bus k = 15
greatest_digit Device k = if k == 0 then 1 else 15
greatest_digit Function k = 7
greatest_digit First k = 15
greatest_digit Last k = 15

-- the range with a number that is read
abbrev pub with_number : Field → ℕ → ToldRange → ToldRange
with_number Bus n r = record r { slot = record r.slot { bus = n } }
with_number Device n r = record r { slot = record r.slot { device = n } }
with_number Function n r = record r { slot = record r.slot { function = n } }
with_number First n r = record r { first = n }
with_number Last n r = record r { last = n }

-- after so many digits
abbrev pub after_digits : Field → ℕ → ℕ → ToldRange → Step
after_digits f k n r =
    if k == digits_of f r.space then goes_at (After f) (with_number f n r)
    else Goes record { place = Digits f k; number = n; range = r }

abbrev pub digit_step : Field → ℕ → ℕ → ToldRange → Option ℕ → Step
digit_step f k n r None = Wrong
digit_step f k n r (Some d) =
    if nat_le d (greatest_digit f k) then after_digits f (k + 1) (16 * n + d) r else Wrong

-- the byte behind a number, and what comes then
abbrev pub separator : Field → ℕ
separator Bus = 58
separator Device = 46
separator Function = 32
separator First = 45
separator Last = 32

abbrev pub behind : Field → Place
behind Bus = Digits Device 0
behind Device = Digits Function 0
behind Function = InSpace 0
behind First = Digits Last 0
behind Last = InMark 0

-- ---- words

-- the first letter tells the word
abbrev pub space_begins : ToldRange → ℕ → Step
space_begins r c =
    if c == 105 then goes_at (InSpace 1) (record r { space = Io; prefetchable = false })
    else if c == 109 then goes_at (InSpace 1) (record r { space = Memory; prefetchable = false })
    else if c == 112 then goes_at (InSpace 1) (record r { space = Memory; prefetchable = true })
    else Wrong

abbrev pub mark_begins : ToldRange → ℕ → Step
mark_begins r c =
    if c == 99 then goes_at (InMark 1) (record r { mark = Command })
    else if c == 97 then goes_at (InMark 1) (record r { mark = Always })
    else if c == 104 then goes_at (InMark 1) (record r { mark = Held })
    else Wrong

-- a byte behind so many letters of a word
abbrev pub word_step : List ℕ → ℕ → Step → Step → ℕ → Step
word_step word k next end c =
    if nat_lt k (length word) then (if slice_index_or word k 0 == c then next else Wrong)
    else end

abbrev pub space_step : ℕ → ToldRange → ℕ → Step
space_step k r c =
    word_step (space_word r.space r.prefetchable) k (goes_at (InSpace (k + 1)) r)
    (if c == 32 then goes_at (Digits First 0) r else Wrong) c

-- behind the mark the line ends, or a name comes
abbrev pub mark_step : ℕ → ToldRange → ℕ → Step
mark_step k r c =
    word_step (mark_word r.mark) k (goes_at (InMark (k + 1)) r)
    (if c == 10 then Ends r else if c == 32 then goes_at InName r else Wrong) c

abbrev pub name_step : ToldRange → ℕ → Step
name_step r c =
    if c == 10 then (if length r.name == 0 then Wrong else Ends r)
    else if is_name_byte c && nat_lt (length r.name) 32
    then goes_at InName (record r { name = r.name ++ c ∷ [] })
    else Wrong

-- ---- a step

unfoldable pub step_at : Place → ℕ → ToldRange → ℕ → Step
step_at (Digits f k) n r c = digit_step f k n r (digit_in c)
step_at (After f) n r c = if c == separator f then goes_at (behind f) r else Wrong
step_at (InSpace k) n r c = if k == 0 then space_begins r c else space_step k r c
step_at (InMark k) n r c = if k == 0 then mark_begins r c else mark_step k r c
step_at InName n r c = name_step r c

abbrev pub step : Begun → ℕ → Step
step l c = step_at l.place l.number l.range c

-- whether the next byte is one of the first eight
abbrev pub is_of_slot : Place → Bool
is_of_slot (Digits Bus k) = true
is_of_slot (Digits Device k) = true
is_of_slot (Digits Function k) = true
is_of_slot (After Bus) = true
is_of_slot (After Device) = true
is_of_slot (After Function) = true
is_of_slot place = false

-- ---- what is known of a line that is begun

-- the numbers that are read, and the places in them, are in their ranges
abbrev pub IsFit : Place → ℕ → ToldRange → Type 0
IsFit (Digits Bus k) n r = (k < 2) × (n < 16 ^ k)
IsFit (Digits Device k) n r = (k < 2) × (n < 2 ^ k) × (r.slot.bus < 256)
IsFit (Digits Function k) n r = (k < 1) × (n < 1) × (r.slot.bus < 256) × (r.slot.device < 32)
IsFit (Digits First k) n r = (k < digits_of First r.space) × (n < 16 ^ k) × IsSlot r.slot
IsFit (Digits Last k) n r =
    (k < digits_of First r.space) × (n < 16 ^ k) × IsSlot r.slot × IsAddress r.space r.first
IsFit (After Bus) n r = r.slot.bus < 256
IsFit (After Device) n r = (r.slot.bus < 256) × (r.slot.device < 32)
IsFit (After Function) n r = IsSlot r.slot
IsFit (After First) n r = IsSlot r.slot × IsAddress r.space r.first
IsFit (After Last) n r = IsSlot r.slot × IsAddress r.space r.first × IsAddress r.space r.last
IsFit (InSpace k) n r = (k ≤ length (space_word r.space r.prefetchable)) × IsSlot r.slot
IsFit (InMark k) n r =
    (k ≤ length (mark_word r.mark)) × IsSlot r.slot × IsAddress r.space r.first
    × IsAddress r.space r.last
IsFit InName n r = IsSlot r.slot × IsAddress r.space r.first × IsAddress r.space r.last

-- there is no name before it comes
abbrev pub IsUnnamed : Place → ToldRange → Type 0
IsUnnamed (Digits f k) r = r.name ≡ []
IsUnnamed (After f) r = r.name ≡ []
IsUnnamed (InSpace k) r = r.name ≡ []
IsUnnamed (InMark k) r = r.name ≡ []
IsUnnamed InName r = Unit {0}

pub record IsBegun (l : Begun) : Type 0 where
  pub plain : l.range.space ≡ Io → l.range.prefetchable ≡ false
  pub name : IsName l.range.name
  pub unnamed : IsUnnamed l.place l.range
  pub fits : IsFit l.place l.number l.range

-- ---- all lines

-- what is read of a text: whole lines, and a line that is begun
pub record ToldSoFar : Type 0 where
  pub ranges : List ToldRange
  pub line : Begun

abbrev pub nothing_read : ToldSoFar
nothing_read = record { ranges = []; line = no_line }

-- whether a slot may stand behind those of some ranges
abbrev pub slot_follows : List ToldRange → Slot → Bool
slot_follows ranges s =
    nat_le (slot_number (slice_index_or ranges (length ranges - 1) blank).slot) (slot_number s)

-- whether what is just complete is in order
abbrev pub is_in_order : List ToldRange → Place → ToldRange → Bool
is_in_order ranges (After Function) r = slot_follows ranges r.slot
is_in_order ranges (After Last) r = nat_le r.first r.last
is_in_order ranges place r = true

-- a text after one more byte, or its fault
pub data Reads : Type 0 where
  Reading : ToldSoFar → Reads
  Stopped : TextFault → Reads

abbrev pub line_number : List ToldRange → ℕ
line_number ranges = length ranges + 1

abbrev pub take_step : List ToldRange → Place → Step → Reads
take_step ranges place Wrong =
    Stopped (if is_of_slot place then BadSlot (line_number ranges) else BadLine (line_number ranges))
take_step ranges place (Goes line) =
    if is_in_order ranges line.place line.range
    then Reading record { ranges = ranges; line = line }
    else Stopped (Order (line_number ranges))
take_step ranges place (Ends range) =
    Reading record { ranges = ranges ++ range ∷ []; line = no_line }

unfoldable pub take_byte : ToldSoFar → ℕ → Reads
take_byte s c =
    if length s.ranges == 4096 then Stopped (TooMany (line_number s.ranges))
    else take_step s.ranges s.line.place (step s.line c)

-- bytes one after the other
abbrev pub and_then : Reads → (ToldSoFar → Reads) → Reads
and_then (Reading s) next = next s
and_then (Stopped fault) next = Stopped fault

unfoldable pub take_bytes : ToldSoFar → List ℕ → Reads
take_bytes s [] = Reading s
take_bytes s (c ∷ bytes) = and_then (take_byte s c) (λ t. take_bytes t bytes)
