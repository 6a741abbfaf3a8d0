-- Where a text of told ranges stops being one: its good beginnings, and its first fault.
use Rattle.std.specs.Prelude.{◌≡◌, ◌≢◌, ◌⊎◌, ℕ, ◌<◌, ◌≤◌, List, [], ◌∷◌, ◌++◌, length}
use Rattle.pci_spec.specs.Slot.{Slot, IsSlot, slot_number}
use Rattle.pci_spec.specs.Text.{slot_text, line_after, TextFault, BadSlot, BadTitle, BadLine, NoBlank, Order, TooMany, Ended}
use Rattle.judge_spec.specs.Told.{ToldRange, IsToldLine, IsTold, AreInSlotOrder}
use Rattle.judge_spec.specs.ToldText.{range_head, told_line, told_text, IsToldTextOf}

-- bytes begin with a text
abbrev pub StartsWith : List ℕ → List ℕ → Type 0
StartsWith bytes text = (more : List ℕ) × (bytes ≡ text ++ more)

-- Less than a whole line: more is needed to make it the line of this range. A whole slot in it isn't below the one of the
-- line before, and a whole range in it isn't backward.
pub record IsPartOfLine (ranges : List ToldRange) (part : List ℕ) (r : ToldRange) : Type 0 where
  pub line : IsToldLine r
  pub rest : List ℕ
  pub unfinished : rest ≢ []
  pub whole : part ++ rest ≡ told_line r
  pub order : StartsWith part (slot_text r.slot) → AreInSlotOrder (ranges ++ r ∷ [])
  pub forward : StartsWith part (range_head r) → r.first ≤ r.last

-- a good beginning: whole lines, and a part of one more, where there is room
pub record IsToldFront (bytes : List ℕ) (ranges : List ToldRange) (part : List ℕ) : Type 0 where
  pub split : bytes ≡ told_text ranges ++ part
  pub told : IsTold ranges
  pub next : (r : ToldRange) × IsPartOfLine ranges part r
  pub begun : part ≢ [] → length ranges < 4096

abbrev pub IsGoodTold : List ℕ → Type 0
IsGoodTold bytes = (ranges : List ToldRange) × (part : List ℕ) × IsToldFront bytes ranges part

-- ---- its faults

-- the line before has a slot above this one
pub record IsBelowLast (ranges : List ToldRange) (s : Slot) : Type 0 where
  pub others : List ToldRange
  pub last : ToldRange
  pub split : ranges ≡ others ++ last ∷ []
  pub below : slot_number s < slot_number last.slot

-- the bytes of a line are a slot below the one before it
abbrev pub IsLowSlot : List ToldRange → List ℕ → Type 0
IsLowSlot ranges bytes = (s : Slot) × IsSlot s × (bytes ≡ slot_text s) × IsBelowLast ranges s

-- they end with a range that is backward
abbrev pub IsBackward : List ℕ → Type 0
IsBackward bytes = (r : ToldRange) × IsToldLine r × (bytes ≡ range_head r) × (r.last < r.first)

-- a byte behind a part of a line completes one of these
abbrev pub BreaksOrder : List ToldRange → List ℕ → ℕ → Type 0
BreaksOrder ranges part c = IsLowSlot ranges (part ++ c ∷ []) ⊎ IsBackward (part ++ c ∷ [])

-- A good beginning, and the byte in this line with which it isn't good any more; P holds of the ranges and the part before
-- the byte, and of the byte.
pub record ToldStopWhere (bytes : List ℕ) (line : ℕ)
    (P : List ToldRange → List ℕ → ℕ → Type 0) : Type 0 where
  pub front : List ℕ
  pub byte : ℕ
  pub more : List ℕ
  pub split : bytes ≡ front ++ byte ∷ more
  pub ranges : List ToldRange
  pub part : List ℕ
  pub is_front : IsToldFront front ranges part
  pub bad : IsGoodTold (front ++ byte ∷ []) → ⊥
  pub in_line : line ≡ line_after front
  pub holds : P ranges part byte

-- the first fault of a text that is none
abbrev pub IsToldFaultOf : List ℕ → TextFault → Type 0
-- one of the first eight bytes of a line
IsToldFaultOf bytes (BadSlot line) =
    ToldStopWhere bytes line (λ ranges part c. (length part < 8) × (length ranges < 4096)
    × (BreaksOrder ranges part c → ⊥))
-- there are no titles
IsToldFaultOf bytes (BadTitle line) = ⊥
-- a later byte of a line
IsToldFaultOf bytes (BadLine line) =
    ToldStopWhere bytes line (λ ranges part c. (8 ≤ length part) × (BreaksOrder ranges part c → ⊥))
-- there are no empty lines
IsToldFaultOf bytes (NoBlank line) = ⊥
-- the byte that completes a slot below the one before it, or a range that is backward
IsToldFaultOf bytes (Order line) = ToldStopWhere bytes line BreaksOrder
-- the first byte after all the lines that there is room for
IsToldFaultOf bytes (TooMany line) =
    ToldStopWhere bytes line (λ ranges part c. length ranges ≡ 4096)
-- the whole input begins a text, and is none
IsToldFaultOf bytes (Ended line) =
    IsGoodTold bytes × ((ranges : List ToldRange) → IsToldTextOf bytes ranges → ⊥)
    × (line ≡ line_after bytes)
