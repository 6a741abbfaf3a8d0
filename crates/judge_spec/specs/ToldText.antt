-- The text of told ranges: a line for each.
use Rattle.std.specs.Prelude.{◌≡◌, ℕ, Bool, true, false, List, [], ◌∷◌, ◌++◌, codes}
use Rattle.std.specs.List.{flat_map}
use Rattle.pci_spec.specs.System.{Space, Io, Memory}
use Rattle.pci_spec.specs.Text.{slot_text}
use Rattle.pci_spec.specs.Line.{field, address_text}
use Rattle.judge_spec.specs.Told.{Mark, Command, Always, Held, ToldRange, IsTold}

-- a space, and whether a prefetchable window passes the range
abbrev pub space_word : Space → Bool → List ℕ
space_word Io prefetchable = codes "io"
space_word Memory false = codes "mem"
space_word Memory true = codes "pref"

abbrev pub mark_word : Mark → List ℕ
mark_word Command = codes "command"
mark_word Always = codes "always"
mark_word Held = codes "held"

-- a space and the name, where there is one
abbrev pub name_text : List ℕ → List ℕ
name_text [] = []
name_text (c ∷ name) = field (c ∷ name)

-- the first and the last address
abbrev pub range_text : ToldRange → List ℕ
range_text r = address_text r.space r.first ++ (45 ∷ address_text r.space r.last)

-- a line up to the end of its range
abbrev pub range_head : ToldRange → List ℕ
range_head r = slot_text r.slot ++ field (space_word r.space r.prefetchable) ++ field (range_text r)

-- a whole line
unfoldable pub told_line : ToldRange → List ℕ
told_line r = range_head r ++ field (mark_word r.mark) ++ name_text r.name ++ (10 ∷ [])

abbrev pub told_text : List ToldRange → List ℕ
told_text ranges = flat_map told_line ranges

-- the bytes are the text of these ranges
abbrev pub IsToldTextOf : List ℕ → List ToldRange → Type 0
IsToldTextOf bytes ranges = IsTold ranges × (bytes ≡ told_text ranges)
