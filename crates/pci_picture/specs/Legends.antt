-- The words of the legend, and its boxes.
use Rattle.std.specs.Prelude.{ℕ, Bool, ◌+◌, ◌-◌, ◌*◌, List, [], ◌∷◌, ◌++◌, codes, length, if◌then◌else◌}
use Rattle.pci_picture.specs.Elements.{box_text}
use Rattle.pci_picture.specs.Labels.{label_text}
use Rattle.pci_picture.specs.declared.legend.Mark.{Mark}
use Rattle.pci_picture.specs.declared.legend.Mark.TheVariants.{Window, Bar, Prefetchable, Rom, Free, Clash, Lost, Off, Shared, Fits, Told, Held}

-- what stands beside the box of a mark
abbrev pub words_of_mark : Mark → List ℕ
words_of_mark Window = codes "window"
words_of_mark Bar = codes "BAR"
words_of_mark Prefetchable = codes "prefetchable"
words_of_mark Rom = codes "ROM"
words_of_mark Free = codes "free"
words_of_mark Clash = codes "clash"
words_of_mark Lost = codes "not reached"
words_of_mark Off = codes "off"
words_of_mark Shared = codes "shared addresses"
words_of_mark Fits = codes "where it would fit"
words_of_mark Told = codes "told"
words_of_mark Held = codes "held"

-- the classes of its box
abbrev pub class_of_mark : Mark → List ℕ
class_of_mark Window = codes "window"
class_of_mark Bar = codes "bar"
class_of_mark Prefetchable = codes "pref"
class_of_mark Rom = codes "rom"
class_of_mark Free = codes "free"
class_of_mark Clash = codes "bar clash"
class_of_mark Lost = codes "bar lost"
class_of_mark Off = codes "off"
class_of_mark Shared = codes "shared"
class_of_mark Fits = codes "fits"
class_of_mark Told = codes "told"
class_of_mark Held = codes "held"

-- the title of its box, which for two of them is shorter than the words
abbrev pub title_of_mark : Mark → List ℕ
title_of_mark Window = codes "window"
title_of_mark Bar = codes "BAR"
title_of_mark Prefetchable = codes "prefetchable"
title_of_mark Rom = codes "ROM"
title_of_mark Free = codes "free"
title_of_mark Clash = codes "clash"
title_of_mark Lost = codes "not reached"
title_of_mark Off = codes "off"
title_of_mark Shared = codes "shared"
title_of_mark Fits = codes "fits"
title_of_mark Told = codes "told"
title_of_mark Held = codes "held"

-- the marks of a legend: those of told ranges stand there where there are any
unfoldable pub marks_of_legend : Bool → List Mark
marks_of_legend is_told =
    Window ∷ Bar ∷ Prefetchable ∷ Rom ∷ Free ∷ Clash ∷ Lost ∷ Off ∷ Shared ∷ Fits ∷ (if is_told then Told ∷ Held ∷ [] else [])

-- marks from a left end on: the words of each stand 21 units behind its beginning, and it has 34 units and seven for each character
abbrev pub legend_text : ℕ → ℕ → List Mark → List ℕ
legend_text base left [] = []
legend_text base left (mark ∷ marks) =
    label_text (left + 21) base [] (words_of_mark mark) ++ legend_text base (left + 34 + 7 * length (words_of_mark mark)) marks

-- their boxes: each is 16 units wide and 11 high, begins where its mark begins, and has its top 9 units above the line of the words
abbrev pub legend_boxes : ℕ → ℕ → List Mark → List ℕ
legend_boxes base left [] = []
legend_boxes base left (mark ∷ marks) =
    box_text left (base - 9) 16 11 (class_of_mark mark) [] (title_of_mark mark)
    ++ legend_boxes base (left + 34 + 7 * length (words_of_mark mark)) marks

-- where the last mark begins, of those from a left end on, where the one before them begins at a place
abbrev pub last_begins : ℕ → ℕ → List Mark → ℕ
last_begins before left [] = before
last_begins before left (mark ∷ marks) = last_begins left (left + 34 + 7 * length (words_of_mark mark)) marks
