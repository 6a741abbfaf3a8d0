-- The words in the box of a region.
use Rattle.std.specs.Prelude.{ℕ, Bool, ◌+◌, ◌-◌, ◌^◌, ◌&&◌, min, nat_le, List, [], ◌++◌, codes, if◌then◌else◌}
use Rattle.pci_picture.specs.Labels.{cut_words, label_text}
use Rattle.pci_picture.specs.Lines.{words_in_line}
use Rattle.pci_picture.specs.Marks.{key_of_region}
use Rattle.pci_picture.specs.RegionWords.{class_of_first, first_words, numbers_naming, second_words, words_if_off}
use Rattle.pci_picture.specs.Roots.{Listed}
use Rattle.pci_picture.specs.Spots.{BoxSpot}
use Rattle.pci_picture.specs.Titles.{says_window}
use Rattle.pci_picture.specs.Trees.{down}
use Rattle.pci_picture.specs.declared.lanes.Width.{Width}

-- a line of words in a box, at a height and with a class, cut to its room; it begins 5 units inside the box
abbrev pub written_in : BoxSpot → ℕ → List ℕ → ℕ → List ℕ → List ℕ
written_in spot y class room words = label_text (min (spot.x + 5) (2 ^ 64 - 1)) y class (cut_words room words)

-- the words of a window have room up to what is inside it, and all others up to the right end of their box; 6 units are kept free
abbrev pub room_of_words : Width → List (List ℕ) → ℕ
room_of_words width words = (if says_window words then width.inner else width.right) - width.left - 6

-- the first line, 11 units below the top of the box
abbrev pub first_in_box : List ℕ → List Listed → Width → BoxSpot → List (List ℕ) → List ℕ
first_in_box numbers functions width spot words =
    written_in spot (down spot.y 11) (class_of_first numbers words) (room_of_words width words) (first_words numbers functions words)

-- the second line, 12 units further down
abbrev pub second_in_box : List Listed → Width → BoxSpot → List (List ℕ) → List ℕ
second_in_box functions width spot words =
    written_in spot (down (down spot.y 11) 12) (codes "quiet") (room_of_words width words) (second_words functions words)

-- the box of a window has a second line where it is at least 27 units high
abbrev pub has_second : BoxSpot → List (List ℕ) → Bool
has_second spot words = says_window words && nat_le 27 spot.height

-- the first line, and the second one where there is one
abbrev pub lines_in_box : List ℕ → List Listed → Width → BoxSpot → List (List ℕ) → List ℕ
lines_in_box numbers functions width spot words =
    first_in_box numbers functions width spot words ++ (if has_second spot words then second_in_box functions width spot words else [])

-- all words in the box of a region that isn't off, by the faults that name regions, the functions of the board, and the width that
-- the region has
unfoldable pub words_in_box : (ℕ → ℕ → ℕ → Bool) → List Listed → Width → BoxSpot → List ℕ
words_in_box named functions width spot =
    lines_in_box (numbers_naming named (key_of_region (words_in_line spot.line))) functions width spot (words_in_line spot.line)

-- the words in the box of a region that is off: one line, cut to the width of the box
unfoldable pub words_of_off : List Listed → BoxSpot → List ℕ
words_of_off functions spot = written_in spot (down spot.y 11) (codes "quiet") spot.width (words_if_off functions (words_in_line spot.line))
