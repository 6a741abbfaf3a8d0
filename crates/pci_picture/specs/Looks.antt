-- How the boxes of regions look.
use Rattle.std.specs.Prelude.{◌≡◌, ℕ, Bool, false, true, ◌||◌, List, [], ◌∷◌, ◌++◌, drop, map, take}
use Rattle.pci_picture.specs.BoxWords.{words_in_box, words_of_off}
use Rattle.pci_picture.specs.Heights.{AddressRange}
use Rattle.pci_picture.specs.Lines.{words_in_line}
use Rattle.pci_picture.specs.Marks.{is_named, key_of_region, look_of_part, look_with}
use Rattle.pci_picture.specs.Roots.{Listed}
use Rattle.pci_picture.specs.Said.{FaultSaid, faults_said, said_of_key}
use Rattle.pci_picture.specs.Spots.{BoxSpot}
use Rattle.pci_picture.specs.Tellings.{ranges_of_faults}
use Rattle.pci_picture.specs.Titles.{said_below}
use Rattle.pci_picture.specs.declared.lanes.Width.{Width}
use Rattle.pci_picture.specs.declared.plan.Placed.{Placed}
use Rattle.pci_picture.specs.declared.region.Region.{Region}

-- how the functions and the faults of a board show at the boxes of a section. The class of a box, by whether the region is out of
-- place and by its line, and what its title says below this line; the text of the words in a box, by the width of its region, and
-- of those of a region that is off; and the ranges that the faults of some lines tell
pub record Look : Type 0 where
  pub class : Bool → List ℕ → List ℕ
  pub said : List ℕ → List ℕ
  pub words : Width → BoxSpot → List ℕ
  pub off_words : BoxSpot → List ℕ
  pub told : List (List ℕ) → List AddressRange

-- it clashes where a fault 61 or 62 names it, and is lost where it is out of place or a fault 60 or 63 names it
abbrev pub class_with : (ℕ → ℕ → ℕ → Bool) → Bool → List ℕ → List ℕ
class_with named is_out line =
    look_with (named 61 62 (key_of_region (words_in_line line))) (is_out || named 60 63 (key_of_region (words_in_line line)))
    (look_of_part (words_in_line line))

-- by which faults name a region, by the functions of the board, by what is said of the faults that name a region, and by the faults
abbrev pub look_by : (ℕ → ℕ → ℕ → Bool) → List Listed → (ℕ → List ℕ) → List FaultSaid → Look
look_by named functions said faults = record {
  class = class_with named;
  said = λ line. said_below functions said (words_in_line line);
  words = words_in_box named functions;
  off_words = words_of_off functions;
  told = ranges_of_faults faults;
}

-- the faults are those of a text
abbrev pub look_told : List Listed → List ℕ → Look
look_told functions faults = look_by (is_named faults) functions (said_of_key faults) (faults_said faults)

-- the title of a box is its line, and what is said below it
abbrev pub IsTitled : Look → BoxSpot → Type 0
IsTitled look spot = spot.title ≡ spot.line ++ look.said spot.line

-- ---- the looks of some regions

abbrev pub looks_of : Look → Bool → List Region → List (List ℕ)
looks_of look is_lost regions = map (λ region. look.class is_lost region.line.now) regions

abbrev pub looks_placed : Look → List Placed → List (List ℕ)
looks_placed look places = map (λ placed. look.class placed.is_lost placed.region.line.now) places

-- the regions up to a number are in place, and all others are not
abbrev pub looks_up_to : Look → ℕ → List Region → List (List ℕ)
looks_up_to look count regions = looks_of look false (take count regions) ++ looks_of look true (drop count regions)

-- ---- the words of some boxes

-- the words in boxes with these widths, one behind the other
abbrev pub words_of_boxes : Look → List Width → List BoxSpot → List ℕ
words_of_boxes look [] spots = []
words_of_boxes look (width ∷ widths) [] = []
words_of_boxes look (width ∷ widths) (spot ∷ spots) = look.words width spot ++ words_of_boxes look widths spots
