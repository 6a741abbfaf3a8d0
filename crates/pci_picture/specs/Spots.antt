-- Where the boxes of regions stand.
use Rattle.std.specs.Prelude.{◌≡◌, ◌⊎◌, ◌<◌, ◌≤◌, ◌==◌, ◌+◌, ◌-◌, ◌%◌, ◌^◌, ℕ, List, [], ◌∷◌, map, if◌then◌else◌}
use Rattle.std.specs.List.{All, Any, Contains, flat_map, before_first, after_first}
use Rattle.pci_picture.specs.Heights.{AddressRange, HasHeights}
use Rattle.pci_picture.specs.Lines.{is_dash_byte, nth_word, hex_value, words_in_line}

-- ---- the addresses of a region, in the first word of its line

unfoldable pub first_address : List ℕ → ℕ
first_address line = hex_value (before_first is_dash_byte (nth_word (words_in_line line) 0))

unfoldable pub region_last_address : List ℕ → ℕ
region_last_address line = hex_value (after_first is_dash_byte (nth_word (words_in_line line) 0))

-- a word `F-L` has these two numbers
pub record IsExtentWord (word : List ℕ) (first last : ℕ) : Type 0 where
  pub first_is : first ≡ hex_value (before_first is_dash_byte word)
  pub last_is : last ≡ hex_value (after_first is_dash_byte word)
  pub rises : first ≤ last

-- ---- boxes with their places

-- a line of a map that is a region, the title and the class of its box, and where this stands: its left end and its top, its width
-- and its height
pub record BoxSpot : Type 0 where
  pub line : List ℕ
  pub title : List ℕ
  pub class : List ℕ
  pub x : ℕ
  pub y : ℕ
  pub width : ℕ
  pub height : ℕ

abbrev pub spot_at : ℕ → ℕ → ℕ → ℕ → List ℕ → List ℕ → List ℕ → BoxSpot
spot_at x y width height class title line = record { line = line; title = title; class = class; x = x; y = y; width = width; height = height }

abbrev pub lines_drawn : List BoxSpot → List (List ℕ)
lines_drawn spots = map (λ spot. spot.line) spots

abbrev pub classes_drawn : List BoxSpot → List (List ℕ)
classes_drawn spots = map (λ spot. spot.class) spots

-- a section of a picture: its number, its boxes, those of its lines that are out of place, and the text of its words
pub record Section : Type 0 where
  pub number : ℕ
  pub spots : List BoxSpot
  pub lost : List (List ℕ)
  pub words : List ℕ

-- the boxes of some sections, one section behind the other
abbrev pub all_of : List Section → List BoxSpot
all_of sections = flat_map (λ section. section.spots) sections

-- the words of some sections, one section behind the other
abbrev pub words_of_sections : List Section → List ℕ
words_of_sections sections = flat_map (λ section. section.words) sections

-- ---- the heights of a section

-- a region begins at an address, or ends right before it
abbrev pub IsEndOf : ℕ → List ℕ → Type 0
IsEndOf address line = (address ≡ first_address line) ⊎ (address ≡ region_last_address line + 1)

-- heights rise strictly over the ends of some regions
abbrev pub Rise : List (List ℕ) → (ℕ → ℕ) → Type 0
Rise lines height_of = (low high : ℕ) → Any (IsEndOf low) lines → Any (IsEndOf high) lines → low < high
    → height_of low < height_of high

-- a box begins at the height of its first address, and ends one unit above that of the address past its last one
pub record BoxStandsAt (height_of : ℕ → ℕ) (spot : BoxSpot) : Type 0 where
  pub begins : spot.y ≡ height_of (first_address spot.line)
  pub ends : spot.y + spot.height + 1 ≡ height_of (region_last_address spot.line + 1)

-- a range begins at an address, or ends right before it
abbrev pub IsEndOfExtent : ℕ → AddressRange → Type 0
IsEndOfExtent address range = (address ≡ range.first) ⊎ (address ≡ range.last + 1)

-- an address is a cut of some regions and some ranges
abbrev pub IsCutOf : List (List ℕ) → List AddressRange → ℕ → Type 0
IsCutOf lines ranges address = Any (IsEndOf address) lines ⊎ Any (IsEndOfExtent address) ranges

-- a region has an address
abbrev pub IsInSomeRegion : List (List ℕ) → ℕ → Type 0
IsInSomeRegion lines address = Any (λ line. (first_address line ≤ address) × (address < region_last_address line + 1)) lines

-- heights grow with each doubling past 16 ports in I/O space, and past 4 KB in memory space
abbrev pub base_of_section : ℕ → ℕ
base_of_section number = if number % 2 == 0 then 4 else 12

-- the boxes of the section with a number stand at heights that rise with addresses, by the rule. Both ends of each range that is told
-- of its lines are cuts, too
pub record AreBoxesStanding (told_of : List (List ℕ) → List AddressRange) (number : ℕ) (spots : List BoxSpot) : Type 0 where
  pub height_of : ℕ → ℕ
  pub rise : Rise (lines_drawn spots) height_of
  pub stand : All (BoxStandsAt height_of) spots
  pub top : ℕ
  pub bottom : ℕ
  pub by_rule :
      HasHeights (base_of_section number) top bottom (IsCutOf (lines_drawn spots) (told_of (lines_drawn spots))) (IsInSomeRegion (lines_drawn spots)) height_of

-- the boxes of a section do so from a height on: its first cut stands 22 units below this height, and it ends 30 units below its last
pub record StandsFrom (told_of : List (List ℕ) → List AddressRange) (y number : ℕ) (spots : List BoxSpot) (end : ℕ) : Type 0 where
  pub boxes : AreBoxesStanding told_of number spots
  pub begins : boxes.top ≡ y + 22
  pub ends : end ≡ boxes.bottom + 30

-- sections stand below each other: the first one from a height on, and each next one from the end of the one before it
pub data StandBelow (told_of : List (List ℕ) → List AddressRange) : ℕ → List Section → ℕ → Type 0 where
  no_section : (y : ℕ) → StandBelow told_of y [] y
  next_section : (y between end : ℕ) (section : Section) (sections : List Section) → StandsFrom told_of y section.number section.spots between
      → StandBelow told_of between sections end → StandBelow told_of y (section ∷ sections) end

-- they do so where the last one ends at a height that was not cut off at 64 bits
abbrev pub EachStands : (List (List ℕ) → List AddressRange) → ℕ → ℕ → List Section → Type 0
EachStands told_of y end sections = end < 2 ^ 64 - 1 → StandBelow told_of y sections end

-- of two boxes of a section, the one whose last address is below the first address of the other ends above it
abbrev pub BoxesAreApart : Type 0
BoxesAreApart = (told_of : List (List ℕ) → List AddressRange) (number : ℕ) (spots : List BoxSpot) (one other : BoxSpot)
    → AreBoxesStanding told_of number spots → Contains spots one → Contains spots other
    → region_last_address one.line < first_address other.line → one.y + one.height < other.y
