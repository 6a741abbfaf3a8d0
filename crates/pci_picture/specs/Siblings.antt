-- Boxes of one parent do not cover each other.
use Rattle.std.specs.Prelude.{◌⊎◌, ◌<◌, ◌≤◌, ◌+◌, ℕ, List, [], length, slice_index_or}
use Rattle.pci_picture.specs.Headings.{headed_regions}
use Rattle.pci_picture.specs.Lanes.{IsParent, SameParent, first_address_at}
use Rattle.pci_picture.specs.Looks.{Look}
use Rattle.pci_picture.specs.Maps.{regions_of_members}
use Rattle.pci_picture.specs.Nested.{HasNestedBoxes}
use Rattle.pci_picture.specs.Spots.{AreBoxesStanding, BoxSpot, Section, spot_at}
use Rattle.pci_picture.specs.declared.region.Region.{Region}

-- the box at an index
abbrev pub box_at : List BoxSpot → ℕ → BoxSpot
box_at spots k = slice_index_or spots k (spot_at 0 0 0 0 [] [] [])

-- one box ends above another one, or where that begins: one unit behind this at most, as a box without room has a unit
abbrev pub EndsAboveOrBeside : BoxSpot → BoxSpot → Type 0
EndsAboveOrBeside one other = (one.y + one.height < other.y) ⊎ (one.x + one.width ≤ other.x + 1)

-- lines inside one line come in the order of their first addresses
abbrev pub InnerLinesRise : List Region → Type 0
InnerLinesRise regions = (p i j : ℕ) → i < j → j < length regions → IsParent regions p i → IsParent regions p j
    → first_address_at regions i ≤ first_address_at regions j

-- of two boxes in place that have one parent, one ends above the other or beside it, where lines inside one line rise. So it is of
-- two boxes of depth 1, too
abbrev pub SiblingsAreApart : Type 0
SiblingsAreApart = (look : Look) (text : List ℕ) (section : Section) (nested : HasNestedBoxes look (headed_regions text) section) (i j : ℕ)
    → AreBoxesStanding look.told section.number section.spots → InnerLinesRise (regions_of_members nested.inside) → i < j → j < length nested.inside
    → SameParent (regions_of_members nested.inside) i j
    → EndsAboveOrBeside (box_at section.spots i) (box_at section.spots j) ⊎ EndsAboveOrBeside (box_at section.spots j) (box_at section.spots i)
