-- From where to where the boxes of a section reach, once their regions were placed.
use Rattle.std.specs.Prelude.{◌≡◌, ◌<◌, ◌≤◌, ◌+◌, ◌-◌, ◌^◌, ℕ, List, map, max, length, ◌++◌, take, drop}
use Rattle.std.specs.List.{All, Contains, position_or_len}
use Rattle.pci_picture.specs.Lanes.{AreNested, BeginInside, HaveColumns, HaveShares, IsIndented, SiblingsRise, StandSideBySide, StandsBetween}
use Rattle.pci_picture.specs.Spots.{BoxSpot}
use Rattle.pci_picture.specs.declared.lanes.Width.{Width}
use Rattle.pci_picture.specs.declared.plan.Member.{Member}
use Rattle.pci_picture.specs.declared.plan.Placed.{Placed}
use Rattle.pci_picture.specs.declared.plan.Site.{Site}
use Rattle.pci_picture.specs.declared.region.Region.{Region}

abbrev pub widths_placed : List Placed → List Width
widths_placed places = map (λ placed. placed.width) places

-- the left end and the width of a box: one unit at least, and two less than the room that it has
abbrev pub sides_of_width : Width → ℕ × ℕ
sides_of_width width = (width.left, max 1 (width.right - width.left - 2))

abbrev pub sides_drawn : List BoxSpot → List (ℕ × ℕ)
sides_drawn spots = map (λ spot. (spot.x, spot.width)) spots

-- the widths of some regions between two ends, where a window has `column` units for its own text
pub record AreWidthsIn (left right column : ℕ) (regions : List Region) (widths : List Width) : Type 0 where
  pub count : length widths ≡ length regions
  pub between : left ≤ right → All (StandsBetween left right) widths
  pub columns : HaveColumns regions column widths
  pub nested : AreNested regions widths
  pub begin : BeginInside regions left right widths
  pub apart : SiblingsRise regions → StandSideBySide regions widths
  pub shares : SiblingsRise regions → HaveShares regions left right widths

-- such widths were added
pub record AddsWidths (left right column : ℕ) (regions : List Region) (old new : List Width) : Type 0 where
  pub more : List Width
  pub added : new ≡ old ++ more
  pub are : AreWidthsIn left right column regions more

-- the boxes of a section have room for what is out of place, and end below 2^64
pub record HasSides (site : Site) : Type 0 where
  pub wide : 240 ≤ site.width
  pub uncut : site.x + 132 + site.width + 8 < 2 ^ 64

-- how many members stand before the first one out of place
abbrev pub count_in_place : List Member → ℕ
count_in_place members = position_or_len (λ member. member.is_lost) members

-- the ends between which a section's boxes stand. Those in place have the section's whole width, less 240 units where some regions
-- are out of place. These begin 8 units behind
pub record AreSides (site : Site) (lost : List Region) (left split beside edge : ℕ) : Type 0 where
  pub from : left ≡ site.x + 132
  pub upto : edge ≡ site.x + 132 + site.width
  pub all : length lost ≡ 0 → split ≡ edge
  pub less : 0 < length lost → split + 240 ≡ edge
  pub behind : beside ≡ split + 8

-- first the boxes of regions in place, then those of regions out of place, each between their ends. What is out of place stands
-- behind the ends of all that is in place
pub record StandBeside (site : Site) (inside lost : List Region) (widths : List Width) : Type 0 where
  pub inner : List Width
  pub outer : List Width
  pub joined : widths ≡ inner ++ outer
  pub left : ℕ
  pub split : ℕ
  pub beside : ℕ
  pub edge : ℕ
  pub sides : HasSides site → AreSides site lost left split beside edge
  pub in_place : AreWidthsIn left split site.column inside inner
  pub out_of_place : AreWidthsIn beside edge site.column lost outer
  pub behind : HasSides site → (one other : Width) → Contains inner one → Contains outer other → one.right < other.left

-- the lines of a section are indented by one step at most, those in place and those out of place
pub record AreIndented (count : ℕ) (regions : List Region) : Type 0 where
  pub inside : IsIndented (take count regions)
  pub lost : IsIndented (drop count regions)

-- a section's boxes stand so, where its lines are indented so
abbrev pub StandBesideIn : Site → ℕ → List Region → List Width → Type 0
StandBesideIn site count regions widths = AreIndented count regions → StandBeside site (take count regions) (drop count regions) widths
