-- What is drawn of a section, and of all.
use Rattle.std.specs.Prelude.{◌≡◌, ◌<◌, ◌≤◌, ◌+◌, ◌-◌, ◌^◌, ℕ, List, ◌++◌, codes, map, take, length, slice_index_or}
use Rattle.std.specs.List.{All, AllPairs, flat_map}
use Rattle.std.specs.List.Sorted.{IsPermutation, IsNonDecreasingBy}
use Rattle.pci_picture.specs.Columns.{HasColumnsOf}
use Rattle.pci_picture.specs.Headings.{AreSectionsOf, is_lost, lines_below_headings}
use Rattle.pci_picture.specs.Heights.{AddressRange, HasHeights}
use Rattle.pci_picture.specs.Looks.{IsTitled, Look, looks_placed, looks_up_to, words_of_boxes}
use Rattle.pci_picture.specs.Maps.{headed_line, headed_member, lines_of_regions, regions_of_members, regions_placed, regions_under}
use Rattle.pci_picture.specs.Members.{member_number}
use Rattle.pci_picture.specs.Nested.{HasNestedBoxes}
use Rattle.pci_picture.specs.OffRows.{AreRowsOfOff}
use Rattle.pci_picture.specs.Roots.{AreLostByRoot, Listed}
use Rattle.pci_picture.specs.Sides.{HasSides, StandBesideIn, count_in_place, sides_drawn, sides_of_width, widths_placed}
use Rattle.pci_picture.specs.Spots.{Section, BoxSpot, first_address, region_last_address, classes_drawn, lines_drawn, all_of, words_of_sections, Rise, StandsFrom, EachStands, IsInSomeRegion, IsCutOf, base_of_section}
use Rattle.pci_picture.specs.Stacked.{height_at}
use Rattle.pci_picture.specs.declared.heights.Run.{Run}
use Rattle.pci_picture.specs.declared.lanes.Width.{Width}
use Rattle.pci_picture.specs.declared.map.Line.{Line}
use Rattle.pci_picture.specs.declared.plan.Member.{Member}
use Rattle.pci_picture.specs.declared.plan.Placed.{Placed}
use Rattle.pci_picture.specs.declared.plan.Site.{Site}
use Rattle.pci_picture.specs.declared.region.Region.{Region}

-- where a box stands, of the heights of its first address and of the one past its last
pub record IsFramed (height_of : ℕ → ℕ) (first last y height : ℕ) : Type 0 where
  pub begins : y ≡ height_of first
  pub ends : height ≡ height_of (last + 1) - y - 1

-- a box stands so, and its region ends behind its beginning
pub record IsFramedAt (height_of : ℕ → ℕ) (spot : BoxSpot) : Type 0 where
  pub rises : first_address spot.line ≤ region_last_address spot.line
  pub framed : IsFramed height_of (first_address spot.line) (region_last_address spot.line) spot.y spot.height

-- heights by which the regions of a section can be drawn: the runs stand in their order from a height on, and the ends of the
-- regions rise, by the rule, where both ends of some ranges are cuts, too
pub record ArePlanned (number top : ℕ) (told : List AddressRange) (lines : List (List ℕ)) (runs : List Run) (bottom : ℕ) : Type 0 where
  pub sorted : IsNonDecreasingBy (λ (run : Run). run.begin) runs
  pub rise : Rise lines (height_at runs bottom)
  pub by_rule : HasHeights (base_of_section number) top bottom (IsCutOf lines told) (IsInSomeRegion lines) (height_at runs bottom)

-- the boxes of regions with these widths, whose heights are those of their addresses, where the runs stand in their order, and the
-- text of their words
pub record AreFramed (look : Look) (placed : List Placed) (runs : List Run) (bottom : ℕ) (spots : List BoxSpot) (bytes : List ℕ) : Type 0 where
  pub drawn : lines_drawn spots ≡ lines_of_regions (regions_placed placed)
  pub looks : classes_drawn spots ≡ looks_placed look placed
  pub titled : All (IsTitled look) spots
  pub sides : sides_drawn spots ≡ map sides_of_width (widths_placed placed)
  pub framed : IsNonDecreasingBy (λ (run : Run). run.begin) runs
      → All (IsFramedAt (height_at runs bottom)) spots
  pub written : bytes ≡ words_of_boxes look (widths_placed placed) spots

-- the boxes of a section have the sides of some widths, which stand beside each other where the lines are indented by one step. The
-- words of the section are those of its boxes, one behind the other, and behind them what is written where regions would fit
pub record AreDrawnBeside (look : Look) (site : Site) (members : List Member) (spots : List BoxSpot) (bytes : List ℕ) : Type 0 where
  pub widths : List Width
  pub sides : sides_drawn spots ≡ map sides_of_width widths
  pub beside : StandBesideIn site (count_in_place members) (regions_of_members members) widths
  pub fits : List ℕ
  pub written : bytes ≡ words_of_boxes look widths spots ++ fits

-- the boxes of the members of a section that ends at a height, and the text of its words
pub record AreOfSection (look : Look) (site : Site) (members : List Member) (end : ℕ) (spots : List BoxSpot) (bytes : List ℕ) : Type 0 where
  pub drawn : lines_drawn spots ≡ lines_of_regions (regions_of_members members)
  pub looks : classes_drawn spots ≡ looks_up_to look (count_in_place members) (regions_of_members members)
  pub titled : All (IsTitled look) spots
  pub stand : end < 2 ^ 64 - 1 → StandsFrom look.told site.y site.section spots end
  pub beside : AreDrawnBeside look site members spots bytes

-- the boxes of what is off, from a height on up to another, and the text of the words in each, one behind the other
pub record AreOffBoxes (look : Look) (x width top : ℕ) (regions : List Region) (end : ℕ) (spots : List BoxSpot) (bytes : List ℕ) : Type 0 where
  pub rows : AreRowsOfOff x width top spots end
  pub drawn : lines_drawn spots ≡ lines_of_regions regions
  pub grey : All (λ spot. spot.class ≡ codes "off") spots
  pub titled : All (IsTitled look) spots
  pub written : bytes ≡ flat_map look.off_words spots

-- ---- members by sections

-- members from an index up to another have one section, and the member behind them has another one
pub record IsRunOfSection (members : List Member) (begin end : ℕ) : Type 0 where
  pub alike : (i : ℕ) (d : Member) → begin ≤ i → i < end
      → (slice_index_or members i d).section ≡ (slice_index_or members begin d).section
  pub next : (d : Member) → end < length members
      → ¬ ((slice_index_or members end d).section ≡ (slice_index_or members begin d).section)

-- a section, the members that are drawn in it, and where it stands
pub record Group : Type 0 where
  pub section : Section
  pub members : List Member
  pub site : Site

pub record IsGroup (look : Look) (group : Group) : Type 0 where
  pub drawn : lines_drawn group.section.spots ≡ lines_of_regions (regions_of_members group.members)
  pub looks : classes_drawn group.section.spots ≡ looks_up_to look (count_in_place group.members) (regions_of_members group.members)
  pub titled : All (IsTitled look) group.section.spots
  pub lost : group.section.lost ≡ lines_below_headings is_lost (map headed_member group.members)
  pub alike : All (λ member. member.section ≡ group.section.number) group.members
  pub lost_last : IsNonDecreasingBy member_number group.members
  pub beside : AreDrawnBeside look group.site group.members group.section.spots group.section.words

-- two sections have boxes from the same left end to the same right end, and columns of one width
pub record HasRoomOf (first site : Site) : Type 0 where
  pub x_is : site.x ≡ first.x
  pub width_is : site.width ≡ first.width
  pub column_is : site.column ≡ first.column

abbrev pub sections_of : List Group → List Section
sections_of groups = map (λ group. group.section) groups

abbrev pub members_of_groups : List Group → List Member
members_of_groups groups = flat_map (λ group. group.members) groups

-- the boxes of the first members in sections with one room, of which the last one ends at a height, and the text of their words
pub record AreGrouped (look : Look) (first : Site) (members : List Member) (count end : ℕ) (spots : List BoxSpot) (bytes : List ℕ) : Type 0 where
  pub groups : List Group
  pub joined : all_of (sections_of groups) ≡ spots
  pub written : words_of_sections (sections_of groups) ≡ bytes
  pub taken : members_of_groups groups ≡ take count members
  pub each : All (IsGroup look) groups
  pub rise : AllPairs (λ one other. one.number < other.number) (sections_of groups)
  pub below : (d : Member) → count < length members
      → All (λ section. section.number < (slice_index_or members count d).section) (sections_of groups)
  pub stand : EachStands look.told first.y end (sections_of groups)
  pub rooms : All (λ group. HasRoomOf first group.site) groups

-- the boxes of lines in sections, of which the last one ends at a height: each region once. What is out of place is in the
-- section of the root, by the functions that are listed. The lines stand as deep as they were read. The words are those of the sections
pub record AreOfSections (look : Look) (first : Site) (functions : List Listed) (lines : List Line) (end : ℕ) (spots : List BoxSpot)
    (bytes : List ℕ) : Type 0 where
  pub sections : List Section
  pub joined : all_of sections ≡ spots
  pub written : words_of_sections sections ≡ bytes
  pub each_once : IsPermutation (lines_of_regions (regions_under lines)) (lines_drawn spots)
  pub below_headings : AreSectionsOf (map headed_line lines) sections
  pub by_root : All (AreLostByRoot functions) sections
  pub stand : EachStands look.told first.y end sections
  pub nested : HasSides first → HasColumnsOf (map headed_line lines) first → All (HasNestedBoxes look (map headed_line lines)) sections
