-- Which boxes a picture has, by their titles and where they stand.
use Rattle.std.specs.Prelude.{◌≡◌, ℕ, Bool, List, [], ◌∷◌, ◌++◌, ◌-◌, ◌^◌, ◌<◌, codes, max, if◌then◌else◌, map, length}
use Rattle.std.specs.List.{All, flat_map, list_any}
use Rattle.std.specs.List.Sorted.{IsPermutation}
use Rattle.pci_picture.specs.Badges.{badges_told}
use Rattle.pci_picture.specs.Columns.{HasColumnsOf}
use Rattle.pci_picture.specs.Elements.{box_text, words_text, axis_text, tick_text, gap_text}
use Rattle.pci_picture.specs.FaultLines.{fault_list_text, tree_top}
use Rattle.pci_picture.specs.Headings.{AreSectionsOf, headed_regions, is_below_no_heading, lines_below_headings}
use Rattle.pci_picture.specs.Legends.{last_begins, legend_text, marks_of_legend, legend_boxes}
use Rattle.pci_picture.specs.Counts.{count_of_regions, counts_text}
use Rattle.pci_picture.specs.Lines.{is_feed, is_told_line, line_if_region, region_lines}
use Rattle.pci_picture.specs.Looks.{IsTitled, look_told}
use Rattle.pci_picture.specs.Nested.{HasNestedBoxes}
use Rattle.pci_picture.specs.OffRows.{AreRowsOfOff, top_of_off}
use Rattle.pci_picture.specs.Roots.{AreLostByRoot, Listed}
use Rattle.pci_picture.specs.Said.{faults_said}
use Rattle.pci_picture.specs.Spots.{Section, BoxSpot, spot_at, lines_drawn, all_of, words_of_sections, StandBelow}
use Rattle.pci_picture.specs.Trees.{IsTreeText, down}
use Rattle.pci_picture.specs.Whole.{picture_text}
use Rattle.pci_picture.specs.declared.badge.Badge.{Badge}
use Rattle.pci_picture.specs.declared.plan.Site.{Site}

-- a box by its title, its class, its left end and its top, its width and its height
pub record Titled : Type 0 where
  pub title : List ℕ
  pub class : List ℕ
  pub x : ℕ
  pub y : ℕ
  pub width : ℕ
  pub height : ℕ

abbrev pub titled : ℕ → ℕ → ℕ → ℕ → List ℕ → List ℕ → Titled
titled x y width height class title = record { title = title; class = class; x = x; y = y; width = width; height = height }

-- a text is these boxes, in their order, with words, ticks and gaps between them, which have no title
pub data HasTitles : List Titled → List ℕ → Type 0 where
  no_element : HasTitles [] []
  a_box : (x y width height : ℕ) (class anchor title rest : List ℕ) (boxes : List Titled) → HasTitles boxes rest
      → HasTitles (titled x y width height class title ∷ boxes) (box_text x y width height class anchor title ++ rest)
  a_line : (x y : ℕ) (class line rest : List ℕ) (boxes : List Titled) → HasTitles boxes rest
      → HasTitles boxes (words_text x y class line ++ rest)
  at_axis : (x y : ℕ) (faint line rest : List ℕ) (boxes : List Titled) → HasTitles boxes rest
      → HasTitles boxes (axis_text x y faint line ++ rest)
  a_tick : (x y : ℕ) (rest : List ℕ) (boxes : List Titled) → HasTitles boxes rest
      → HasTitles boxes (tick_text x y ++ rest)
  a_gap : (x y to : ℕ) (rest : List ℕ) (boxes : List Titled) → HasTitles boxes rest
      → HasTitles boxes (gap_text x y to ++ rest)

-- the bytes before the first line feed
abbrev pub first_title_line : List ℕ → List ℕ
first_title_line [] = []
first_title_line (b ∷ title) = if is_feed b then [] else b ∷ first_title_line title

-- the first line of a title, where it is a region of a map
abbrev pub titled_line : List ℕ → List (List ℕ)
titled_line title = line_if_region (first_title_line title)

-- the same, with the box: its title, its class and where it stands
abbrev pub titled_spot : Titled → List BoxSpot
titled_spot box = map (spot_at box.x box.y box.width box.height box.class box.title) (titled_line box.title)

-- a text has these regions of a map as first lines of its titles, in their order and with their places, and no others
pub record HasSpots (spots : List BoxSpot) (text : List ℕ) : Type 0 where
  pub boxes : List Titled
  pub has : HasTitles boxes text
  pub first : flat_map titled_spot boxes ≡ spots

-- boxes that have these regions, and words that have no box
pub record AreDrawn (spots : List BoxSpot) (boxes words : List ℕ) : Type 0 where
  pub in_boxes : HasSpots spots boxes
  pub in_words : HasTitles [] words

-- a picture with these regions, with these bytes at the head of its boxes, with these words behind its boxes, and of this width and
-- height, that has told ranges or none
pub record IsDrawnOf (is_told : Bool) (spots : List BoxSpot) (head words : List ℕ) (width height : ℕ) (text : List ℕ) : Type 0 where
  pub behind : List ℕ
  pub drawn : HasSpots spots (head ++ behind ++ words)
  pub says : text ≡ picture_text is_told (head ++ behind) words width height

-- a map has a line of a told range, or of one that somebody holds
abbrev pub tells_ranges : List ℕ → Bool
tells_ranges map = list_any is_told_line (region_lines map)

-- the boxes above the list of faults: the title and the counts, and below them the legend
abbrev pub boxes_above : List Listed → List ℕ → List ℕ → List ℕ
boxes_above functions map faults =
    counts_text (length functions) (count_of_regions (headed_regions map)) (length (faults_said faults))
    ++ legend_boxes 66 16 (marks_of_legend (tells_ranges map))

-- the words above the sections: those of the legend, below them the lines of the faults, and below these the tree
abbrev pub words_above : Bool → List ℕ → List ℕ → List ℕ
words_above is_told faults tree = legend_text 66 16 (marks_of_legend is_told) ++ (fault_list_text (faults_said faults) ++ tree)

-- the tree of some functions, with the faults of a text, and where it ends
pub record IsTreeBelowFaults (functions : List Listed) (faults tree : List ℕ) (end : ℕ) : Type 0 where
  pub badges : List Badge
  pub shown : IsPermutation (badges_told faults) badges
  pub below : IsTreeText functions badges (tree_top (faults_said faults)) tree end

-- the words of a picture with the tree of its functions: those above the sections, those of the sections, and those of what is off
abbrev pub words_drawn : List Listed → List ℕ → List ℕ → List ℕ → List Section → List BoxSpot → List ℕ
words_drawn functions map faults tree sections off =
    words_above (tells_ranges map) faults tree ++ (words_of_sections sections ++ flat_map ((look_told functions faults).off_words) off)

-- a picture of a map: each line that is a region is the first line of the title of exactly one box, as often as it stands
-- in the map, and no other title begins with such a line. A section has what stands below the headings with its number, and
-- some of what is out of place. What stands below no such heading is off, in its order. In each section the boxes stand at
-- heights that rise with addresses, where the height of the picture was not cut off at 64 bits, and inside each other as deep as
-- the lines of the map. Both ends of each range that the faults tell of these lines are cuts of its heights, too.
-- A box has the class of its part, with marks for the faults that name it; what is off is grey. Each title
-- is the line, below it the name of the function by those that are listed and the buses behind a window, and below that the lines of
-- these faults. Each region out of place is in the section of the root from which its bus is reached, by the same functions, and of
-- its space. Above the sections stand the faults, and beside them the tree of these functions.
-- The sections stand below each other, from where the tree begins, and below them stands the list of what is off. The picture is
-- 16 units higher than that list and the tree. It is 16 units wider than the sections, and has 140 units for the last mark of the legend.
-- The boxes begin with the title, with how many functions, regions and faults there are, and with the legend
pub record IsPictureOf (functions : List Listed) (map faults text : List ℕ) : Type 0 where
  pub sections : List Section
  pub off : List BoxSpot
  pub each_once : IsPermutation (region_lines map) (lines_drawn (all_of sections ++ off))
  pub below_headings : AreSectionsOf (headed_regions map) sections
  pub below_none : lines_drawn off ≡ lines_below_headings is_below_no_heading (headed_regions map)
  pub grey : All (λ spot. spot.class ≡ codes "off") off
  pub off_titled : All (IsTitled (look_told functions faults)) off
  pub row : Site
  pub columns : HasColumnsOf (headed_regions map) row
  pub width : ℕ
  pub height : ℕ
  pub tree : List ℕ
  pub tree_end : ℕ
  pub rows : IsTreeBelowFaults functions faults tree tree_end
  pub drawn : IsDrawnOf (tells_ranges map) (all_of sections ++ off) (boxes_above functions map faults)
      (words_drawn functions map faults tree sections off) width height text
  pub end : ℕ
  pub stand : height < 2 ^ 64 - 1 → StandBelow (look_told functions faults).told (tree_top (faults_said faults)) sections end
  pub bottom : ℕ
  pub off_rows : AreRowsOfOff 568 row.width (top_of_off end off) off bottom
  pub wide : width ≡ max (down 584 row.width) (down (last_begins 16 16 (marks_of_legend (tells_ranges map))) 140)
  pub ends : height ≡ down (max bottom tree_end) 16
  pub nested : All (HasNestedBoxes (look_told functions faults) (headed_regions map)) sections
  pub by_root : All (AreLostByRoot functions) sections

-- sections that have what stands below their headings and what is out of place, and a list of what is off, have each region of
-- the map exactly once, as often as it stands there
abbrev pub EachRegionOnce : Type 0
EachRegionOnce = (map : List ℕ) (sections : List Section) (off : List BoxSpot) → AreSectionsOf (headed_regions map) sections
    → lines_drawn off ≡ lines_below_headings is_below_no_heading (headed_regions map)
    → IsPermutation (region_lines map) (lines_drawn (all_of sections ++ off))
