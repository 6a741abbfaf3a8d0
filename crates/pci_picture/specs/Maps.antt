-- The regions of lines, and of maps and members.
use Rattle.std.specs.Prelude.{◌≡◌, ℕ, Option, Some, None, List, ◌++◌, map, if◌then◌else◌}
use Rattle.std.specs.List.{filter, flat_map}
use Rattle.std.specs.List.Sorted.{IsPermutation, IsNonDecreasingBy}
use Rattle.pci_picture.specs.Headings.{Headed, at_begin, headed, headed_lines, is_below_heading, is_below_no_heading, lines_below_headings}
use Rattle.pci_picture.specs.Lines.{indented_if_region}
use Rattle.pci_picture.specs.declared.region.Region.{Region}
use Rattle.pci_picture.specs.declared.map.Heading.{Heading}
use Rattle.pci_picture.specs.declared.map.Heading.TheVariants.{Section, Lost}
use Rattle.pci_picture.specs.declared.map.Line.{Line}
use Rattle.pci_picture.specs.declared.map.Map.{Map}
use Rattle.pci_picture.specs.declared.plan.Member.{Member}
use Rattle.pci_picture.specs.declared.plan.Placed.{Placed}

abbrev pub lines_of_regions : List Region → List (List ℕ)
lines_of_regions regions = map (λ region. region.line.now) regions

abbrev pub regions_under : List Line → List Region
regions_under lines = map (λ line. line.region) lines

abbrev pub regions_of_members : List Member → List Region
regions_of_members members = map (λ member. member.region) members

abbrev pub regions_placed : List Placed → List Region
regions_placed places = map (λ placed. placed.region) places

-- the lines of a map: those of its sections and what is lost, and those of what is off
abbrev pub lines_read : {A : Type 0} → Map A → List (List ℕ)
lines_read read = lines_of_regions (regions_under read.lines.items) ++ lines_of_regions read.off.items

-- ---- headings

abbrev pub heading_in : Option ℕ → Heading
heading_in (Some number) = Section number
heading_in None = Lost

abbrev pub headed_line : Line → Headed
headed_line line = headed (heading_in line.section) line.region.depth line.top line.region.line.now

abbrev pub headed_member : Member → Headed
headed_member member = headed (if member.is_lost then Lost else Section member.section) member.region.depth member.top member.region.line.now

-- the regions of a map that stand in sections or are out of place
abbrev pub kept_regions : {A : Type 0} → Map A → List Headed
kept_regions read = map headed_line read.lines.items

-- a map has the regions of some lines of text, each with its heading, its depth and its line of depth 1; those that are off stand
-- apart
pub record IsReadOf {A : Type 0} (lines : List (List ℕ)) (read : Map A) : Type 0 where
  pub each_once : IsPermutation (flat_map indented_if_region lines) (lines_read read)
  pub kept : map headed_line read.lines.items ≡ filter is_below_heading (headed_lines at_begin lines)
  pub off : lines_of_regions read.off.items ≡ lines_below_headings is_below_no_heading (headed_lines at_begin lines)

-- a map took up some regions
pub record TakesUp {A : Type 0} (told : List Headed) (old new : Map A) : Type 0 where
  pub each_once : IsPermutation (lines_read old ++ map (λ region. region.line) told) (lines_read new)
  pub kept : map headed_line new.lines.items ≡ map headed_line old.lines.items ++ filter is_below_heading told
  pub off : lines_of_regions new.off.items ≡ lines_of_regions old.off.items ++ lines_below_headings is_below_no_heading told

-- ---- members

-- the sort key of a member in its section
abbrev pub rank_of : Member → ℕ × ℕ
rank_of member = if member.is_lost then (member.region.first, member.region.key) else (member.top, 0)

-- the members of lines, by rising numbers of their sections
pub record AreMembersOf (lines : List Line) (members : List Member) : Type 0 where
  pub moved : IsPermutation (regions_under lines) (regions_of_members members)
  pub seated : IsPermutation (map headed_line lines) (map headed_member members)
  pub sorted : IsNonDecreasingBy (λ (member : Member). member.section) members
