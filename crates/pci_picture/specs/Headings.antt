-- Under which heading the regions of a map stand, and in which section they are drawn.
use Rattle.std.specs.Prelude.{◌≡◌, ◌⊎◌, ◌<◌, ℕ, Bool, true, false, not, ◌==◌, ◌||◌, ◌+◌, ◌-◌, ◌*◌, ◌/◌, max, min, List, [], ◌∷◌, ◌++◌, map, nat_lt, codes, if◌then◌else◌}
use Rattle.std.specs.List.{All, AllPairs, Any, filter, flat_map, slice_split}
use Rattle.std.specs.List.Sorted.{IsPermutation}
use Rattle.pci_picture.specs.Lines.{leading_blanks, unindented_line, is_feed, is_region_line, is_register, nth_word, says, indented_if_region, hex_value, words_in_line}
use Rattle.pci_picture.specs.Spots.{Section, first_address, lines_drawn}
use Rattle.pci_picture.specs.declared.map.Heading.{Heading}
use Rattle.pci_picture.specs.declared.map.Heading.TheVariants.{Section as InSection, Lost, Off}

-- ---- the headings of a map

-- the number of the section of a root bus and a space: that of I/O stands before that of memory
abbrev pub number_of_section : ℕ → Bool → ℕ
number_of_section bus is_io = if is_io then 2 * bus else 2 * bus + 1

-- which heading a line is: `bus BB io`, any other `bus BB ..`, `outside` or `unreached`, or none of these
unfoldable pub heading_told : List ℕ → Heading
heading_told line =
    if says (nth_word (words_in_line line) 0) (codes "bus")
    then (if is_register (nth_word (words_in_line line) 1)
    then InSection (number_of_section (hex_value (nth_word (words_in_line line) 1)) (says (nth_word (words_in_line line) 2) (codes "io")))
    else Off)
    else (if says (nth_word (words_in_line line) 0) (codes "outside") || says (nth_word (words_in_line line) 0) (codes "unreached") then Lost else Off)

-- what the lines above a line say of it: its heading, whether it stands below a line `unclaimed S`, how deep the line right
-- before it stands, 0 where that is no region, and the first address of the last line of depth 1
pub record ReadSoFar : Type 0 where
  pub heading : Heading
  pub is_taken : Bool
  pub level : ℕ
  pub top : ℕ

abbrev pub reading_at : Heading → Bool → ℕ → ℕ → ReadSoFar
reading_at heading is_taken level top = record { heading = heading; is_taken = is_taken; level = level; top = top }

-- the first line of a text stands below no heading
abbrev pub at_begin : ReadSoFar
at_begin = reading_at Off false 0 0

abbrev pub is_in_section : Heading → Bool
is_in_section (InSection n) = true
is_in_section Lost = false
is_in_section Off = false

-- how deep a line stands that begins with two blanks for each of some steps. A line of a section is at most one step deeper than
-- the line before it; below `unclaimed S` it is one step less deep than its blanks say. All other lines have depth 1
unfoldable pub depth_behind : ReadSoFar → ℕ → ℕ
depth_behind reading steps =
    if is_in_section reading.heading
    then min (if reading.is_taken then max (steps - 1) 1 else steps) (reading.level + 1)
    else 1

-- how deep a region stands, with the blanks before it
abbrev pub depth_of_line : ReadSoFar → List ℕ → ℕ
depth_of_line reading line = depth_behind reading (leading_blanks line / 2)

-- the first address of the line of depth 1 that a region is or stands inside, where it stands so deep
abbrev pub top_behind : ReadSoFar → ℕ → List ℕ → ℕ
top_behind reading depth line = if depth == 1 then first_address line else reading.top

-- what is said of the line below a line: the line is a heading where it has fewer than two blanks before it, else a region or
-- something else
unfoldable pub read_on : ReadSoFar → List ℕ → ReadSoFar
read_on reading line =
    if nat_lt (leading_blanks line) 2
    then reading_at (heading_told line) false 0 reading.top
    else (if is_region_line (unindented_line line)
    then reading_at reading.heading reading.is_taken (depth_of_line reading line) (top_behind reading (depth_of_line reading line) (unindented_line line))
    else reading_at reading.heading (says (nth_word (words_in_line line) 0) (codes "unclaimed")) 0 reading.top)

-- ---- the regions of a map, each with its heading and its depth

-- a region, the heading above it, how deep it stands, and the first address of the line of depth 1 that it is or stands inside
pub record Headed : Type 0 where
  pub heading : Heading
  pub depth : ℕ
  pub top : ℕ
  pub line : List ℕ

abbrev pub headed : Heading → ℕ → ℕ → List ℕ → Headed
headed heading depth top line = record { heading = heading; depth = depth; top = top; line = line }

-- a region at a depth
abbrev pub headed_at : ReadSoFar → ℕ → List ℕ → Headed
headed_at reading depth line = headed reading.heading depth (top_behind reading depth line) line

-- the region that a line is, if it is one
abbrev pub headed_behind : ReadSoFar → List ℕ → List Headed
headed_behind reading line = map (headed_at reading (depth_of_line reading line)) (indented_if_region line)

-- the regions of some lines
abbrev pub headed_lines : ReadSoFar → List (List ℕ) → List Headed
headed_lines reading [] = []
headed_lines reading (line ∷ lines) = headed_behind reading line ++ headed_lines (read_on reading line) lines

-- the regions of a map's text
abbrev pub headed_regions : List ℕ → List Headed
headed_regions map = headed_lines at_begin (slice_split is_feed map)

-- the lines of those that stand below the headings that are meant
abbrev pub lines_below_headings : (Heading → Bool) → List Headed → List (List ℕ)
lines_below_headings is_meant regions = map (λ region. region.line) (filter (λ region. is_meant region.heading) regions)

-- the headings of a section
abbrev pub is_section : ℕ → Heading → Bool
is_section number (InSection n) = n == number
is_section number Lost = false
is_section number Off = false

-- out of place: below `outside` or `unreached`
abbrev pub is_lost : Heading → Bool
is_lost (InSection n) = false
is_lost Lost = true
is_lost Off = false

-- below none of these headings
abbrev pub is_below_no_heading : Heading → Bool
is_below_no_heading (InSection n) = false
is_below_no_heading Lost = false
is_below_no_heading Off = true

abbrev pub is_below_heading : Headed → Bool
is_below_heading region = not (is_below_no_heading region.heading)

-- ---- the sections of a picture

-- what is drawn in a section is what stands below the headings with its number, and some of what is out of place
abbrev pub IsSectionOf : List Headed → Section → Type 0
IsSectionOf regions section =
    IsPermutation (lines_below_headings (is_section section.number) regions ++ section.lost) (lines_drawn section.spots)

-- numbers rise, so no two sections have the same; below the headings of a number without a section stands nothing;
-- each region that is out of place is drawn in one section
pub record AreSectionsOf (regions : List Headed) (sections : List Section) : Type 0 where
  pub rise : AllPairs (λ one other. one.number < other.number) sections
  pub each : All (IsSectionOf regions) sections
  pub all : (number : ℕ) → Any (λ section. section.number ≡ number) sections ⊎ (lines_below_headings (is_section number) regions ≡ [])
  pub lost : IsPermutation (lines_below_headings is_lost regions) (flat_map (λ section. section.lost) sections)
