-- How deep the lines of a map stand, in the order in which they are read.
use Rattle.std.specs.Prelude.{◌≡◌, ◌<◌, ◌≤◌, ◌+◌, ◌-◌, ℕ, Some, None, List, length, slice_index_or}
use Rattle.pci_picture.specs.Headings.{ReadSoFar, reading_at}
use Rattle.pci_picture.specs.declared.map.Heading.TheVariants.{Section, Lost}
use Rattle.pci_picture.specs.declared.map.Line.{Line}
use Rattle.pci_picture.specs.declared.map.Reader.{Reader}
use Rattle.pci_picture.specs.declared.region.Region.{Region}

-- a line stands right behind another one, at most one step deeper, inside the same line of depth 1
pub record FollowsLine (before line : Line) : Type 0 where
  pub section : before.section ≡ line.section
  pub top : before.top ≡ line.top
  pub step : line.region.depth ≤ before.region.depth + 1

-- a line at an index has depth 1, or follows the line before it; what is out of place has depth 1
pub record IsChained (lines : List Line) (k : ℕ) (line : Line) : Type 0 where
  pub deep : 0 < line.region.depth
  pub lost : line.section ≡ None → line.region.depth ≤ 1
  pub behind : 1 < line.region.depth → (p : ℕ) × (p + 1 ≡ k) × ((d : Line) → FollowsLine (slice_index_or lines p d) line)

abbrev pub AreChained : List Line → Type 0
AreChained lines = (k : ℕ) (d : Line) → k < length lines → IsChained lines k (slice_index_or lines k d)

-- ---- while they are read

abbrev pub reading_of : {A : Type 0} → Reader A → ReadSoFar
reading_of reader = reading_at reader.heading reader.is_taken reader.level reader.top

-- the last line is of a section, with this first address of its line of depth 1, and stands so deep
pub record IsLastLine (lines : List Line) (number top level : ℕ) : Type 0 where
  pub some : 0 < length lines
  pub section : (d : Line) → (slice_index_or lines (length lines - 1) d).section ≡ Some number
  pub top_is : (d : Line) → (slice_index_or lines (length lines - 1) d).top ≡ top
  pub level_is : (d : Line) → (slice_index_or lines (length lines - 1) d).region.depth ≡ level

-- the lines are chained, and the reader knows how deep the last one stands
pub record KnowsDepths {A : Type 0} (reader : Reader A) : Type 0 where
  pub chained : AreChained reader.map.lines.items
  pub last : 0 < reader.level → (number : ℕ) → reader.heading ≡ Section number → IsLastLine reader.map.lines.items number reader.top reader.level

-- a region that is put where a reader stands
pub record StandsWithin {A : Type 0} (reader : Reader A) (region : Region) : Type 0 where
  pub deep : 0 < region.depth
  pub level : reader.level ≡ region.depth
  pub lost : reader.heading ≡ Lost → region.depth ≤ 1
  pub behind : 1 < region.depth → (number : ℕ) → reader.heading ≡ Section number
      → (level : ℕ) × IsLastLine reader.map.lines.items number reader.top level × (region.depth ≤ level + 1)
