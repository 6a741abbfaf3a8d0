-- Rows beside one another, and what rows hold behind a bridge near to some ranges.
use Rattle.std.specs.Prelude.{◌≡◌, ◌<◌, ◌≤◌, nat_le, Bool, ◌&&◌, ◌⊎◌, IsTrue, List}
use Rattle.std.specs.List.{Contains}
use Rattle.pci_spec.specs.Decoded.{Range as DecodedRange}
use Rattle.settle_spec.specs.FirstPlace.{ranges_are_apart}
use Rattle.settle_spec.specs.Parts.{are_same_space}
use Rattle.pci_base.specs.declared.range.Range.{Range}
use Rattle.pci_base.specs.Ranges.{decoded_range_of}
use Rattle.pci_base.specs.Space.{space_of}
use Rattle.pci_first_fit.specs.declared.lines.Line.{Line}
use Rattle.pci_settle_places.specs.declared.stretch.Stretch.{Stretch}
use Rattle.pci_settle_places.specs.declared.stretch.Sought.{Sought}

-- ---- stretches

-- the bus and the addresses of a row are among those of a stretch
pub record IsCoveredBy (s : Stretch) (l : Line) : Type 0 where
  pub low : s.lowest_bus ≤ l.bus
  pub high : l.bus ≤ s.highest_bus
  pub first : s.range.first ≤ l.range.first
  pub last : l.range.last ≤ s.range.last

-- it covers its rows, which are some of these
pub record IsStretch (lines : List Line) (s : Stretch) : Type 0 where
  pub listed : (l : Line) → Contains s.rows.now l → Contains lines l
  pub covered : (l : Line) → Contains s.rows.now l → IsCoveredBy s l

-- each row is in one
pub record AreStretches (lines : List Line) (stretches : List Stretch) : Type 0 where
  pub each : (s : Stretch) → Contains stretches s → IsStretch lines s
  pub all : (l : Line) → Contains lines l
      → (s : Stretch) × Contains stretches s × Contains s.rows.now l

-- ---- what is sought

-- whether a row is behind the bridge, in the space
abbrev pub is_row_behind : Sought → Line → Bool
is_row_behind w l =
    nat_le w.bridge.now.secondary l.bus
    && (nat_le l.bus w.bridge.now.subordinate && are_same_space (space_of w.space) (space_of l.space))

-- a row is on another bus than those behind the bridge
abbrev pub IsElsewhere : Sought → Line → Type 0
IsElsewhere w l = (l.bus < w.bridge.now.secondary) ⊎ (w.bridge.now.subordinate < l.bus)

-- a range shares no address with any of others
abbrev pub IsFar : List Range → DecodedRange → Type 0
IsFar ranges t = (r : Range) → Contains ranges r → IsTrue (ranges_are_apart t (decoded_range_of r))

-- what rows hold behind the bridge, of which what is far may be left out
pub record AreSought (w : Sought) (lines : List Line) (found : List Range) : Type 0 where
  pub of : (t : Range) → Contains found t
      → (l : Line) × Contains lines l × IsTrue (is_row_behind w l) × (l.range ≡ t)
  pub near : (l : Line) → Contains lines l → IsTrue (is_row_behind w l)
      → Contains found l.range ⊎ IsFar w.ranges.now (decoded_range_of l.range)
