-- What is taken where an item is placed: what stays on its bus, what lines hold there, and what they hold behind a new window.
use Rattle.std.specs.Prelude.{◌≡◌, ℕ, ◌<◌, ◌⊎◌, List, [], map, length, slice_index_or}
use Rattle.std.specs.List.{All, Contains}
use Rattle.pci_spec.specs.Decoded.{HasRecords, Range as DecodedRange}
use Rattle.pci_spec.specs.System.{System, Space}
use Rattle.settle_spec.specs.Lists.{Request}
use Rattle.settle_spec.specs.Lines.{lines_behind}
use Rattle.settle_spec.specs.Kept.{Kept}
use Rattle.settle_spec.specs.Keeping.Places.{taken_at}
use Rattle.settle_laws.specs.Order.{level}
use Rattle.pci_base.specs.declared.range.Range.{Range}
use Rattle.pci_base.specs.Ranges.{decoded_range_of}
use Rattle.pci_function.specs.declared.record.Record.{Record}
use Rattle.pci_function.specs.Values.{record_value}
use Rattle.pci_first_fit.specs.declared.lines.Line.{Line}
use Rattle.pci_first_fit.specs.Lines.{AreLines}
use Rattle.pci_first_fit.specs.declared.placing.Wanted.{Wanted}
use Rattle.pci_kept.specs.Held.{AreHeld}
use Rattle.pci_settle_places.specs.declared.candidate.Candidate.{Candidate}
use Rattle.pci_settle_places.specs.declared.staying.Staying.{Staying}
use Rattle.pci_settle_places.specs.Candidates.{candidate_value, HasPart}
use Rattle.pci_settle_places.specs.Stretches.{IsFar}

-- the same ranges are listed, in some order
pub record AreRangesListed (ranges : List DecodedRange) (listed : List Range) : Type 0 where
  pub to : (t : DecodedRange) → Contains (map decoded_range_of listed) t → Contains ranges t
  pub back : (t : DecodedRange) → Contains ranges t → Contains (map decoded_range_of listed) t

-- what is taken on a bus of this level, whatever is asked for
abbrev pub AreTakenAt : Staying → ℕ → Space → List Range → Type 0
AreTakenAt st n space taken =
    (q : Request) (s : System) (keep : Kept) (bus : ℕ) → AreHeld q s keep st.held.now
    → AreLines q.roots q.told.ranges st.lines.now → n ≡ level q bus → AreRangesListed (taken_at q s keep space bus) taken

-- Of some ranges these are listed: all that share an address with one of the ranges in which a place is looked for, and perhaps
-- others of them.
pub record AreNearListed (ranges : List Range) (more : List DecodedRange) (listed : List Range) : Type 0 where
  pub of : (t : DecodedRange) → Contains (map decoded_range_of listed) t → Contains more t
  pub near : (t : DecodedRange) → Contains more t → Contains (map decoded_range_of listed) t ⊎ IsFar ranges t

-- what lines hold behind an item
abbrev pub AreBehindOne : List Record → List Line → List Range → Candidate → List Range → Type 0
AreBehindOne records lines ranges c found =
    (q : Request) (s : System) → HasRecords s (map record_value records) → AreLines q.roots q.told.ranges lines
    → HasPart s c → AreNearListed ranges (lines_behind q (candidate_value s c).region) found

-- the first of some items have theirs in a table, each near to the list in which it is wanted
abbrev pub AreNearBehindTo : Request → System → List (List Range) → List Wanted → List Candidate → ℕ → List (List Range) → Type 0
AreNearBehindTo q s lists wanted candidates n behind =
    (k : ℕ) (d : Candidate) (w : Wanted) → k < n
    → AreNearListed (slice_index_or lists (slice_index_or wanted k w).list [])
    (lines_behind q (candidate_value s (slice_index_or candidates k d)).region) (slice_index_or behind k [])

-- and so has each of them
abbrev pub AreNearBehindEach : List Record → List Line → List (List Range) → List Wanted → List Candidate → List (List Range) → Type 0
AreNearBehindEach records lines lists wanted candidates behind =
    (q : Request) (s : System) → HasRecords s (map record_value records) → AreLines q.roots q.told.ranges lines
    → All (HasPart s) candidates → AreNearBehindTo q s lists wanted candidates (length candidates) behind
