-- What is there, row by row: of a bus and a space, all roots being one bus.
use Rattle.std.specs.Prelude.{◌≡◌, ℕ, ◌+◌, ◌*◌, if◌then◌else◌, List, [], slice_index_or}
use Rattle.std.specs.List.{All, Contains, sum_by}
use Rattle.pci_spec.specs.Decoded.{Range as DecodedRange}
use Rattle.pci_spec.specs.System.{Space, Io, Memory}
use Rattle.pci_spec.specs.Bus.{is_root}
use Rattle.pci_base.specs.declared.range.Range.{Range}
use Rattle.pci_base.specs.Ranges.{decoded_range_of}
use Rattle.pci_first_fit.specs.Spots.{FirstsRise}

-- the weight of all ranges of a row, whatever each of them weighs
abbrev pub total : (DecodedRange → ℕ) → List Range → ℕ
total weight row = sum_by (λ r. weight (decoded_range_of r)) row

-- a row has these ranges, each as often, in whatever order
abbrev pub HasRanges : List Range → List DecodedRange → Type 0
HasRanges row ranges = (weight : DecodedRange → ℕ) → total weight row ≡ sum_by weight ranges

-- all roots are the lowest bus
abbrev pub bus_level : List ℕ → ℕ → ℕ
bus_level roots bus = if is_root roots bus then 0 else bus + 1

-- the row of a bus and a space
abbrev pub row_number : ℕ → Space → ℕ
row_number bus_level Io = 2 * bus_level
row_number bus_level Memory = 2 * bus_level + 1

-- one for each bus and space, and for the roots
abbrev pub ROWS : ℕ
ROWS = 514

-- the ranges of a row
abbrev pub row_at : List (List Range) → ℕ → List Range
row_at rows number = slice_index_or rows number []

-- they stand by rising first addresses
abbrev pub AreRisingRoomRows : List (List Range) → Type 0
AreRisingRoomRows rows = All FirstsRise rows

-- one range of a row ends later
abbrev pub IsEndedIn : List Range → List Range → Range → ℕ → Type 0
IsEndedIn old new window last =
    Contains old window → (weight : DecodedRange → ℕ)
    → total weight new + weight (decoded_range_of window)
    ≡ total weight old + weight record { first = window.first; last = last }

-- one comes to the others
abbrev pub IsAddedTo : List Range → List Range → Range → Type 0
IsAddedTo old new range =
    (weight : DecodedRange → ℕ) → total weight new ≡ total weight old + weight (decoded_range_of range)

-- all other rows are as they were
abbrev pub AreSameBut : List (List Range) → List (List Range) → ℕ → Type 0
AreSameBut old new number = (n : ℕ) → (n ≡ number → ⊥) → row_at new n ≡ row_at old n
