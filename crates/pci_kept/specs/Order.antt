-- The order in which parts are gone over, by a number that stands for slot and register.
use Rattle.std.specs.Prelude.{◌≡◌, ℕ, ◌+◌, ◌-◌, ◌<◌, ◌⊎◌, Bool, if◌then◌else◌}
use Rattle.pci_kept.specs.declared.region.Region.{Region}

abbrev pub span_of : Region → ℕ
span_of r = r.range.last - r.range.first

-- what leads to a told range that is on comes before the rest, then what is fixed, and then what is on
abbrev pub turn_number : Bool → Bool → Bool → ℕ
turn_number leads fixed on =
    (if leads then 0 else 4) + (if fixed then 0 else 2) + (if on then 0 else 1)

abbrev pub turn_of : Region → ℕ
turn_of r = turn_number r.leads r.fixed r.on

-- a part is larger than another, or as large and of a lower number
abbrev pub IsLargerPart : (Region → ℕ) → Region → Region → Type 0
IsLargerPart number r t =
    (span_of t < span_of r) ⊎ ((span_of r ≡ span_of t) × (number r < number t))

abbrev pub IsSooner : (Region → ℕ) → Region → Region → Type 0
IsSooner number r t = (turn_of r < turn_of t) ⊎ ((turn_of r ≡ turn_of t) × IsLargerPart number r t)

-- it is on a lower bus, or comes first on the same
abbrev pub IsPartInTurn : (Region → ℕ) → Region → Region → Type 0
IsPartInTurn number r t = (r.level < t.level) ⊎ ((r.level ≡ t.level) × IsSooner number r t)
