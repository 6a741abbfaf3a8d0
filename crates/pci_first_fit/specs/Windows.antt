-- What is laid out from 0 on.
use Rattle.std.specs.Prelude.{ℕ, ◌≡◌, ◌≤◌, ◌^◌, Bool, true, false, List, length, map, Option, None, Some, ⊤}
use Rattle.std.specs.List.{insert}
use Rattle.plan_spec.specs.Place.{range_from}
use Rattle.settle_spec.specs.FirstPlace.{first_spot, Extent as ExtentValue}
use Rattle.settle_spec.specs.Spares.{with_spare}
use Rattle.pci_base.specs.declared.range.Range.{Range}
use Rattle.pci_base.specs.Ranges.{decoded_range_of}
use Rattle.pci_first_fit.specs.declared.extent.Extent.{Extent}
use Rattle.pci_first_fit.specs.Spots.{extent_value, extent_range}

-- where an extent starts that is laid out next, and its last address
abbrev pub laid_first : List Range → Extent → ℕ
laid_first taken e = first_spot 0 (map decoded_range_of taken) (extent_value e)

abbrev pub laid_last : List Range → Extent → ℕ
laid_last taken e = (range_from (laid_first taken e) e.size).last

-- what is taken then, where it ends in 64 bits
abbrev pub IsLaidBy : List Range → List Range → Extent → Option ℕ → Type 0
IsLaidBy old new e None = ⊤
IsLaidBy old new e (Some end) =
    (index : ℕ) × (index ≤ length old) × (new ≡ insert old index (extent_range e (laid_first old e)))

abbrev pub alignments : List ExtentValue → List ℕ
alignments extents = map (λ (e : ExtentValue). e.alignment) extents

abbrev pub highests : List ExtentValue → List ℕ
highests extents = map (λ (e : ExtentValue). e.highest) extents

-- an extent as the definitions have it, where it has fewer than 2^64 addresses
abbrev pub IsAround : ExtentValue → Option Extent → Type 0
IsAround e None = 2 ^ 64 ≤ e.size
IsAround e (Some x) = extent_value x ≡ e

-- there is a spare of 2^64 addresses
abbrev pub IsLargeSpare : Option ExtentValue → Type 0
IsLargeSpare None = ⊥
IsLargeSpare (Some e) = 2 ^ 64 ≤ e.size

-- a spare is added to extents, or is too large
abbrev pub IsSpareAdded : List Extent → List Extent → Option ExtentValue → Bool → Type 0
IsSpareAdded old new spare true = map extent_value new ≡ with_spare spare (map extent_value old)
IsSpareAdded old new spare false = IsLargeSpare spare
