-- The ranges of a list that a root has, and the first place in one.
use Rattle.std.specs.Prelude.{ℕ, if◌then◌else◌, List, map, Option, None}
use Rattle.std.specs.List.{filter}
use Rattle.pci_spec.specs.Decoded.{Range}
use Rattle.settle_spec.specs.FirstPlace.{Extent, first_place_in}
use Rattle.settle_spec.specs.Lists as lists

-- the ranges of a list that a root has
abbrev pub ranges_had : ℕ → List lists.RootRange → List Range
ranges_had bus list = map (λ (r : lists.RootRange). r.range) (filter (λ r. lists.is_had_by r.root bus) list)

-- the first place in a range, where a root has it
abbrev pub place_had : ℕ → List Range → Extent → lists.RootRange → Option ℕ
place_had bus taken e one =
    if lists.is_had_by one.root bus then first_place_in one.range taken e else None
