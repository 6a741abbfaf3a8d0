-- How far a search along ranges has come, and that it needn't go back.
use Rattle.std.proofs.Common.{◌≡◌, ℕ, ◌+◌, ◌<◌, List, map, length, get_or, arith, None}
use Rattle.settle_spec.specs.FirstPlace.{first_place_in}
use Rattle.pci_base.specs.declared.range.Range.{Range}
use Rattle.pci_base.specs.Ranges.{decoded_range_of}
use Rattle.pci_first_fit.specs.declared.extent.Extent.{Extent}
use Rattle.pci_first_fit.specs.declared.spot.Spot.{Spot}
use Rattle.pci_first_fit.specs.declared.spot.Start.{Start}
use Rattle.pci_first_fit.specs.Spots.{extent_value, IsSpotAt, IsSpotReached, IsStart}
use Rattle.pci_first_fit.proofs.FirstPlaces.{none_so_far}

-- nothing is below address 0
pub lowest_reached : (taken : List Range) (low : ℕ) (e : Extent) (s : Spot) → s.at ≡ 0 → s.index ≡ 0 → IsSpotReached taken low e s
lowest_reached taken low e s at index = record {
  least = λ b spot. omega (arith, at);
  within = omega (arith, index);
  below = λ k d less. absurd (let no : ⊥ = omega (arith, less, index) in no);
}

pub spot_reached : (taken : List Range) (low : ℕ) (e : Extent) (s : Spot) → IsSpotAt taken low e s → IsSpotReached taken low e s
spot_reached taken low e s is = record { least = is.least.least; within = is.between.within; below = is.between.below }

pub start_lowest : (ranges taken : List Range) (e : Extent) (s : Spot) → s.at ≡ 0 → s.index ≡ 0 → IsStart ranges taken e (record { range = 0; spot = s })
start_lowest ranges taken e s at index = record {
  before = λ k d less. absurd (let no : ⊥ = omega (arith, less) in no);
  reached = λ d within. lowest_reached taken (get_or ranges 0 d).first e s at index;
}

-- ---- the search

-- the ranges so far have no place, and in the next one none is below a spot
pub record IsSearched (ranges taken : List Range) (e : Extent) (old now : Start) (from : Spot) (index : ℕ) : Type 0 where
  pub same : now ≡ old
  pub before : (k : ℕ) (d : Range) → k < index → first_place_in (decoded_range_of (get_or ranges k d)) (map decoded_range_of taken) (extent_value e) ≡ None
  pub reached : (d : Range) → index < length ranges → IsSpotReached taken (get_or ranges index d).first e from

pub searched_next : (ranges taken : List Range) (e : Extent) (old now : Start) (from next : Spot) (index : ℕ) (d : Range) → IsSearched ranges taken e old now from index → index < length ranges
    → first_place_in (decoded_range_of (get_or ranges index d)) (map decoded_range_of taken) (extent_value e) ≡ None → next.at ≡ 0 → next.index ≡ 0
    → IsSearched ranges taken e old now next (index + 1)
searched_next ranges taken e old now from next index d is within none at low = record {
  same = is.same;
  before = none_so_far (map decoded_range_of taken) (extent_value e) ranges index d is.before within none;
  reached = λ c more. lowest_reached taken (get_or ranges (index + 1) c).first e next at low;
}
