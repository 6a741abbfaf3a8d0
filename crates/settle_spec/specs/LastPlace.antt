-- The last free place in a range of addresses, some of which are taken.
use Rattle.std.specs.Prelude.{ℕ, ◌+◌, ◌-◌, ◌*◌, ◌/◌, ◌≤◌, max, IsTrue, List, [], ◌∷◌, map, Option, None, Some}
use Rattle.std.specs.List.{filter, fold}
use Rattle.pci_spec.specs.Decoded.{Range}
use Rattle.settle_spec.specs.FirstPlace.{Extent, is_place}

-- the greatest multiple of the alignment from which an extent ends before an address
abbrev pub lowered_to : Extent → ℕ → ℕ
lowered_to e end = (end - e.size) / e.alignment * e.alignment

-- where the last can be: up to the end of the range, up to the highest address, or up to one that is taken
abbrev pub late_candidates : Range → List Range → Extent → List ℕ
late_candidates r taken e =
    map (lowered_to e) ((r.last + 1) ∷ ((e.highest + 1) ∷ map (λ (t : Range). t.first) taken))

-- the greatest of some numbers
abbrev pub greatest_number : List ℕ → Option ℕ
greatest_number [] = None
greatest_number (a ∷ more) = Some (fold max a more)

-- the last place in a range
abbrev pub last_place_in : Range → List Range → Extent → Option ℕ
last_place_in r taken e = greatest_number (filter (is_place r taken e) (late_candidates r taken e))

-- ---- the same, address by address

-- a is the greatest place in a range
pub record IsLastPlaceIn (r : Range) (taken : List Range) (e : Extent) (a : ℕ) : Type 0 where
  pub place : IsTrue (is_place r taken e a)
  pub greatest : (b : ℕ) → IsTrue (is_place r taken e b) → b ≤ a
