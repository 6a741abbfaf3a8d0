-- The first place in a range, and in the first range that has one.
use Rattle.std.proofs.Common.{◌≡◌, ℕ, zero, suc, inl, inr, ◌+◌, ◌-◌, ◌^◌, ◌<◌, ◌≤◌, List, [], ◌∷◌, map, length, cond, get_or, arith, ap, sym, subst, ◌∙◌, refl, false, Bool, Option, None, Some, SomeIff, IfSome, IfNone}
use Rattle.std.specs.Bool.{IsTrue, nat_le}
use Rattle.std.proofs.lemmas.Bool.{cases_lt, and_parts, leb-true, false_from_ne_true}
use Rattle.std.proofs.lemmas.List.{get_or_default}
use Rattle.pci_spec.specs.Decoded.{Range as DecodedRange}
use Rattle.settle_spec.specs.FirstPlace.{Extent as ExtentValue, is_spot, ends_by, first_spot, first_place_in, first_place, else_at, IsLeastSpot}
use Rattle.settle_spec.proofs.FirstSpot.{least_spot, only_least}
use Rattle.pci_base.specs.declared.range.Range.{Range}
use Rattle.pci_base.specs.Ranges.{decoded_range_of}
use Rattle.pci_first_fit.specs.declared.extent.Extent.{Extent}
use Rattle.pci_first_fit.specs.declared.spot.Spot.{Spot}
use Rattle.pci_first_fit.specs.Spots.{extent_value, IsSpotAt, spot_place}

abbrev in_range : DecodedRange → ExtentValue → ℕ → Option ℕ
in_range r e a = cond (ends_by r e a) (Some a) None

-- the least free place is the first where it ends in the range
pub first_at : (r : DecodedRange) (taken : List DecodedRange) (e : ExtentValue) (a : ℕ) → 0 < e.alignment → IsLeastSpot r.first taken e a
    → (b : Bool) → b ≡ ends_by r e a → first_place_in r taken e ≡ cond b (Some a) None
first_at r taken e a pos least b ends =
    ap (in_range r e) (only_least r.first taken e a pos least) ∙ ap (λ x. cond x (Some a) None) (sym ends)

-- none is where all free places end above 64 bits
pub none_at : (r : DecodedRange) (taken : List DecodedRange) (e : ExtentValue) → 0 < e.alignment → r.last < 2 ^ 64
    → ((b : ℕ) → IsTrue (is_spot r.first taken e b) → 2 ^ 64 ≤ b + (e.size - 1)) → first_place_in r taken e ≡ None
none_at r taken e pos small high =
    let a = first_spot r.first taken e in
    let above = high a (least_spot r.first taken e pos).free in
    let not_in : ends_by r e a ≡ false = false_from_ne_true (ends_by r e a) (λ is.
    let last = leb-true (a + (e.size - 1)) r.last (and_parts (nat_le (a + (e.size - 1)) r.last) _ is).0 in
    let no : ⊥ = omega (arith, last, small, above) in no) in
    ap (λ x. cond x (Some a) None) not_in

-- the least free place is told, unless it ends above 64 bits
pub spot_told : (taken : List Range) (low : ℕ) (e : Extent) → 0 < e.alignment → (r : Option Spot) → IfSome r (IsSpotAt taken low e)
    → IfNone r ((b : ℕ) → IsTrue (is_spot low (map decoded_range_of taken) (extent_value e) b) → 2 ^ 64 ≤ b + (e.size - 1))
    → SomeIff (spot_place r) (first_spot low (map decoded_range_of taken) (extent_value e) + (e.size - 1) < 2 ^ 64) (first_spot low (map decoded_range_of taken) (extent_value e))
spot_told taken low e pos None found none = λ ends.
    let a = first_spot low (map decoded_range_of taken) (extent_value e) in
    let above = none a (least_spot low (map decoded_range_of taken) (extent_value e) pos).free in
    omega (arith, ends, above)
spot_told taken low e pos (Some s) found none =
    let same = only_least low (map decoded_range_of taken) (extent_value e) s.at pos found.least in
    (subst (λ n. n + (e.size - 1) < 2 ^ 64) (sym same) found.between.ends, sym same)

-- ranges without a place are passed
pub place_skips : (taken : List DecodedRange) (e : ExtentValue) (ranges : List Range) (index : ℕ) (d : Range) (o : ℕ)
    → ((k : ℕ) (c : Range) → k < index → first_place_in (decoded_range_of (get_or ranges k c)) taken e ≡ None)
    → index < length ranges → first_place_in (decoded_range_of (get_or ranges index d)) taken e ≡ Some o
    → first_place (map decoded_range_of ranges) taken e ≡ Some o
place_skips taken e [] index d o before within found = absurd (let no : ⊥ = omega (arith, within) in no)
place_skips taken e (r ∷ ranges) zero d o before within found = ap (λ x. else_at x (first_place (map decoded_range_of ranges) taken e)) found
place_skips taken e (r ∷ ranges) (suc index) d o before within found =
    ap (λ x. else_at x (first_place (map decoded_range_of ranges) taken e)) (before 0 d (omega arith))
    ∙ place_skips taken e ranges index d o (λ k c less. before (suc k) c (omega (arith, less))) (omega (arith, within)) found

pub place_none : (taken : List DecodedRange) (e : ExtentValue) (ranges : List Range)
    → ((k : ℕ) (c : Range) → k < length ranges → first_place_in (decoded_range_of (get_or ranges k c)) taken e ≡ None)
    → first_place (map decoded_range_of ranges) taken e ≡ None
place_none taken e [] all = refl
place_none taken e (r ∷ ranges) all =
    ap (λ x. else_at x (first_place (map decoded_range_of ranges) taken e)) (all 0 r (omega arith))
    ∙ place_none taken e ranges (λ k c less. all (suc k) c (omega (arith, less)))

pub none_so_far : (taken : List DecodedRange) (e : ExtentValue) (ranges : List Range) (index : ℕ) (d : Range)
    → ((k : ℕ) (c : Range) → k < index → first_place_in (decoded_range_of (get_or ranges k c)) taken e ≡ None)
    → index < length ranges → first_place_in (decoded_range_of (get_or ranges index d)) taken e ≡ None
    → (k : ℕ) (c : Range) → k < index + 1 → first_place_in (decoded_range_of (get_or ranges k c)) taken e ≡ None
none_so_far taken e ranges index d before within none k c less = elim (cases_lt k index) [
  | inl earlier ↦ before k c earlier
  | inr here ↦ (let same : k ≡ index = omega (arith, here, less) in
      subst (λ n. first_place_in (decoded_range_of (get_or ranges n c)) taken e ≡ None) (sym same)
      (subst (λ r. first_place_in (decoded_range_of r) taken e ≡ None) (get_or_default ranges index d c within) none))
]
