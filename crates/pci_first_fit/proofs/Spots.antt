-- The walk along what is taken: no free place lies below the address that it has come to.
use Rattle.std.proofs.Common.{◌≡◌, ◌⊎◌, ℕ, ◌+◌, ◌-◌, ◌%◌, ◌^◌, ◌<◌, ◌≤◌, max, inl, inr, List, map, length, get_or, arith, sym, subst, refl, true, Option, None, Some, IfNone}
use Rattle.std.specs.Bool.{IsTrue, nat_lt, nat_le, ◌==◌}
use Rattle.std.specs.List.{Contains}
use Rattle.std.proofs.lemmas.Bool.{cases_lt, and_parts, and_from, or_cases, or_left, or_right, ltb-true, lt-ltb, leb-true, le-leb, eqb-true, eq-eqb}
use Rattle.std.proofs.lemmas.List.Elements.{Contains-get_or}
use Rattle.std.proofs.lemmas.List.{get_or_default}
use Rattle.pci_spec.proofs.Members.{in_map_from, in_map_to}
use Rattle.pci_spec.proofs.BusRanges.{all_gives, all_from}
use Rattle.plan_spec.specs.Plan.{raised_to}
use Rattle.plan_spec.specs.Place.{range_from}
use Rattle.plan_spec.proofs.Planning.Room.{raised}
use Rattle.settle_spec.specs.FirstPlace.{Extent as ExtentValue, ranges_are_apart, is_free_from, is_spot}
use Rattle.pci_base.specs.declared.range.Range.{Range}
use Rattle.pci_base.specs.Ranges.{decoded_range_of}
use Rattle.pci_first_fit.specs.declared.extent.Extent.{Extent}
use Rattle.pci_first_fit.specs.declared.spot.Spot.{Spot}
use Rattle.pci_first_fit.specs.Spots.{extent_value, IsExtent, FirstsRise, IsSpotAt, IsSpotReached}

-- what an index past the end is read as
abbrev pub no_range : Range
no_range = record { first = 0; last = 0 }

-- ---- what is free, by each range that is taken

abbrev IsApart : ℕ → ℕ → Range → Type 0
IsApart size b t = (b + (size - 1) < t.first) ⊎ (t.last < b)

free_gives : (taken : List Range) (e : ExtentValue) (b : ℕ) → is_free_from (map decoded_range_of taken) e b ≡ true → (t : Range) → Contains taken t → IsApart e.size b t
free_gives taken e b h t listed =
    elim (or_cases (nat_lt (b + (e.size - 1)) t.first) (nat_lt t.last b) (all_gives (ranges_are_apart (range_from b e.size)) (map decoded_range_of taken) h (decoded_range_of t) (in_map_from decoded_range_of taken t listed))) [
      | inl under ↦ inl (ltb-true (b + (e.size - 1)) t.first under)
      | inr over ↦ inr (ltb-true t.last b over)
    ]

apart_by : (size b : ℕ) (t : Range) → IsApart size b t → ranges_are_apart (range_from b size) (decoded_range_of t) ≡ true
apart_by size b t (inl under) = or_left (nat_lt (b + (size - 1)) t.first) (nat_lt t.last b) (lt-ltb (b + (size - 1)) t.first under)
apart_by size b t (inr over) = or_right (nat_lt (b + (size - 1)) t.first) (nat_lt t.last b) (lt-ltb t.last b over)

free_from : (taken : List Range) (e : ExtentValue) (b : ℕ) → ((t : Range) → Contains taken t → IsApart e.size b t) → is_free_from (map decoded_range_of taken) e b ≡ true
free_from taken e b each = all_from (ranges_are_apart (range_from b e.size)) (map decoded_range_of taken) (λ r listed.
    let made = in_map_to decoded_range_of taken r listed in
    subst (λ x. ranges_are_apart (range_from b e.size) x ≡ true) made.is (apart_by e.size b made.from (each made.from made.has)))

pub record IsFreeFrom (taken : List Range) (low : ℕ) (e : ExtentValue) (b : ℕ) : Type 0 where
  pub multiple : b % e.alignment ≡ 0
  pub from : low ≤ b
  pub free : (t : Range) → Contains taken t → IsApart e.size b t

pub spot_gives : (taken : List Range) (low : ℕ) (e : ExtentValue) (b : ℕ) → IsTrue (is_spot low (map decoded_range_of taken) e b) → IsFreeFrom taken low e b
spot_gives taken low e b spot =
    let parts = and_parts (b % e.alignment == 0) _ spot in
    let more = and_parts (nat_le low b) (is_free_from (map decoded_range_of taken) e b) parts.1 in
    record { multiple = eqb-true (b % e.alignment) 0 parts.0; from = leb-true low b more.0; free = free_gives taken e b more.1 }

pub spot_from : (taken : List Range) (low : ℕ) (e : ExtentValue) (b : ℕ) → IsFreeFrom taken low e b → IsTrue (is_spot low (map decoded_range_of taken) e b)
spot_from taken low e b is =
    and_from (b % e.alignment == 0) _ (eq-eqb (b % e.alignment) 0 is.multiple)
    (and_from (nat_le low b) (is_free_from (map decoded_range_of taken) e b) (le-leb low b is.from) (free_from taken e b is.free))

-- ---- the walk

-- what is taken before an index lies below the address, and so does no free place
pub record IsAlong (taken : List Range) (low : ℕ) (e : Extent) (at index : ℕ) : Type 0 where
  pub multiple : at % e.alignment ≡ 0
  pub from : low ≤ at
  pub least : (b : ℕ) → IsTrue (is_spot low (map decoded_range_of taken) (extent_value e) b) → at ≤ b
  pub below : (k : ℕ) (d : Range) → k < index → (get_or taken k d).last < at

pub along_from : (taken : List Range) (low : ℕ) (e : Extent) (s : Spot) (at : ℕ) → IsExtent e → IsSpotReached taken low e s → at ≡ raised_to e.alignment (max low s.at) → IsAlong taken low e at s.index
along_from taken low e s at extent reached is =
    let r = raised e.alignment (max low s.at) extent.alignment in
    let from = r.from in
    subst (λ n. IsAlong taken low e n s.index) (sym is)
    (record {
      multiple = r.multiple;
      from = omega (arith, from);
      least = λ b spot.
          let free = spot_gives taken low (extent_value e) b spot in
          let up = reached.least b spot in
          let lower = free.from in
          r.least b free.multiple (omega (arith, up, lower));
      below = λ k d less. let under = reached.below k d less in omega (arith, under, from);
    })

-- where that is above 64 bits there is none in 64 bits
pub from_too_high : (taken : List Range) (low : ℕ) (e : Extent) (s : Spot) → IsExtent e → IsSpotReached taken low e s → (raised_to e.alignment (max low s.at) < 2 ^ 64 → ⊥)
    → (b : ℕ) → IsTrue (is_spot low (map decoded_range_of taken) (extent_value e) b) → 2 ^ 64 ≤ b + (e.size - 1)
from_too_high taken low e s extent reached high b spot =
    let along = along_from taken low e s (raised_to e.alignment (max low s.at)) extent reached refl in
    let up = along.least b spot in
    elim (cases_lt (raised_to e.alignment (max low s.at)) (2 ^ 64)) [
      | inl under ↦ absurd (high under)
      | inr above ↦ omega (arith, up, above)
    ]

-- a range that is below the address is passed
pub along_passed : (taken : List Range) (low : ℕ) (e : Extent) (at index : ℕ) → IsAlong taken low e at index → index < length taken → (d : Range) → (get_or taken index d).last < at → IsAlong taken low e at (index + 1)
along_passed taken low e at index is within d past = record {
  multiple = is.multiple;
  from = is.from;
  least = is.least;
  below = λ k c less. elim (cases_lt k index) [
    | inl before ↦ is.below k c before
    | inr here ↦
        let same : k ≡ index = omega (arith, here, less) in
        subst (λ n. (get_or taken n c).last < at) (sym same) (subst (λ (x : Range). x.last < at) (get_or_default taken index d c within) past)
  ];
}

-- a free place at the address or above it lies behind a range that is in the way
over_it : (taken : List Range) (low : ℕ) (e : Extent) (at index : ℕ) → IsAlong taken low e at index → index < length taken → (d : Range) → (get_or taken index d).first ≤ at + (e.size - 1)
    → (b : ℕ) → IsTrue (is_spot low (map decoded_range_of taken) (extent_value e) b) → (get_or taken index d).last < b
over_it taken low e at index is within d first b spot =
    let free = spot_gives taken low (extent_value e) b spot in
    let up = is.least b spot in
    elim (free.free (get_or taken index d) (Contains-get_or taken index d within)) [
      | inl under ↦ absurd (let no : ⊥ = omega (arith, under, up, first) in no)
      | inr over ↦ over
    ]

-- behind one that is in the way the walk goes on
pub along_behind : (taken : List Range) (low : ℕ) (e : Extent) (at index new : ℕ) → IsExtent e → IsAlong taken low e at index → index < length taken
    → (d : Range) → (get_or taken index d).first ≤ at + (e.size - 1) → at ≤ (get_or taken index d).last → new ≡ raised_to e.alignment ((get_or taken index d).last + 1)
    → IsAlong taken low e new (index + 1)
along_behind taken low e at index new extent is within d first last new_is =
    let r = raised e.alignment ((get_or taken index d).last + 1) extent.alignment in
    let next : (get_or taken index d).last + 1 ≤ new = subst (λ n. (get_or taken index d).last + 1 ≤ n) (sym new_is) r.from in
    let from = is.from in
    record {
      multiple = subst (λ n. n % e.alignment ≡ 0) (sym new_is) r.multiple;
      from = omega (arith, next, last, from);
      least = λ b spot.
          let over = over_it taken low e at index is within d first b spot in
          subst (λ n. n ≤ b) (sym new_is) (r.least b (spot_gives taken low (extent_value e) b spot).multiple (omega (arith, over)));
      below = λ k c less. elim (cases_lt k index) [
        | inl before ↦ (let was = is.below k c before in omega (arith, was, next, last))
        | inr here ↦
            let same : k ≡ index = omega (arith, here, less) in
            subst (λ n. (get_or taken n c).last < new) (sym same) (subst (λ (x : Range). x.last < new) (get_or_default taken index d c within) (omega (arith, next)))
      ];
    }

-- where that is above 64 bits there is none in 64 bits
pub behind_too_high : (taken : List Range) (low : ℕ) (e : Extent) (at index : ℕ) → IsExtent e → IsAlong taken low e at index → index < length taken
    → (d : Range) → (get_or taken index d).first ≤ at + (e.size - 1) → (raised_to e.alignment ((get_or taken index d).last + 1) < 2 ^ 64 → ⊥)
    → (b : ℕ) → IsTrue (is_spot low (map decoded_range_of taken) (extent_value e) b) → 2 ^ 64 ≤ b + (e.size - 1)
behind_too_high taken low e at index extent is within d first high b spot =
    let r = raised e.alignment ((get_or taken index d).last + 1) extent.alignment in
    let over = over_it taken low e at index is within d first b spot in
    let up = r.least b (spot_gives taken low (extent_value e) b spot).multiple (omega (arith, over)) in
    elim (cases_lt (raised_to e.alignment ((get_or taken index d).last + 1)) (2 ^ 64)) [
      | inl under ↦ absurd (high under)
      | inr above ↦ omega (arith, up, above)
    ]

-- it ends where all that is left lies above
pub along_ends : (taken : List Range) (low : ℕ) (e : Extent) (at index : ℕ) → IsAlong taken low e at index → index ≤ length taken
    → at + (e.size - 1) < 2 ^ 64
    → ((k : ℕ) (d : Range) → index ≤ k → k < length taken → at + (e.size - 1) < (get_or taken k d).first)
    → IsSpotAt taken low e (record { at = at; index = index })
along_ends taken low e at index is within ends above = record {
  least = record {
    free = spot_from taken low (extent_value e) at (record {
      multiple = is.multiple;
      from = is.from;
      free = λ t (k, less, here). elim (cases_lt k index) [
        | inl before ↦ inr (subst (λ (x : Range). x.last < at) here (is.below k t before))
        | inr after ↦ inl (subst (λ (x : Range). at + (e.size - 1) < x.first) here (above k t after less))
      ];
    });
    least = is.least;
  };
  between = record { ends = ends; within = within; below = is.below; above = above };
}

pub all_above : (taken : List Range) → FirstsRise taken → (index last : ℕ) → index < length taken → (d : Range) → last < (get_or taken index d).first
    → (k : ℕ) (c : Range) → index ≤ k → k < length taken → last < (get_or taken k c).first
all_above taken order index last within d under k c from less =
    let here : last < (get_or taken index c).first = subst (λ (x : Range). last < x.first) (get_or_default taken index d c within) under in
    elim (cases_lt index k) [
      | inl later ↦ (let up = order index k c later less in omega (arith, here, up))
      | inr same_index ↦ (let same : k ≡ index = omega (arith, same_index, from) in subst (λ n. last < (get_or taken n c).first) (sym same) here)
    ]

-- past all that is taken nothing is left
pub along_all : (taken : List Range) (low : ℕ) (e : Extent) (at index : ℕ) → IsAlong taken low e at index → length taken ≤ index
    → at + (e.size - 1) < 2 ^ 64 → IsSpotAt taken low e (record { at = at; index = length taken })
along_all taken low e at index is past ends =
    along_ends taken low e at (length taken)
    (record { multiple = is.multiple; from = is.from; least = is.least; below = λ k d less. is.below k d (omega (arith, less, past)) })
    (omega arith) ends (λ k d from less. absurd (let no : ⊥ = omega (arith, from, less) in no))

-- where it would end above 64 bits there is none that doesn't
pub too_high : (taken : List Range) (low : ℕ) (e : Extent) (at index : ℕ) → IsAlong taken low e at index → (at + (e.size - 1) < 2 ^ 64 → ⊥)
    → (b : ℕ) → IsTrue (is_spot low (map decoded_range_of taken) (extent_value e) b) → 2 ^ 64 ≤ b + (e.size - 1)
too_high taken low e at index is high b spot = let up = is.least b spot in elim (cases_lt (at + (e.size - 1)) (2 ^ 64)) [
  | inl under ↦ absurd (high under)
  | inr over ↦ omega (arith, up, over)
]

-- what holds anyway holds of None
pub none_by : {X : Type 0} (r : Option X) (P : Type 0) → P → IfNone r P
none_by None P p = p
none_by (Some x) P p = tt
