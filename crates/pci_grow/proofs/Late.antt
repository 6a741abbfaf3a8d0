-- The walk down along what is taken: no place lies above the address that it has come to.
use Rattle.std.proofs.Common.{◌≡◌, ℕ, ◌+◌, ◌-◌, ◌*◌, ◌/◌, ◌%◌, ◌<◌, ◌≤◌, min, inl, inr, List, map, length, get_or, arith, sym, subst, None, Some}
use Rattle.std.specs.Bool.{IsTrue}
use Rattle.std.specs.List.{Contains}
use Rattle.std.proofs.lemmas.Bool.{cases_lt, cases_eq, false_from_ne_true}
use Rattle.std.proofs.lemmas.Nat.{div-add-mod'}
use Rattle.std.proofs.lemmas.List.{get_or_default}
use Rattle.std.proofs.lemmas.List.Elements.{Contains-get_or}
use Rattle.pci_spec.specs.Decoded.{Range as DecodedRange}
use Rattle.pci_spec.proofs.Members.{in_map_from, in_map_to}
use Rattle.settle_spec.specs.FirstPlace.{is_place, HasNoPlace}
use Rattle.settle_spec.specs.LastPlace.{lowered_to, last_place_in}
use Rattle.settle_spec.proofs.FirstSpot.{IsApart}
use Rattle.pci_base.specs.declared.range.Range.{Range}
use Rattle.pci_base.specs.Ranges.{decoded_range_of}
use Rattle.pci_first_fit.specs.declared.extent.Extent.{Extent}
use Rattle.pci_first_fit.specs.Spots.{extent_value, IsExtent}
use Rattle.pci_grow.specs.declared.last_place.LateSpot.{LateSpot}
use Rattle.pci_grow.specs.LastPlaces.{LastsRise, IsDescended, IsLateSpotAt}
use Rattle.pci_grow.proofs.Places.{lowered, place_gives, place_from, last_from, none_from}

-- what an index past the end is read as
abbrev pub no_range : Range
no_range = record { first = 0; last = 0 }

-- the code takes the rest off
pub less_rest : (k n : ℕ) → n - n % k ≡ n / k * k
less_rest k n = let e = div-add-mod' n k in omega (arith, e)

-- ---- before anything is known to be taken

pub start_from : (r : Range) (e : Extent) (last : ℕ) → IsExtent e → last ≡ min r.last e.highest → e.size ≤ last + 1
    → (taken : List Range) → IsDescended r taken e (lowered_to (extent_value e) (last + 1)) 0
start_from r e last extent is room taken =
    let some = extent.size in
    let down = lowered e.alignment (last + 1 - e.size) extent.alignment in
    let low = down.below in
    record {
      multiple = down.multiple;
      last = omega (arith, low, room, is, some);
      highest = omega (arith, low, room, is, some);
      greatest = λ b place.
          let p = place_gives (decoded_range_of r) (map decoded_range_of taken) (extent_value e) b place in
          let in_last = p.last in
          let in_highest = p.highest in
          down.greatest b p.spot.multiple (omega (arith, in_last, in_highest, is, some));
      within = omega arith;
      higher = λ k d from less. absurd (let no : ⊥ = omega (arith, from, less) in no);
    }

-- ---- one range after another

module _ (r : Range) (taken : List Range) (e : Extent) (at above : ℕ) (extent : IsExtent e) (is : IsDescended r taken e at above) (index : ℕ) (index_is : index + above + 1 ≡ length taken) (d : Range) where
  abbrev other : Range
  other = get_or taken index d

  in_taken : Contains taken other
  in_taken = Contains-get_or taken index d (omega (arith, index_is))

  -- a place ends before a range that is in the way
  under_it : at ≤ other.last → other.first ≤ at + (e.size - 1) → (b : ℕ) → IsTrue (is_place (decoded_range_of r) (map decoded_range_of taken) (extent_value e) b) → b + e.size ≤ other.first
  under_it last first b place =
      let p = place_gives (decoded_range_of r) (map decoded_range_of taken) (extent_value e) b place in
      let up = is.greatest b place in
      let some = extent.size in
      elim (p.spot.free (decoded_range_of other) (in_map_from decoded_range_of taken other in_taken)) [
        | inl under ↦ omega (arith, under, some)
        | inr over ↦ absurd (let no : ⊥ = omega (arith, over, up, last) in no)
      ]

  -- before it the walk goes on
  pub descend_before : at ≤ other.last → other.first ≤ at + (e.size - 1) → e.size ≤ other.first → IsDescended r taken e (lowered_to (extent_value e) other.first) (above + 1)
  descend_before last first room =
      let some = extent.size in
      let down = lowered e.alignment (other.first - e.size) extent.alignment in
      let low = down.below in
      let in_last = is.last in
      let in_highest = is.highest in
      record {
        multiple = down.multiple;
        last = omega (arith, low, room, first, in_last, some);
        highest = omega (arith, low, room, first, in_highest, some);
        greatest = λ b place. let under = under_it last first b place in
            let p = place_gives (decoded_range_of r) (map decoded_range_of taken) (extent_value e) b place in
            down.greatest b p.spot.multiple (omega (arith, under));
        within = omega (arith, index_is);
        higher = λ k c from less. elim (cases_eq k index) [
          | inl same ↦ subst (λ n. lowered_to (extent_value e) other.first + (e.size - 1) < (get_or taken n c).first) (sym same)
              (subst (λ (x : Range). lowered_to (extent_value e) other.first + (e.size - 1) < x.first) (get_or_default taken index d c (omega (arith, index_is))) (omega (arith, low, room, some)))
          | inr differ ↦ (let high = is.higher k c (omega (arith, from, differ, index_is)) less in omega (arith, high, low, room, first, some))
        ];
      }

  -- where that has too few addresses below it there is no place
  pub descend_none : at ≤ other.last → other.first ≤ at + (e.size - 1) → (e.size ≤ other.first → ⊥) → HasNoPlace (decoded_range_of r) (map decoded_range_of taken) (extent_value e)
  descend_none last first little b = false_from_ne_true (is_place (decoded_range_of r) (map decoded_range_of taken) (extent_value e) b) (λ place.
      let under = under_it last first b place in little (omega (arith, under)))

  -- a range that lies above is passed
  pub descend_past : at + (e.size - 1) < other.first → IsDescended r taken e at (above + 1)
  descend_past over = record {
    multiple = is.multiple;
    last = is.last;
    highest = is.highest;
    greatest = is.greatest;
    within = omega (arith, index_is);
    higher = λ k c from less. elim (cases_eq k index) [
      | inl same ↦ subst (λ n. at + (e.size - 1) < (get_or taken n c).first) (sym same)
          (subst (λ (x : Range). at + (e.size - 1) < x.first) (get_or_default taken index d c (omega (arith, index_is))) over)
      | inr differ ↦ is.higher k c (omega (arith, from, differ, index_is)) less
    ];
  }

  -- one that lies below ends the walk: so do all before it
  pub descend_ends : LastsRise taken → other.last < at → IsLateSpotAt r taken e (record { at = at; above = above })
  descend_ends order under = record {
    descended = is;
    lower = λ k c less.
        let here : (get_or taken index c).last < at = subst (λ (x : Range). x.last < at) (get_or_default taken index d c (omega (arith, index_is))) under in
        elim (cases_eq k index) [
          | inl same ↦ subst (λ n. (get_or taken n c).last < at) (sym same) here
          | inr differ ↦ (let up = order k index c (omega (arith, less, differ, index_is)) (omega (arith, index_is)) in omega (arith, up, here))
        ];
  }

-- past all that is taken nothing is left
pub descend_all : (r : Range) (taken : List Range) (e : Extent) (at above : ℕ) → IsDescended r taken e at above → length taken ≤ above → IsLateSpotAt r taken e (record { at = at; above = length taken })
descend_all r taken e at above is past = record {
  descended = record {
    multiple = is.multiple;
    last = is.last;
    highest = is.highest;
    greatest = is.greatest;
    within = omega arith;
    higher = λ k d from less. is.higher k d (omega (arith, past)) less;
  };
  lower = λ k d less. absurd (let no : ⊥ = omega (arith, less) in no);
}

-- ---- the place that is found

module _ (r : Range) (taken : List Range) (e : Extent) (s : LateSpot) (extent : IsExtent e) (is : IsLateSpotAt r taken e s) where
  apart : (t : DecodedRange) → Contains (map decoded_range_of taken) t → IsApart e.size s.at t
  apart t listed =
      let made = in_map_to decoded_range_of taken t listed in
      let k = made.has.0 in
      let less = made.has.1 in
      let here = made.has.2 in
      subst (IsApart e.size s.at) made.is (elim (cases_lt (k + s.above) (length taken)) [
        | inl below ↦ inr (subst (λ (x : Range). x.last < s.at) here (is.lower k made.from below))
        | inr above ↦ inl (subst (λ (x : Range). s.at + (e.size - 1) < x.first) here (is.descended.higher k made.from above less))
      ])

  pub place_at : r.first ≤ s.at → last_place_in (decoded_range_of r) (map decoded_range_of taken) (extent_value e) ≡ Some s.at
  place_at from = last_from (decoded_range_of r) (map decoded_range_of taken) (extent_value e) extent.size extent.alignment s.at (record {
    place = place_from (decoded_range_of r) (map decoded_range_of taken) (extent_value e) s.at (record {
      spot = record { multiple = is.descended.multiple; from = from; free = apart };
      last = is.descended.last;
      highest = is.descended.highest;
    });
    greatest = is.descended.greatest;
  })

  pub place_below : (r.first ≤ s.at → ⊥) → last_place_in (decoded_range_of r) (map decoded_range_of taken) (extent_value e) ≡ None
  place_below under = none_from (decoded_range_of r) (map decoded_range_of taken) (extent_value e) extent.size extent.alignment (λ b.
      false_from_ne_true (is_place (decoded_range_of r) (map decoded_range_of taken) (extent_value e) b) (λ place.
      let up = is.descended.greatest b place in
      let from = (place_gives (decoded_range_of r) (map decoded_range_of taken) (extent_value e) b place).spot.from in
      under (omega (arith, up, from))))

pub none_there : (r : Range) (taken : List Range) (e : Extent) → IsExtent e → HasNoPlace (decoded_range_of r) (map decoded_range_of taken) (extent_value e)
    → last_place_in (decoded_range_of r) (map decoded_range_of taken) (extent_value e) ≡ None
none_there r taken e extent none = none_from (decoded_range_of r) (map decoded_range_of taken) (extent_value e) extent.size extent.alignment none
