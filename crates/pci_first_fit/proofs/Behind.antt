-- Places off what is behind an extent, beside what is taken.
use Rattle.std.proofs.Common.{◌≡◌, ℕ, ◌^◌, ◌<◌, inl, inr, Bool, true, false, not, List, [], ◌∷◌, ◌++◌, map, length, get_or, refl, ap, sym, subst, ◌∙◌, arith, Option, Some, None}
use Rattle.std.specs.Option.{is_some}
use Rattle.std.specs.List.{Contains, filter}
use Rattle.std.specs.List.Sorted.{IsPermutation}
use Rattle.std.proofs.lemmas.Bool.{cases_Bool, both_ways}
use Rattle.std.proofs.lemmas.List.{map-append}
use Rattle.std.proofs.lemmas.List.Elements.{Contains-append_cases, Contains-append_left, Contains-append_right}
use Rattle.std.proofs.lemmas.List.Folds.{list_any_at}
use Rattle.std.proofs.lemmas.List.Sorted.{IsPermutation-map, IsPermutation-sym, Contains-permutation}
use Rattle.pci_spec.specs.Decoded.{Range as DecodedRange}
use Rattle.pci_spec.proofs.Members.{IsMade, in_map_to, in_map_from, in_filter_to, in_filter_from}
use Rattle.plan_spec.specs.Place.{range_from}
use Rattle.settle_spec.specs.FirstPlace.{ranges_are_apart, first_place, else_at}
use Rattle.settle_spec.proofs.SameTaken.{HaveSame, same_first_place}
use Rattle.pci_base.specs.declared.range.Range.{Range}
use Rattle.pci_base.specs.Ranges.{decoded_range_of}
use Rattle.pci_first_fit.specs.declared.extent.Extent.{Extent}
use Rattle.pci_first_fit.specs.declared.placing.Wanted.{Wanted}
use Rattle.pci_first_fit.specs.Spots.{extent_value, IsExtent, is_near}
use Rattle.pci_first_fit.specs.Placings.{HasListAt, place_by_list, wanted_place, IsWantedReady}
use Rattle.pci_first_fit.proofs.NearRanges.{AreNear, near_place}

-- ranges in another order are the same
pub permuted_same : (xs ys : List Range) → IsPermutation xs ys → HaveSame (map decoded_range_of xs) (map decoded_range_of ys)
permuted_same xs ys moved =
    let both = IsPermutation-map decoded_range_of xs ys moved in
    record {
      to = λ t listed. Contains-permutation (map decoded_range_of xs) (map decoded_range_of ys) t both listed;
      back = λ t listed. Contains-permutation (map decoded_range_of ys) (map decoded_range_of xs) t (IsPermutation-sym _ _ both) listed;
    }

-- what is behind and what is taken, in one list in order
pub place_off : (ranges behind taken none first all sorted slice : List Range) (e : Extent) → IsExtent e → none ≡ [] → first ≡ none ++ behind → all ≡ first ++ taken → IsPermutation all sorted → slice ≡ sorted
    → first_place (map decoded_range_of ranges) (map decoded_range_of behind ++ map decoded_range_of taken) (extent_value e)
    ≡ first_place (map decoded_range_of ranges) (map decoded_range_of slice) (extent_value e)
place_off ranges behind taken none first all sorted slice e is empty put more moved lent =
    let all_is : all ≡ behind ++ taken = more ∙ ap (λ xs. xs ++ taken) (put ∙ ap (λ xs. xs ++ behind) empty) in
    same_first_place (map decoded_range_of ranges) (map decoded_range_of behind ++ map decoded_range_of taken) (map decoded_range_of slice) (extent_value e) is.alignment
    (subst (λ xs. HaveSame xs (map decoded_range_of slice)) (map-append decoded_range_of behind taken)
    (permuted_same (behind ++ taken) slice (subst (IsPermutation (behind ++ taken)) (sym lent) (subst (λ xs. IsPermutation xs sorted) all_is moved))))

-- what shares no address with a range of the list need not be taken
module _ (ranges behind taken near : List Range) (near_is : near ≡ filter (is_near ranges) behind) where
  some_near : (x : Range) → is_near ranges x ≡ false → (r : DecodedRange) → Contains (map decoded_range_of ranges) r → ranges_are_apart (decoded_range_of x) r ≡ true
  some_near x off r listed =
      let made : IsMade decoded_range_of ranges r = in_map_to decoded_range_of ranges r listed in
      let z = made.from in
      let test : Range → Bool = λ y. not (ranges_are_apart (decoded_range_of x) (decoded_range_of y)) in
      elim (cases_Bool (ranges_are_apart (decoded_range_of x) (decoded_range_of z))) [
        | inl apart ↦ ap (ranges_are_apart (decoded_range_of x)) (sym made.is) ∙ apart
        | inr share ↦ absurd (both_ways (is_near ranges x) off
            (list_any_at test ranges made.has.0 z made.has.1 (ap test made.has.2 ∙ ap not share)))
      ]

  near_each : (r : DecodedRange) → Contains (map decoded_range_of ranges) r
      → AreNear r (map decoded_range_of behind ++ map decoded_range_of taken) (map decoded_range_of near ++ map decoded_range_of taken)
  near_each r here = record {
    fewer = λ t listed. elim (Contains-append_cases (map decoded_range_of near) (map decoded_range_of taken) t listed) [
      | inl first ↦
          let made : IsMade decoded_range_of near t = in_map_to decoded_range_of near t first in
          let kept = in_filter_to (is_near ranges) behind made.from (subst (λ xs. Contains xs made.from) near_is made.has) in
          Contains-append_left (map decoded_range_of behind) (map decoded_range_of taken) t (subst (Contains (map decoded_range_of behind)) made.is (in_map_from decoded_range_of behind made.from kept.0))
      | inr later ↦ Contains-append_right (map decoded_range_of behind) (map decoded_range_of taken) t later
    ];
    rest = λ t listed. elim (Contains-append_cases (map decoded_range_of behind) (map decoded_range_of taken) t listed) [
      | inl first ↦
          let made : IsMade decoded_range_of behind t = in_map_to decoded_range_of behind t first in
          elim (cases_Bool (is_near ranges made.from)) [
            | inl near_by ↦ inl (Contains-append_left (map decoded_range_of near) (map decoded_range_of taken) t
                (subst (Contains (map decoded_range_of near)) made.is (in_map_from decoded_range_of near made.from
                (subst (λ xs. Contains xs made.from) (sym near_is) (in_filter_from (is_near ranges) behind made.from made.has near_by)))))
            | inr off ↦ inr (ap (λ x. ranges_are_apart x r) (sym made.is) ∙ some_near made.from off r here)
          ]
      | inr later ↦ inl (Contains-append_right (map decoded_range_of near) (map decoded_range_of taken) t later)
    ];
  }

  pub place_near : (e : Extent) → IsExtent e
      → first_place (map decoded_range_of ranges) (map decoded_range_of behind ++ map decoded_range_of taken) (extent_value e)
      ≡ first_place (map decoded_range_of ranges) (map decoded_range_of near ++ map decoded_range_of taken) (extent_value e)
  place_near e is = near_place (map decoded_range_of ranges) (map decoded_range_of behind ++ map decoded_range_of taken) (map decoded_range_of near ++ map decoded_range_of taken) (extent_value e) is.alignment near_each

pub no_ranges : (xs : List Range) → length xs ≡ 0 → xs ≡ []
no_ranges [] empty = refl
no_ranges (x ∷ xs) empty = absurd (let no : ⊥ = omega (arith, empty) in no)

pub not_told : (o : Option ℕ) → is_some o ≡ false → o ≡ None
not_told None none = refl
not_told (Some a) none = absurd (both_ways true none refl)

-- what is wanted where some of it, or nothing, shares an address with a range of the list
module _ (count : ℕ) (lists : List (List Range)) (behind taken ranges near : List Range) (w : Wanted) (has : HasListAt count w)
    (ranges_is : ranges ≡ get_or lists w.list []) (near_is : near ≡ filter (is_near ranges) behind) where
  by_near : place_by_list lists (map decoded_range_of behind ++ map decoded_range_of taken) w ≡ first_place (map decoded_range_of ranges) (map decoded_range_of near ++ map decoded_range_of taken) (extent_value w.extent)
  by_near =
      ap (λ rs. first_place (map decoded_range_of rs) (map decoded_range_of behind ++ map decoded_range_of taken) (extent_value w.extent)) (sym ranges_is)
      ∙ place_near ranges behind taken near near_is w.extent has.extent

  pub far_ready : near ≡ [] → IsWantedReady count lists (map decoded_range_of behind) (map decoded_range_of taken) w (Some w)
  far_ready none = (
    has,
    record {
      extent = refl;
      place = ap (else_at w.at) (sym (by_near
          ∙ ap (λ xs. first_place (map decoded_range_of ranges) (map decoded_range_of xs ++ map decoded_range_of taken) (extent_value w.extent)) none
          ∙ ap (λ rs. first_place (map decoded_range_of rs) (map decoded_range_of taken) (extent_value w.extent)) ranges_is));
    },
  )

  module _ (untold : w.at ≡ None) (o : Option ℕ) (is : o ≡ first_place (map decoded_range_of ranges) (map decoded_range_of near ++ map decoded_range_of taken) (extent_value w.extent)) where
    pub near_place_is : wanted_place lists (map decoded_range_of behind ++ map decoded_range_of taken) w ≡ o
    near_place_is = ap (λ a. else_at a (place_by_list lists (map decoded_range_of behind ++ map decoded_range_of taken) w)) untold ∙ by_near ∙ sym is

    pub near_ready : (a : ℕ) → o ≡ Some a → (range_from a w.extent.size).last < 2 ^ 64
        → IsWantedReady count lists (map decoded_range_of behind) (map decoded_range_of taken) w (Some (record { extent = w.extent; list = w.list; at = Some a }))
    near_ready a some ends = (
      record { extent = has.extent; list = has.list; ends = ends },
      record { extent = refl; place = sym (near_place_is ∙ some) },
    )

-- what is wanted then, in the words of the lists
module _ (count : ℕ) (lists behind : List (List Range)) (taken off slice : List Range) (w : Wanted) (n : ℕ) (off_is : off ≡ get_or behind n []) (lent : slice ≡ taken) where
  pub ready_is : (o : Option Wanted) → IsWantedReady count lists (map decoded_range_of off) (map decoded_range_of slice) w o
      → IsWantedReady count lists (map decoded_range_of (get_or behind n [])) (map decoded_range_of taken) w o
  ready_is o is =
      subst (λ xs. IsWantedReady count lists (map decoded_range_of (get_or behind n [])) (map decoded_range_of xs) w o) lent
      (subst (λ xs. IsWantedReady count lists (map decoded_range_of xs) (map decoded_range_of slice) w o) off_is is)

  pub ready_none : (o : Option Wanted) → o ≡ None → IsWantedReady count lists (map decoded_range_of off) (map decoded_range_of slice) w o
      → None ≡ wanted_place lists (map decoded_range_of (get_or behind n []) ++ map decoded_range_of taken) w
  ready_none o none is = sym (subst (IsWantedReady count lists (map decoded_range_of (get_or behind n [])) (map decoded_range_of taken) w) none (ready_is o is))

  pub ready_some : (o : Option Wanted) (ready : Wanted) → o ≡ Some ready → IsWantedReady count lists (map decoded_range_of off) (map decoded_range_of slice) w o
      → IsWantedReady count lists (map decoded_range_of (get_or behind n [])) (map decoded_range_of taken) w (Some ready)
  ready_some o ready some is = subst (IsWantedReady count lists (map decoded_range_of (get_or behind n [])) (map decoded_range_of taken) w) some (ready_is o is)
