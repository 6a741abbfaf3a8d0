-- Extents are laid out one after another from 0 on.
use Rattle.std.proofs.Common.{◌≡◌, ℕ, zero, suc, ◌+◌, ◌-◌, ◌^◌, ◌<◌, ◌≤◌, max, List, [], ◌∷◌, map, length, drop, get_or, arith, ap, sym, subst, ◌∙◌, refl, Option, None, Some, SomeIff}
use Rattle.std.specs.Bool.{IsTrue}
use Rattle.std.specs.List.{All, insert}
use Rattle.std.proofs.lemmas.List.{at_drop_more, get_or-map, length-map}
use Rattle.pci_spec.specs.Decoded.{Range as DecodedRange}
use Rattle.pci_spec.proofs.Members.{in_head}
use Rattle.plan_spec.specs.Place.{range_from}
use Rattle.settle_spec.specs.FirstPlace.{Extent as ExtentValue, is_spot, first_spot}
use Rattle.settle_spec.specs.Items.{laid_out, end_of}
use Rattle.settle_spec.proofs.FirstSpot.{least_spot, only_least}
use Rattle.settle_spec.proofs.SameTaken.{HaveSame, same_cons, same_first_spot}
use Rattle.settle_spec.proofs.LaidOut.{laid_keeps, greatest_more, end_behind}
use Rattle.pci_base.specs.declared.range.Range.{Range}
use Rattle.pci_base.specs.Ranges.{decoded_range_of}
use Rattle.pci_first_fit.specs.declared.extent.Extent.{Extent}
use Rattle.pci_first_fit.specs.declared.spot.Spot.{Spot}
use Rattle.pci_first_fit.specs.Spots.{extent_value, IsExtent, AreRisingRanges, IsSpotAt, extent_range}
use Rattle.pci_first_fit.specs.Windows.{laid_first, laid_last, IsLaidBy}
use Rattle.pci_first_fit.proofs.AllPlaced.{put_same}

-- ---- one extent

pub laid_none : (taken : List Range) (e : Extent) → IsExtent e
    → ((b : ℕ) → IsTrue (is_spot 0 (map decoded_range_of taken) (extent_value e) b) → 2 ^ 64 ≤ b + (e.size - 1))
    → laid_last taken e + 1 < 2 ^ 64 → ⊥
laid_none taken e extent high low =
    let above = high (laid_first taken e) (least_spot 0 (map decoded_range_of taken) (extent_value e) extent.alignment).free in
    omega (arith, above, low)

pub laid_is : (taken : List Range) (e : Extent) (s : Spot) → IsExtent e → IsSpotAt taken 0 e s → laid_first taken e ≡ s.at
laid_is taken e s extent is = only_least 0 (map decoded_range_of taken) (extent_value e) s.at extent.alignment is.least

pub laid_by : (old new : List Range) (e : Extent) (index : ℕ) → index ≤ length old → new ≡ insert old index (extent_range e (laid_first old e)) → (o : Option ℕ) → IsLaidBy old new e o
laid_by old new e index within put None = tt
laid_by old new e index within put (Some end) = (index, within, put)

-- ---- all of them

pub record IsLaid (extents : List Extent) (taken : List Range) (end n : ℕ) : Type 0 where
  pub listed : AreRisingRanges taken
  pub laid : List DecodedRange
  pub same : HaveSame laid (map decoded_range_of taken)
  pub so_far : laid_out [] (map extent_value extents) ≡ laid_out laid (drop n (map extent_value extents))
  pub ends : end ≡ end_of laid
  pub small : end < 2 ^ 64

pub laid_start : (extents : List Extent) → AreRisingRanges [] → IsLaid extents [] 0 0
laid_start extents listed = record { listed = listed; laid = []; same = record { to = λ t has. has; back = λ t has. has }; so_far = refl; ends = refl; small = omega arith }

same_trans : (xs ys zs : List DecodedRange) → HaveSame xs ys → HaveSame ys zs → HaveSame xs zs
same_trans xs ys zs one two = record { to = λ t has. two.to t (one.to t has); back = λ t has. one.back t (two.back t has) }

module _ (extents : List Extent) (taken : List Range) (end n : ℕ) (is : IsLaid extents taken end n) (lawful : All IsExtent extents) (within : n < length extents) (d : Extent) where
  abbrev now : Extent
  now = get_or extents n d

  abbrev here : DecodedRange
  here = range_from (first_spot 0 is.laid (extent_value now)) now.size

  further : laid_out [] (map extent_value extents) ≡ laid_out (here ∷ is.laid) (drop (n + 1) (map extent_value extents))
  further =
      let long = length-map extents extent_value in
      is.so_far
      ∙ at_drop_more (laid_out is.laid) (map extent_value extents) n (extent_value d) (omega (arith, within, long))
      ∙ ap (λ x. laid_out is.laid (x ∷ drop (n + 1) (map extent_value extents))) (get_or-map extent_value extents n d (extent_value d) within)

  first_same : first_spot 0 is.laid (extent_value now) ≡ laid_first taken now
  first_same = same_first_spot 0 is.laid (map decoded_range_of taken) (extent_value now) (lawful n d within).alignment is.same

  pub laid_next : (new : List Range) (next : ℕ) → AreRisingRanges new → IsLaidBy taken new now (Some next) → next ≡ laid_last taken now + 1 → laid_last taken now + 1 < 2 ^ 64
      → (new_end : ℕ) → new_end ≡ max end next → IsLaid extents new new_end (n + 1)
  laid_next new next listed (index, low, put) next_is limit new_end new_end_is = record {
    listed = listed;
    laid = here ∷ is.laid;
    same = same_trans (here ∷ is.laid) (here ∷ map decoded_range_of taken) (map decoded_range_of new) (same_cons here is.laid (map decoded_range_of taken) is.same)
        (subst (λ a. HaveSame (range_from a now.size ∷ map decoded_range_of taken) (map decoded_range_of new)) (sym first_same)
        (subst (λ ys. HaveSame (decoded_range_of (extent_range now (laid_first taken now)) ∷ map decoded_range_of taken) (map decoded_range_of ys)) (sym put)
        (put_same taken index (extent_range now (laid_first taken now)) low)));
    so_far = further;
    ends =
        let more = greatest_more (here.last + 1) (map (λ (t : DecodedRange). t.last + 1) is.laid) in
        let same_first = first_same in
        let was = is.ends in
        omega (arith, more, same_first, was, next_is, new_end_is);
    small = (let was = is.small in omega (arith, was, next_is, limit, new_end_is));
  }

  pub laid_some : (new : List Range) (o : Option ℕ) (next : ℕ) → AreRisingRanges new → IsLaidBy taken new now o
      → SomeIff o (laid_last taken now + 1 < 2 ^ 64) (laid_last taken now + 1) → o ≡ Some next
      → (new_end : ℕ) → new_end ≡ max end next → IsLaid extents new new_end (n + 1)
  laid_some new o next listed by told is_some new_end new_end_is =
      let pair : (laid_last taken now + 1 < 2 ^ 64) × (next ≡ laid_last taken now + 1) =
      subst (λ x. SomeIff x (laid_last taken now + 1 < 2 ^ 64) (laid_last taken now + 1)) is_some told in
      laid_next new next listed (subst (IsLaidBy taken new now) is_some by) pair.1 pair.0 new_end new_end_is

  pub laid_high : (laid_last taken now + 1 < 2 ^ 64 → ⊥) → end_of (laid_out [] (map extent_value extents)) < 2 ^ 64 → ⊥
  laid_high high low =
      let same_first = first_same in
      let ends = end_behind (laid_out (here ∷ is.laid) (drop (n + 1) (map extent_value extents))) here
      (laid_keeps (here ∷ is.laid) (drop (n + 1) (map extent_value extents)) here (in_head here is.laid)) in
      let less = subst (λ xs. end_of xs < 2 ^ 64) further low in
      high (omega (arith, ends, less, same_first))

  pub laid_lacks : (o : Option ℕ) → SomeIff o (laid_last taken now + 1 < 2 ^ 64) (laid_last taken now + 1) → o ≡ None
      → end_of (laid_out [] (map extent_value extents)) < 2 ^ 64 → ⊥
  laid_lacks o told none = laid_high (subst (λ x. SomeIff x (laid_last taken now + 1 < 2 ^ 64) (laid_last taken now + 1)) none told)

drop_all : (n : ℕ) (xs : List ExtentValue) → length xs ≤ n → drop n xs ≡ []
drop_all zero [] past = refl
drop_all zero (x ∷ xs) past = absurd (let no : ⊥ = omega (arith, past) in no)
drop_all (suc n) [] past = refl
drop_all (suc n) (x ∷ xs) past = drop_all n xs (omega (arith, past))

pub laid_all : (extents : List Extent) (taken : List Range) (end n : ℕ) → IsLaid extents taken end n → length extents ≤ n
    → (end_of (laid_out [] (map extent_value extents)) < 2 ^ 64) × (end ≡ end_of (laid_out [] (map extent_value extents)))
laid_all extents taken end n is past =
    let small = is.small in
    let long = length-map extents extent_value in
    let all : laid_out [] (map extent_value extents) ≡ is.laid = is.so_far ∙ ap (laid_out is.laid) (drop_all n (map extent_value extents) (omega (arith, past, long))) in
    let same : end ≡ end_of (laid_out [] (map extent_value extents)) = is.ends ∙ ap end_of (sym all) in
    (omega (arith, same, small), same)
