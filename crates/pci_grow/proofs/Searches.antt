-- Searches around a window go on when more is taken.
use Rattle.std.proofs.Common.{◌≡◌, ℕ, ◌+◌, ◌-◌, ◌<◌, ◌≤◌, ◌^◌, List, [], ◌∷◌, map, length, get_or, arith, ap, sym, subst, ◌∙◌, refl, true, false, Bool, cond, Option, None, Some, IfSome}
use Rattle.std.specs.Bool.{IsTrue, nat_lt}
use Rattle.std.specs.List.{Contains, insert}
use Rattle.std.proofs.lemmas.Bool.{true≢false, false_from_ne_true}
use Rattle.std.proofs.lemmas.Option.{none-some}
use Rattle.std.proofs.lemmas.List.Edits.{length-insert}
use Rattle.pci_spec.proofs.Members.{in_tail}
use Rattle.settle_spec.specs.FirstPlace.{is_place, first_place_in, first_place, else_at}
use Rattle.settle_spec.specs.LastPlace.{last_place_in}
use Rattle.settle_spec.specs.Growth.{place_around}
use Rattle.settle_spec.specs.PlacingLaws.{TakesMore}
use Rattle.settle_spec.proofs.MoreTaken.{same_extent, none_in}
use Rattle.pci_base.specs.declared.range.Range.{Range}
use Rattle.pci_base.specs.Ranges.{decoded_range_of}
use Rattle.pci_first_fit.specs.declared.extent.Extent.{Extent}
use Rattle.pci_first_fit.specs.declared.spot.Spot.{Spot}
use Rattle.pci_first_fit.specs.declared.spot.Start.{Start}
use Rattle.pci_first_fit.specs.Spots.{extent_value, IsExtent, AreRisingRanges, extent_range, IsBetweenTaken, IsPutIn}
use Rattle.pci_first_fit.proofs.Inserted.{Under, At, Over, find_where, inserted}
use Rattle.pci_first_fit.proofs.AllPlaced.{put_same}
use Rattle.pci_first_fit.proofs.Cursors.{start_stays}
use Rattle.pci_grow.specs.declared.around.Around.{Around}
use Rattle.pci_grow.specs.declared.around.Search.{Search}
use Rattle.pci_grow.specs.declared.last_place.LateSpot.{LateSpot}
use Rattle.pci_grow.specs.LastPlaces.{LastsRise, IsDescended, IsLateSpotAt}
use Rattle.pci_grow.specs.Arounds.{onward, backward, last_place_of, IsFirstSearch, IsLastSearch, IsSearch, IsBelowLateSearch, AreRisingAtBothEnds}
use Rattle.pci_grow.proofs.Places.{place_gives, place_from}
use Rattle.pci_grow.proofs.Late.{none_there}

-- ---- last addresses still rise

module _ (xs : List Range) (e : Extent) (s : Spot) (listed : AreRisingAtBothEnds xs) (between : IsBetweenTaken xs e s) where
  abbrev new : List Range
  new = insert xs s.index (extent_range e s.at)

  long : length new ≡ length xs + 1
  long = length-insert xs s.index (extent_range e s.at) between.within

  inserted_lasts : LastsRise new
  inserted_lasts j k d less within =
      let more = long in
      elim (find_where xs (extent_range e s.at) s.index k between.within) [
        | Under k_under k_is ↦ elim (find_where xs (extent_range e s.at) s.index j between.within) [
          | Under j_under j_is ↦ subst (λ (x : Range). x.last ≤ (get_or new k d).last) (sym (j_is d)) (subst (λ (x : Range). (get_or xs j d).last ≤ x.last) (sym (k_is d)) (listed.lasts j k d less (let w = between.within in omega (arith, k_under, w))))
          | At j_at j_is ↦ absurd (let no : ⊥ = omega (arith, j_at, less, k_under) in no)
          | Over i j_over j_low j_is ↦ absurd (let no : ⊥ = omega (arith, j_over, j_low, less, k_under) in no)
        ]
        | At k_at k_is ↦ elim (find_where xs (extent_range e s.at) s.index j between.within) [
          | Under j_under j_is ↦
              let below = between.below j d j_under in
              subst (λ (x : Range). x.last ≤ (get_or new k d).last) (sym (j_is d)) (subst (λ (x : Range). (get_or xs j d).last ≤ x.last) (sym (k_is d)) (omega (arith, below)))
          | At j_at j_is ↦ absurd (let no : ⊥ = omega (arith, j_at, less, k_at) in no)
          | Over i j_over j_low j_is ↦ absurd (let no : ⊥ = omega (arith, j_over, j_low, less, k_at) in no)
        ]
        | Over h k_over k_low k_is ↦
            let inside : h < length xs = omega (arith, within, more, k_over) in
            elim (find_where xs (extent_range e s.at) s.index j between.within) [
              | Under j_under j_is ↦ subst (λ (x : Range). x.last ≤ (get_or new k d).last) (sym (j_is d)) (subst (λ (x : Range). (get_or xs j d).last ≤ x.last) (sym (k_is d)) (listed.lasts j h d (omega (arith, j_under, k_low)) inside))
              | At j_at j_is ↦
                  let above = between.above h d k_low inside in
                  let forward = listed.rising.forward h d inside in
                  subst (λ (x : Range). x.last ≤ (get_or new k d).last) (sym (j_is d)) (subst (λ (x : Range). s.at + (e.size - 1) ≤ x.last) (sym (k_is d)) (omega (arith, above, forward)))
              | Over i j_over j_low j_is ↦ subst (λ (x : Range). x.last ≤ (get_or new k d).last) (sym (j_is d)) (subst (λ (x : Range). (get_or xs i d).last ≤ x.last) (sym (k_is d)) (listed.lasts i h d (omega (arith, j_over, k_over, less)) inside))
            ]
      ]

  pub still_in_order : AreRisingAtBothEnds new
  still_in_order = record { rising = inserted xs e s listed.rising between; lasts = inserted_lasts }

-- ---- where searches for last places have come

module _ (old new : List Range) (d : Extent) (at : Spot) (put : IsPutIn old new d at) where
  takes_more : TakesMore (map decoded_range_of old) (map decoded_range_of new)
  takes_more t has =
      subst (λ xs. Contains (map decoded_range_of xs) t) (sym put.put)
      ((put_same old at.index (extent_range d at.at) put.between.within).to t (in_tail (decoded_range_of (extent_range d at.at)) (map decoded_range_of old) t has))

  -- a place beside more is one beside less
  less_place : (r : Range) (e : Extent) (b : ℕ) → IsTrue (is_place (decoded_range_of r) (map decoded_range_of new) (extent_value e) b) → IsTrue (is_place (decoded_range_of r) (map decoded_range_of old) (extent_value e) b)
  less_place r e b place =
      let p = place_gives (decoded_range_of r) (map decoded_range_of new) (extent_value e) b place in
      place_from (decoded_range_of r) (map decoded_range_of old) (extent_value e) b (record {
        spot = record { multiple = p.spot.multiple; from = p.spot.from; free = λ t listed. p.spot.free t (takes_more t listed) };
        last = p.last;
        highest = p.highest;
      })

  longer : length new ≡ length old + 1
  longer = ap length put.put ∙ length-insert old at.index (extent_range d at.at) put.between.within

  pub descended_stays : (r : Range) (e : Extent) (a above : ℕ) → at.index + above ≤ length old → IsDescended r old e a above → IsDescended r new e a above
  descended_stays r e a above low is =
      let more = longer in
      let within = is.within in
      record {
        multiple = is.multiple;
        last = is.last;
        highest = is.highest;
        greatest = λ b place. is.greatest b (less_place r e b place);
        within = omega (arith, more, within);
        higher = λ k c from less. subst (λ xs. a + (e.size - 1) < (get_or xs k c).first) (sym put.put)
            (elim (find_where old (extent_range d at.at) at.index k put.between.within) [
              | Under under is_there ↦ absurd (let no : ⊥ = omega (arith, under, from, more, low) in no)
              | At here is_there ↦ absurd (let no : ⊥ = omega (arith, here, from, more, low) in no)
              | Over j over past is_there ↦ subst (λ (x : Range). a + (e.size - 1) < x.first) (sym (is_there c)) (is.higher j c (omega (arith, over, from, more)) (omega (arith, over, less, more)))
            ]);
      }

-- ---- both searches

module _ (old new : List Range) (d : Extent) (at : Spot) (listed : AreRisingRanges old) (put : IsPutIn old new d at) (a : Around) where
  first_stays : (r : Range) (e : Extent) (s : Option Start) → IsExtent e → IsFirstSearch r old e s → IsFirstSearch r new e s
  first_stays r e None extent is =
      none_in (decoded_range_of r) (map decoded_range_of old) (map decoded_range_of new) (extent_value e) (extent_value e) extent.alignment (takes_more old new d at put) (same_extent (extent_value e)) is
  first_stays r e (Some s) extent is = start_stays old new d at listed put (r ∷ []) e s extent is

  last_stays : (o : Option Range) (e : Extent) (l : Option LateSpot) → ((s : LateSpot) → l ≡ Some s → at.index + s.above ≤ length old) → IsLastSearch o old e l → IsLastSearch o new e l
  last_stays None e l low is = tt
  last_stays (Some r) e None low is = λ b.
      false_from_ne_true (is_place (decoded_range_of r) (map decoded_range_of new) (extent_value e) b) (λ place. true≢false (sym (less_place old new d at put r e b place) ∙ is b))
  last_stays (Some r) e (Some s) low is = descended_stays old new d at put r e s.at s.above (low s refl) is

  pub search_stays : (s : Search) → IsBelowLateSearch old s at → IsSearch a old s → IsSearch a new s
  search_stays s low is = record {
    extent = is.extent;
    first = first_stays (onward a) s.extent s.first is.extent is.first;
    last = last_stays (backward a) s.extent s.last (λ l some. subst (λ o. IfSome o (λ (late : LateSpot). at.index + late.above ≤ length old)) some low) is.last;
    begun = is.begun;
  }

-- ---- what they find

one_place : (o : Option ℕ) → else_at o None ≡ o
one_place None = refl
one_place (Some a) = refl

-- the first place in a list of one range
pub in_one : (r : Range) (taken : List Range) (e : Extent) → first_place (decoded_range_of r ∷ []) (map decoded_range_of taken) (extent_value e) ≡ first_place_in (decoded_range_of r) (map decoded_range_of taken) (extent_value e)
in_one r taken e = one_place (first_place_in (decoded_range_of r) (map decoded_range_of taken) (extent_value e))

last_by : (b : Bool) (r : Range) (taken : List Range) (e : Extent)
    → cond b (last_place_in (decoded_range_of r) (map decoded_range_of taken) (extent_value e)) None ≡ last_place_of (cond b (Some r) None) taken e
last_by true r taken e = refl
last_by false r taken e = refl

module _ (a : Around) (taken : List Range) (e : Extent) where
  abbrev around : Option ℕ
  around = place_around (decoded_range_of a.window) (decoded_range_of a.reach) (map decoded_range_of taken) (extent_value e)

  abbrev first : Option ℕ
  first = first_place_in (decoded_range_of (onward a)) (map decoded_range_of taken) (extent_value e)

  abbrev rest : Option ℕ
  rest =
      cond (nat_lt a.reach.first a.window.first)
      (last_place_in (decoded_range_of (record { first = a.reach.first; last = a.window.first - 1 })) (map decoded_range_of taken) (extent_value e)) None

  pub around_first : (at : ℕ) → first ≡ Some at → around ≡ Some at
  around_first at found = ap (λ o. else_at o rest) found

  pub around_last : first ≡ None → around ≡ last_place_of (backward a) taken e
  around_last none = ap (λ o. else_at o rest) none ∙ last_by (nat_lt a.reach.first a.window.first) (record { first = a.reach.first; last = a.window.first - 1 }) taken e

-- a last place lies between what is taken
pub late_between : (r : Range) (taken : List Range) (e : Extent) (s : LateSpot) (index : ℕ) → r.last < 2 ^ 64 → IsLateSpotAt r taken e s → index ≡ length taken - s.above → IsBetweenTaken taken e (record { at = s.at; index = index })
late_between r taken e s index small is index_is =
    let in_last = is.descended.last in
    let within = is.descended.within in
    record {
      ends = omega (arith, in_last, small);
      within = omega (arith, index_is);
      below = λ k d less. is.lower k d (omega (arith, less, index_is, within));
      above = λ k d from less. is.descended.higher k d (omega (arith, from, index_is, within)) less;
    }

-- where no search is left there is no last place
pub no_last : (o : Option Range) (taken : List Range) (e : Extent) (l : Option LateSpot) → IsExtent e → l ≡ None → IsLastSearch o taken e l → last_place_of o taken e ≡ None
no_last None taken e l extent none is = refl
no_last (Some r) taken e None extent none is = none_there r taken e extent is
no_last (Some r) taken e (Some s) extent none is = absurd (none-some s (sym none))
