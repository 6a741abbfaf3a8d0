-- Places hang on which addresses are taken, however these are listed.
use Rattle.std.proofs.Common.{◌≡◌, ℕ, ◌-◌, ◌<◌, inl, inr, List, [], ◌∷◌, ◌++◌, cond, ap, sym, subst, ◌∙◌, refl, Option, None, Some}
use Rattle.std.specs.Bool.{IsTrue, nat_lt}
use Rattle.std.proofs.lemmas.Bool.{true≢false, false_from_ne_true}
use Rattle.std.proofs.lemmas.List.Elements.{Contains-append_cases, Contains-append_left, Contains-append_right}
use Rattle.pci_spec.specs.Decoded.{Range}
use Rattle.settle_spec.specs.FirstPlace.{Extent, is_spot, is_place, ends_by, first_spot, first_place_in, else_at}
use Rattle.settle_spec.specs.LastPlace.{last_place_in}
use Rattle.settle_spec.specs.Growth.{place_around}
use Rattle.settle_spec.proofs.FirstSpot.{spot_gives, spot_from, least_spot, only_least}
use Rattle.settle_spec.proofs.SameTaken.{HaveSame}
use Rattle.pci_grow.specs.Grounds.{AreAlike}
use Rattle.pci_grow.proofs.Places.{place_gives, place_from, last_gives, last_from, none_gives, none_from}

pub alike_same : (xs ys : List Range) → HaveSame xs ys → AreAlike xs ys
alike_same xs ys same = record {
  to = λ size a off t has. off t (same.back t has);
  back = λ size a off t has. off t (same.to t has);
}

pub alike_itself : {xs ys : List Range} → xs ≡ ys → AreAlike xs ys
alike_itself {xs} {ys} same = subst (AreAlike xs) same record { to = λ size a off. off; back = λ size a off. off }

pub alike_swap : (xs ys : List Range) → AreAlike xs ys → AreAlike ys xs
alike_swap xs ys alike = record { to = alike.back; back = alike.to }

pub alike_trans : (xs ys zs : List Range) → AreAlike xs ys → AreAlike ys zs → AreAlike xs zs
alike_trans xs ys zs one other = record {
  to = λ size a off. other.to size a (one.to size a off);
  back = λ size a off. one.back size a (other.back size a off);
}

pub alike_append : (us xs ys : List Range) → AreAlike xs ys → AreAlike (us ++ xs) (us ++ ys)
alike_append us xs ys alike = record {
  to = λ size a off t has. elim (Contains-append_cases us ys t has) [
    | inl left ↦ off t (Contains-append_left us xs t left)
    | inr right ↦ alike.to size a (λ u in_xs. off u (Contains-append_right us xs u in_xs)) t right
  ];
  back = λ size a off t has. elim (Contains-append_cases us xs t has) [
    | inl left ↦ off t (Contains-append_left us ys t left)
    | inr right ↦ alike.back size a (λ u in_ys. off u (Contains-append_right us ys u in_ys)) t right
  ];
}

pub alike_cons : (x : Range) (xs ys : List Range) → AreAlike xs ys → AreAlike (x ∷ xs) (x ∷ ys)
alike_cons x xs ys alike = alike_append (x ∷ []) xs ys alike

-- ---- places

spot_alike : (low : ℕ) (xs ys : List Range) (e : Extent) (b : ℕ) → AreAlike xs ys → IsTrue (is_spot low xs e b) → IsTrue (is_spot low ys e b)
spot_alike low xs ys e b alike spot =
    let free = spot_gives low xs e b spot in
    spot_from low ys e b (record { multiple = free.multiple; from = free.from; free = alike.to e.size b free.free })

alike_spot : (low : ℕ) (xs ys : List Range) (e : Extent) → 0 < e.alignment → AreAlike xs ys → first_spot low xs e ≡ first_spot low ys e
alike_spot low xs ys e pos alike =
    let first = least_spot low ys e pos in
    only_least low xs e (first_spot low ys e) pos (record {
      free = spot_alike low ys xs e (first_spot low ys e) (alike_swap xs ys alike) first.free;
      least = λ b spot. first.least b (spot_alike low xs ys e b alike spot);
    })

alike_first : (r : Range) (xs ys : List Range) (e : Extent) → 0 < e.alignment → AreAlike xs ys → first_place_in r xs e ≡ first_place_in r ys e
alike_first r xs ys e pos alike = ap (λ n. cond (ends_by r e n) (Some n) None) (alike_spot r.first xs ys e pos alike)

alike_place : (r : Range) (xs ys : List Range) (e : Extent) (b : ℕ) → AreAlike xs ys → IsTrue (is_place r xs e b) → IsTrue (is_place r ys e b)
alike_place r xs ys e b alike place =
    let p = place_gives r xs e b place in
    place_from r ys e b (record {
      spot = record { multiple = p.spot.multiple; from = p.spot.from; free = alike.to e.size b p.spot.free };
      last = p.last;
      highest = p.highest;
    })

alike_last : (r : Range) (xs ys : List Range) (e : Extent) → 0 < e.size → 0 < e.alignment → AreAlike xs ys → last_place_in r xs e ≡ last_place_in r ys e
alike_last r xs ys e some pos alike = by (last_place_in r xs e) refl
  where
    by : (o : Option ℕ) → last_place_in r xs e ≡ o → last_place_in r xs e ≡ last_place_in r ys e
    by None none = none ∙ sym (none_from r ys e some pos (λ b. false_from_ne_true (is_place r ys e b) (λ place.
        true≢false (sym (alike_place r ys xs e b (alike_swap xs ys alike) place) ∙ none_gives r xs e some pos none b))))
    by (Some a) found =
        let is = last_gives r xs e some pos a found in
        found ∙ sym (last_from r ys e some pos a (record {
          place = alike_place r xs ys e a alike is.place;
          greatest = λ b place. is.greatest b (alike_place r ys xs e b (alike_swap xs ys alike) place);
        }))

pub alike_around : (w reach : Range) (e : Extent) (xs ys : List Range) → 0 < e.size → 0 < e.alignment → AreAlike xs ys → place_around w reach xs e ≡ place_around w reach ys e
alike_around w reach e xs ys some pos alike =
    ap (λ o. else_at o (before xs)) (alike_first (record { first = w.first; last = reach.last }) xs ys e pos alike)
    ∙ ap (else_at (first_place_in (record { first = w.first; last = reach.last }) ys e))
    (ap (λ o. cond (nat_lt reach.first w.first) o None) (alike_last (record { first = reach.first; last = w.first - 1 }) xs ys e some pos alike))
  where
    before : List Range → Option ℕ
    before xs = cond (nat_lt reach.first w.first) (last_place_in (record { first = reach.first; last = w.first - 1 }) xs e) None
