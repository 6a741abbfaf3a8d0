-- Those of some regions of which P holds.
use Rattle.std.proofs.Common.{◌≡◌, ℕ, ◌+◌, ◌<◌, List, [], ◌∷◌, ◌++◌, take, length, get_or, sym, ap, ◌∙◌, subst, inl, inr}
use Rattle.std.specs.List.{AllPairs, Contains}
use Rattle.std.proofs.lemmas.List.{take_more}
use Rattle.std.proofs.lemmas.List.Elements.{Contains-append_cases, Contains-append_left, Contains-append_right}
use Rattle.pci_spec.specs.System.{Space}
use Rattle.pci_spec.proofs.Members.{in_nil, in_cons_cases, in_head, pairs_nil, pairs_cons, pairs_head, pairs_tail, pairs_append}
use Rattle.pci_map.specs.declared.seat.Seat.{Seat}
use Rattle.pci_map.specs.Seats.{SeatIsBefore, AreFilteredSeats}

module _ {X : Type 0} (R : X → X → Type 0) where
  pairs_front : (xs ys : List X) → AllPairs R (xs ++ ys) → AllPairs R xs
  pairs_front [] ys pairs = pairs_nil R
  pairs_front (x ∷ xs) ys pairs =
      pairs_cons R x xs (λ y has. pairs_head R x (xs ++ ys) y pairs (Contains-append_left xs ys y has)) (pairs_front xs ys (pairs_tail R x (xs ++ ys) pairs))

  pairs_last : (xs : List X) (y : X) → AllPairs R (xs ++ y ∷ []) → (x : X) → Contains xs x → R x y
  pairs_last [] y pairs x has = absurd (in_nil x has)
  pairs_last (z ∷ xs) y pairs x has = elim (in_cons_cases z xs x has) [
    | inl here ↦ subst (λ w. R w y) here (pairs_head R z (xs ++ y ∷ []) y pairs (Contains-append_right xs (y ∷ []) y (in_head y [])))
    | inr later ↦ pairs_last xs y (pairs_tail R z (xs ++ y ∷ []) pairs) x later
  ]

module _ (P : Seat → Type 0) (space : Space) where
  pub all_kept : (qs : List Seat) → ((q : Seat) → Contains qs q → P q) → AreFilteredSeats P space qs qs
  all_kept qs hold = record { each = λ q has. has; hold = hold; complete = λ q has p. has; sorted = λ sorted. sorted }

  pub none_kept : AreFilteredSeats P space [] []
  none_kept = all_kept [] (λ q has. absurd (in_nil q has))

  kept : (qs out : List Seat) (q : Seat) → P q → AreFilteredSeats P space qs out → AreFilteredSeats P space (qs ++ q ∷ []) (out ++ q ∷ [])
  kept qs out q holds was = record {
    each = λ p has. elim (Contains-append_cases out (q ∷ []) p has) [
      | inl early ↦ Contains-append_left qs (q ∷ []) p (was.each p early)
      | inr late ↦ Contains-append_right qs (q ∷ []) p late
    ];
    hold = λ p has. elim (Contains-append_cases out (q ∷ []) p has) [
      | inl early ↦ was.hold p early
      | inr late ↦ elim (in_cons_cases q [] p late) [
        | inl here ↦ subst P here holds
        | inr none ↦ absurd (in_nil p none)
      ]
    ];
    complete = λ p has so. elim (Contains-append_cases qs (q ∷ []) p has) [
      | inl early ↦ Contains-append_left out (q ∷ []) p (was.complete p early so)
      | inr late ↦ Contains-append_right out (q ∷ []) p late
    ];
    sorted = λ sorted. pairs_append (SeatIsBefore space) out (q ∷ []) (was.sorted (pairs_front (SeatIsBefore space) qs (q ∷ []) sorted)) (pairs_cons (SeatIsBefore space) q [] (λ y none. absurd (in_nil y none)) (pairs_nil (SeatIsBefore space)))
        (λ x y has one. elim (in_cons_cases q [] y one) [
          | inl here ↦ subst (λ z. SeatIsBefore space x z) here (pairs_last (SeatIsBefore space) qs q sorted x (was.each x has))
          | inr none ↦ absurd (in_nil y none)
        ]);
  }

  dropped : (qs out : List Seat) (q : Seat) → (P q → ⊥) → AreFilteredSeats P space qs out → AreFilteredSeats P space (qs ++ q ∷ []) out
  dropped qs out q fails was = record {
    each = λ p has. Contains-append_left qs (q ∷ []) p (was.each p has);
    hold = was.hold;
    complete = λ p has so. elim (Contains-append_cases qs (q ∷ []) p has) [
      | inl early ↦ was.complete p early so
      | inr late ↦ elim (in_cons_cases q [] p late) [
        | inl here ↦ absurd (fails (subst P (sym here) so))
        | inr none ↦ absurd (in_nil p none)
      ]
    ];
    sorted = λ sorted. was.sorted (pairs_front (SeatIsBefore space) qs (q ∷ []) sorted);
  }

  module _ (qs : List Seat) (k : ℕ) (q : Seat) (within : k < length qs) (at : q ≡ get_or qs k q) where
    split : take k qs ++ q ∷ [] ≡ take (k + 1) qs
    split = ap (λ x. take k qs ++ x ∷ []) at ∙ sym (take_more qs k q within)

    pub one_kept : (out new : List Seat) → new ≡ out ++ q ∷ [] → P q → AreFilteredSeats P space (take k qs) out → AreFilteredSeats P space (take (k + 1) qs) new
    one_kept out new is holds was =
        subst (λ xs. AreFilteredSeats P space xs new) split (subst (AreFilteredSeats P space (take k qs ++ q ∷ [])) (sym is) (kept (take k qs) out q holds was))

    pub one_dropped : (out new : List Seat) → new ≡ out → (P q → ⊥) → AreFilteredSeats P space (take k qs) out → AreFilteredSeats P space (take (k + 1) qs) new
    one_dropped out new is fails was =
        subst (λ xs. AreFilteredSeats P space xs new) split (subst (AreFilteredSeats P space (take k qs ++ q ∷ [])) (sym is) (dropped (take k qs) out q fails was))
