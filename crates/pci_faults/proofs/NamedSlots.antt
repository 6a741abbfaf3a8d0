-- Slots of told ranges, one range after another.
use Rattle.std.proofs.Common.{◌≡◌, ◌⊎◌, ℕ, ◌+◌, ◌-◌, ◌<◌, ◌≤◌, inl, inr, List, [], ◌∷◌, ◌++◌, length, get_or, take, Some, sym, ◌∙◌, ap, subst, arith}
use Rattle.std.specs.List.{Contains, slice_get}
use Rattle.std.proofs.lemmas.Bool.{cases_lt}
use Rattle.std.proofs.lemmas.List.{get_or-take, get_or_default, length-take-le, take_more}
use Rattle.std.proofs.lemmas.List.Elements.{All-contains, Contains-get_or, Contains-push, Contains-push_cases, Contains-append_left}
use Rattle.std.proofs.lemmas.List.Quantifiers.{all_pairs_push}
use Rattle.std.proofs.lemmas.Option.{slice_get-get_or, slice_get_within, get_or_from_slice_get}
use Rattle.pci_spec.specs.Slot.{Slot, IsSlot, slot_number}
use Rattle.pci_spec.proofs.Members.{in_nil, pairs_nil}
use Rattle.pci_spec.proofs.Regions.{slot_number-same}
use Rattle.judge_spec.specs.Told.{ToldRange, IsToldRange, IsTold}
use Rattle.pci_faults.specs.Before.{IsOfSome, AreSlotsOf, IsLast, IsSlotAdded}

abbrev number_of : ToldRange → ℕ
number_of r = slot_number r.slot

-- the last slot of a list is in it
in_last : (slots : List Slot) (slot : Slot) → IsLast slots slot → Contains slots slot
in_last slots slot is = (length slots - 1, slice_get_within slots (length slots - 1) slot is, get_or_from_slice_get slots (length slots - 1) slot slot is)

module _ (Is : ToldRange → Type 0) where
  pub slots_none : AreSlotsOf Is [] []
  slots_none = record {
    each = λ slot has. absurd (in_nil slot has);
    complete = λ slot is. absurd (in_nil is.r is.is_told);
    rising = pairs_nil (λ slot other. slot_number slot < slot_number other);
  }

  module _ (rs : List ToldRange) (i : ℕ) (r : ToldRange) (within : i < length rs) (at : r ≡ get_or rs i r) (slots : List Slot) (all : AreSlotsOf Is (take i rs) slots) where
    split : take (i + 1) rs ≡ take i rs ++ r ∷ []
    split = take_more rs i r within ∙ ap (λ y. take i rs ++ y ∷ []) (sym at)

    to_more : (slot : Slot) → IsOfSome Is (take i rs) slot → IsOfSome Is (take (i + 1) rs) slot
    to_more slot is = record {
      r = is.r;
      is_told = subst (λ l. Contains l is.r) (sym split) (Contains-append_left (take i rs) (r ∷ []) is.r is.is_told);
      of_slot = is.of_slot;
      is = is.is;
    }

    from_more : (slot : Slot) → IsOfSome Is (take (i + 1) rs) slot → IsOfSome Is (take i rs) slot ⊎ (Is r × (r.slot ≡ slot))
    from_more slot is = elim (Contains-push_cases (take i rs) r is.r (subst (λ l. Contains l is.r) split is.is_told)) [
      | inl old ↦ inl record { r = is.r; is_told = old; of_slot = is.of_slot; is = is.is }
      | inr same ↦ inr (subst Is (sym same) is.is, ap (λ (q : ToldRange). q.slot) same ∙ is.of_slot)
    ]

    -- the range is of another kind
    pub slots_less : (Is r → ⊥) → AreSlotsOf Is (take (i + 1) rs) slots
    slots_less other = record {
      each = λ slot has. to_more slot (all.each slot has);
      complete = λ slot is. elim (from_more slot is) [
        | inl old ↦ all.complete slot old
        | inr here ↦ absurd (other here.0)
      ];
      rising = all.rising;
    }

    -- its slot is there
    slots_same : IsLast slots r.slot → AreSlotsOf Is (take (i + 1) rs) slots
    slots_same last = record {
      each = λ slot has. to_more slot (all.each slot has);
      complete = λ slot is. elim (from_more slot is) [
        | inl old ↦ all.complete slot old
        | inr here ↦ subst (λ x. Contains slots x) here.1 (in_last slots r.slot last)
      ];
      rising = all.rising;
    }

    module _ (told : IsTold rs) where
      in_rs : Contains rs r
      in_rs = (i, within, sym at)

      -- no range before it has a higher slot
      low : (q : ToldRange) → Contains (take i rs) q → number_of q ≤ number_of r
      low q (j, less, is) =
          let size = length-take-le i rs (omega (arith, within)) in
          let before : j < i = omega (arith, less, size) in
          let up = told.order j i r (omega (arith, before)) within in
          let one : number_of (get_or rs j r) ≡ number_of q = ap number_of (get_or_default rs j r q (omega (arith, before, within)) ∙ sym (get_or-take i rs j q before) ∙ is) in
          let two : number_of (get_or rs i r) ≡ number_of r = ap number_of (sym at) in
          omega (arith, up, one, two)

      slot_in : (q : ToldRange) → Contains rs q → IsSlot q.slot
      slot_in q has = let is : IsToldRange q = All-contains IsToldRange rs q told.each has in is.line.slot

      low_slot : (slot : Slot) → Contains slots slot → (slot_number slot ≤ number_of r) × IsSlot slot
      low_slot slot has =
          let is = all.each slot has in
          let of_slot = ap slot_number is.of_slot in
          let le = low is.r is.is_told in
          let in_more : Contains (take (i + 1) rs) is.r = subst (λ l. Contains l is.r) (sym split) (Contains-append_left (take i rs) (r ∷ []) is.r is.is_told) in
          (omega (arith, of_slot, le), subst IsSlot is.of_slot (slot_in is.r (in_taken is.r is.is_told)))
        where
          in_taken : (q : ToldRange) → Contains (take i rs) q → Contains rs q
          in_taken q (j, less, is) =
              let size = length-take-le i rs (omega (arith, within)) in
              let before : j < i = omega (arith, less, size) in
              (j, omega (arith, before, within), sym (get_or-take i rs j q before) ∙ is)

      below : (IsLast slots r.slot → ⊥) → (k : ℕ) (d : Slot) → k < length slots → slot_number (get_or slots k d) < number_of r
      below not_last k d inside = elim (cases_lt (k + 1) (length slots)) [
        | inl more ↦ (let up = all.rising k (length slots - 1) d (omega (arith, more)) (omega (arith, inside)) in
            let le = (low_slot (get_or slots (length slots - 1) d) (Contains-get_or slots (length slots - 1) d (omega (arith, inside)))).0 in
            omega (arith, up, le))
        | inr end ↦ (let here = low_slot (get_or slots k d) (Contains-get_or slots k d inside) in
            let le = here.0 in
            elim (cases_lt (slot_number (get_or slots k d)) (number_of r)) [
              | inl less ↦ less
              | inr ge ↦
                  let same = slot_number-same (get_or slots k d) r.slot here.1 (slot_in r in_rs) (omega (arith, le, ge)) in
                  let last : k ≡ length slots - 1 = omega (arith, inside, end) in
                  absurd (not_last (subst (λ n. slice_get slots n ≡ Some r.slot) last (slice_get-get_or slots k d inside ∙ ap Some same)))
            ])
      ]

      -- its slot is a new one
      slots_more : Is r → (IsLast slots r.slot → ⊥) → AreSlotsOf Is (take (i + 1) rs) (slots ++ r.slot ∷ [])
      slots_more is not_last = record {
        each = λ slot has. elim (Contains-push_cases slots r.slot slot has) [
          | inl old ↦ to_more slot (all.each slot old)
          | inr same ↦ record { r = r; is_told = subst (λ l. Contains l r) (sym split) (Contains-push (take i rs) r); of_slot = same; is = is }
        ];
        complete = λ slot some. elim (from_more slot some) [
          | inl old ↦ Contains-append_left slots (r.slot ∷ []) slot (all.complete slot old)
          | inr here ↦ subst (λ x. Contains (slots ++ r.slot ∷ []) x) here.1 (Contains-push slots r.slot)
        ];
        rising = all_pairs_push (λ slot other. slot_number slot < slot_number other) slots r.slot all.rising (λ k d inside. below not_last k d inside);
      }

      pub slots_added : Is r → (new : List Slot) → IsSlotAdded r.slot slots new → AreSlotsOf Is (take (i + 1) rs) new
      slots_added is new (inl (last, same)) = subst (AreSlotsOf Is (take (i + 1) rs)) (sym same) (slots_same last)
      slots_added is new (inr (not_last, more)) = subst (AreSlotsOf Is (take (i + 1) rs)) (sym more) (slots_more is not_last)
