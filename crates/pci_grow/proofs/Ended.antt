-- The walk along a row to the range that ends later.
use Rattle.std.proofs.Common.{◌≡◌, ℕ, ◌+◌, ◌<◌, ◌≤◌, inl, inr, List, length, set, get_or, arith, ap, sym, ◌∙◌}
use Rattle.std.specs.Bool.{◌==◌}
use Rattle.std.proofs.lemmas.Bool.{cases_Bool, cases_lt, both_ways, eqb-true, eq-eqb}
use Rattle.std.proofs.lemmas.List.{length-set, get_or-set_same, get_or-set_other, get_or_default}
use Rattle.pci_base.specs.declared.range.Range.{Range}
use Rattle.pci_first_fit.specs.Spots.{FirstsRise}
use Rattle.pci_grow.specs.LastPlaces.{LastsRise}

-- no range before an index is the window
pub record IsPast (row old : List Range) (window : Range) (index : ℕ) : Type 0 where
  pub same : row ≡ old
  pub none : (k : ℕ) (d : Range) → k < index → get_or old k d ≡ window → ⊥

-- where one ends later all begin where they did
module _ (old : List Range) (index last : ℕ) (d : Range) (within : index < length old) where
  abbrev later : List Range
  later = set old index (record { first = (get_or old index d).first; last = last })

  first_same : (n : ℕ) (e : Range) → n < length old → (get_or later n e).first ≡ (get_or old n e).first
  first_same n e in_row = elim (cases_lt n index) [
    | inl under ↦ (let other : n ≡ index → ⊥ = λ same. (let no : ⊥ = omega (arith, under, same) in no) in ap (λ (r : Range). r.first) (get_or-set_other old index n _ e other))
    | inr from ↦ elim (cases_lt index n) [
      | inl over ↦ (let other : n ≡ index → ⊥ = λ same. (let no : ⊥ = omega (arith, over, same) in no) in ap (λ (r : Range). r.first) (get_or-set_other old index n _ e other))
      | inr up ↦
          let same : n ≡ index = omega (arith, from, up) in
          ap (λ m. (get_or later m e).first) same
          ∙ ap (λ (r : Range). r.first) (get_or-set_same old index (record { first = (get_or old index d).first; last = last }) e within)
          ∙ ap (λ (r : Range). r.first) (get_or_default old index d e within)
          ∙ sym (ap (λ m. (get_or old m e).first) same)
    ]
  ]

  pub later_order : FirstsRise old → FirstsRise later
  later_order order j k e less inside =
      let long : length later ≡ length old = length-set old index (record { first = (get_or old index d).first; last = last }) in
      let was = order j k e less (omega (arith, inside, long)) in
      let at_j = first_same j e (omega (arith, less, inside, long)) in
      let at_k = first_same k e (omega (arith, inside, long)) in
      omega (arith, was, at_j, at_k)

-- and last addresses rise, where the one behind it ends no earlier
module _ (old : List Range) (index last : ℕ) (d : Range) (within : index < length old) (own : (get_or old index d).last ≤ last) (next : index + 1 < length old → last ≤ (get_or old (index + 1) d).last) where
  abbrev ended : List Range
  ended = set old index (record { first = (get_or old index d).first; last = last })

  other_last : (n : ℕ) (e : Range) → (n ≡ index → ⊥) → (get_or ended n e).last ≡ (get_or old n e).last
  other_last n e other = ap (λ (r : Range). r.last) (get_or-set_other old index n (record { first = (get_or old index d).first; last = last }) e other)

  own_last : (n : ℕ) (e : Range) → n ≡ index → (get_or ended n e).last ≡ last
  own_last n e same = ap (λ m. (get_or ended m e).last) same ∙ ap (λ (r : Range). r.last) (get_or-set_same old index (record { first = (get_or old index d).first; last = last }) e within)

  pub later_lasts : LastsRise old → LastsRise ended
  later_lasts rising j k e less inside_new =
      let long : length ended ≡ length old = length-set old index (record { first = (get_or old index d).first; last = last }) in
      let inside : k < length old = omega (arith, inside_new, long) in
      let was = rising j k e less inside in
      elim (cases_Bool (k == index)) [
        | inl here ↦
            let same = eqb-true k index here in
            let at_k = own_last k e same in
            let not : j ≡ index → ⊥ = λ is. (let no : ⊥ = omega (arith, is, same, less) in no) in
            let at_j = other_last j e not in
            let at_index : (get_or old k e).last ≡ (get_or old index d).last = ap (λ m. (get_or old m e).last) same ∙ ap (λ (r : Range). r.last) (get_or_default old index e d within) in
            omega (arith, was, own, at_k, at_j, at_index)
        | inr other ↦
            let at_k = other_last k e (λ same. both_ways (k == index) other (eq-eqb k index same)) in
            elim (cases_Bool (j == index)) [
              | inl here ↦
                  let same = eqb-true j index here in
                  let at_j = own_last j e same in
                  let up : index + 1 < length old = omega (arith, same, less, inside) in
                  let after = next up in
                  let to_next : (get_or old (index + 1) d).last ≤ (get_or old k e).last = elim (cases_lt (index + 1) k) [
                    | inl over ↦
                        let more = rising (index + 1) k e over inside in
                        let at_next = ap (λ (r : Range). r.last) (get_or_default old (index + 1) e d up) in
                        omega (arith, more, at_next)
                    | inr not_over ↦
                        let one : k ≡ index + 1 = omega (arith, not_over, same, less) in
                        let at_next : (get_or old k e).last ≡ (get_or old (index + 1) d).last = ap (λ m. (get_or old m e).last) one ∙ ap (λ (r : Range). r.last) (get_or_default old (index + 1) e d up) in
                        omega (arith, at_next)
                  ] in
                  omega (arith, at_k, at_j, after, to_next)
              | inr apart ↦
                  let at_j = other_last j e (λ same. both_ways (j == index) apart (eq-eqb j index same)) in
                  omega (arith, at_k, at_j, was)
            ]
      ]
