-- Where last addresses rise too, one range tells whether a row is free up to an address.
use Rattle.std.proofs.Common.{◌≡◌, ℕ, ◌+◌, ◌-◌, ◌<◌, ◌≤◌, inl, inr, List, length, get_or, arith, ap, subst, ◌∙◌, true, false, Bool}
use Rattle.std.specs.Bool.{nat_lt}
use Rattle.std.specs.List.{list_all}
use Rattle.std.proofs.lemmas.Bool.{cases_lt, or_left, or_right, lt-ltb, ltb-true, or_cases, false_from_ne_true}
use Rattle.std.proofs.lemmas.List.{get_or_default}
use Rattle.std.proofs.lemmas.List.Elements.{Contains-get_or}
use Rattle.pci_spec.proofs.BusRanges.{all_gives, all_from}
use Rattle.settle_spec.specs.FirstPlace.{ranges_are_apart}
use Rattle.settle_spec.specs.Wishes.{gained}
use Rattle.pci_base.specs.declared.range.Range.{Range}
use Rattle.pci_base.specs.Ranges.{decoded_range_of}
use Rattle.pci_grow.specs.LastPlaces.{LastsRise}

module _ (row : List Range) (window : Range) (last index : ℕ) (before : (k : ℕ) (d : Range) → k < index → (get_or row k d).first ≤ last) (after : (k : ℕ) (d : Range) → index ≤ k → k < length row → last < (get_or row k d).first) where
  abbrev is_off : Range → Bool
  is_off r = ranges_are_apart (gained (decoded_range_of window) last) (decoded_range_of r)

  off_above : (r : Range) → last < r.first → is_off r ≡ true
  off_above r above = or_left (nat_lt last r.first) (nat_lt r.last (window.last + 1)) (lt-ltb last r.first above)

  off_below : (r : Range) → r.last ≤ window.last → is_off r ≡ true
  off_below r below = or_right (nat_lt last r.first) (nat_lt r.last (window.last + 1)) (lt-ltb r.last (window.last + 1) (omega (arith, below)))

  pub free_by : ((k : ℕ) (d : Range) → k < index → k < length row → (get_or row k d).last ≤ window.last) → list_all is_off row ≡ true
  free_by low = all_from is_off row (λ r (k, within, is). elim (cases_lt k index) [
    | inl less ↦ off_below r (subst (λ (x : Range). x.last ≤ window.last) is (low k r less within))
    | inr from ↦ off_above r (subst (λ (x : Range). last < x.first) is (after k r from within))
  ])

  -- the range before the index has the highest last address of those before it
  pub free_if : LastsRise row → (d : Range) → 0 < index → index ≤ length row → (get_or row (index - 1) d).last ≤ window.last → list_all is_off row ≡ true
  free_if rising d some within low = free_by (λ k e less inside. elim (cases_lt k (index - 1)) [
    | inl under ↦
        let more = rising k (index - 1) e under (omega (arith, within, some)) in
        let same = ap (λ (r : Range). r.last) (get_or_default row (index - 1) e d (omega (arith, within, some))) in
        omega (arith, more, same, low)
    | inr from ↦
        let one : k ≡ index - 1 = omega (arith, from, less) in
        let same = ap (λ n. (get_or row n e).last) one ∙ ap (λ (r : Range). r.last) (get_or_default row (index - 1) e d (omega (arith, within, some))) in
        omega (arith, same, low)
  ])

  pub taken_if : (d : Range) → 0 < index → index ≤ length row → window.last < (get_or row (index - 1) d).last → list_all is_off row ≡ false
  taken_if d some within high = false_from_ne_true (list_all is_off row) (λ all.
      let r = get_or row (index - 1) d in
      let first = before (index - 1) d (omega (arith, some)) in
      let is = all_gives is_off row all r (Contains-get_or row (index - 1) d (omega (arith, within, some))) in
      elim (or_cases (nat_lt last r.first) (nat_lt r.last (window.last + 1)) is) [
        | inl above ↦ (let less = ltb-true last r.first above in let no : ⊥ = omega (arith, less, first) in no)
        | inr below ↦ (let less = ltb-true r.last (window.last + 1) below in let no : ⊥ = omega (arith, less, high) in no)
      ])
