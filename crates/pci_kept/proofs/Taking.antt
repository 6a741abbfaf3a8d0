-- A range is taken in a list of ranges between what ends below it and what begins above it.
use Rattle.std.proofs.Common.{◌≡◌, ℕ, ◌+◌, ◌<◌, ◌≤◌, inl, inr, List, length, get_or, arith, sym, ap, subst, true, false, ltb}
use Rattle.std.specs.Bool.{nat_lt}
use Rattle.std.specs.List.{AllWithin, Contains, insert}
use Rattle.std.specs.List.Sorted.{IsPartitionedBy, IsNonDecreasingBy}
use Rattle.std.proofs.lemmas.Bool.{cases_lt, cases_eq, or_left, or_right, or_from, lt-ltb, le-ltb}
use Rattle.std.proofs.lemmas.List.Edits.{length-insert}
use Rattle.std.proofs.lemmas.List.Folds.{list_all_at}
use Rattle.std.proofs.lemmas.List.Sorted.{IsPartitionedBy-ltb}
use Rattle.pci_spec.proofs.BusRanges.{all_from}
use Rattle.settle_spec.specs.FirstPlace.{ranges_are_apart}
use Rattle.pci_base.specs.declared.range.Range.{Range}
use Rattle.pci_base.specs.Ranges.{decoded_range_of}
use Rattle.pci_first_fit.proofs.Inserted.{Under, At, Over, find_where}
use Rattle.pci_kept.specs.Taken.{AreApartInOrder, is_free, IsGap}

last_rises : (rs : List Range) → AreApartInOrder rs → IsNonDecreasingBy (λ r. r.last) rs
last_rises rs apart i j d le within =
    elim (cases_eq i j) [
      | inl same ↦ (let e : (get_or rs i d).last ≡ (get_or rs j d).last = ap (λ n. (get_or rs n d).last) same in omega arith)
      | inr differ ↦
          let order = apart.order i j d (omega (arith, le, differ)) within in
          let forward = apart.forward j d within in
          omega (arith, order, forward)
    ]

pub parted : (rs : List Range) (a : ℕ) → AreApartInOrder rs → IsPartitionedBy (λ r. ltb r.last a) rs
parted rs a apart = IsPartitionedBy-ltb (λ r. r.last) rs a (last_rises rs apart)

module _ (xs : List Range) (r : Range) (apart : AreApartInOrder xs) (index : ℕ) where
  -- it isn't free where the next range begins in it
  pub not_free : AllWithin (λ x. r.first ≤ x.last) xs index (length xs) → (d : Range) → index < length xs → (get_or xs index d).first ≤ r.last → is_free r xs ≡ false
  not_free after d within begins =
      let ends = after index d (omega arith) within in
      list_all_at (λ t. ranges_are_apart (decoded_range_of t) (decoded_range_of r)) xs index d within
      (or_from (nat_lt (get_or xs index d).last r.first) (nat_lt r.last (get_or xs index d).first) (le-ltb (get_or xs index d).last r.first ends) (le-ltb r.last (get_or xs index d).first begins))

  module _ (gap : IsGap xs r index) where
    all_above : (k : ℕ) (d : Range) → index ≤ k → k < length xs → r.last < (get_or xs k d).first
    all_above k d low within = elim (cases_eq index k) [
      | inl same ↦ subst (λ n. r.last < (get_or xs n d).first) same (gap.above d (omega (arith, same, within)))
      | inr differ ↦
          let first = gap.above d (omega (arith, low, within)) in
          let forward = apart.forward index d (omega (arith, low, within)) in
          let order = apart.order index k d (omega (arith, low, differ)) within in
          omega (arith, first, forward, order)
    ]

    pub free : is_free r xs ≡ true
    free = all_from (λ t. ranges_are_apart (decoded_range_of t) (decoded_range_of r)) xs (λ t listed. of_listed t listed)
      where
        of_listed : (t : Range) → Contains xs t → ranges_are_apart (decoded_range_of t) (decoded_range_of r) ≡ true
        of_listed t (k, within, at) = elim (cases_lt k index) [
          | inl low ↦ (let ends = gap.before k t (omega arith) low in
              subst (λ (x : Range). ranges_are_apart (decoded_range_of x) (decoded_range_of r) ≡ true) at (or_left (nat_lt (get_or xs k t).last r.first) (nat_lt r.last (get_or xs k t).first) (lt-ltb (get_or xs k t).last r.first ends)))
          | inr high ↦ (let begins = all_above k t high within in
              subst (λ (x : Range). ranges_are_apart (decoded_range_of x) (decoded_range_of r) ≡ true) at (or_right (nat_lt (get_or xs k t).last r.first) (nat_lt r.last (get_or xs k t).first) (lt-ltb r.last (get_or xs k t).first begins)))
        ]

    module _ (forward : r.first ≤ r.last) where
      abbrev new : List Range
      new = insert xs index r

      long : length new ≡ length xs + 1
      long = length-insert xs index r gap.bound

      order_new : (j k : ℕ) (d : Range) → j < k → k < length new → (get_or new j d).last < (get_or new k d).first
      order_new j k d less within =
          let more = long in
          let bound_of = gap.bound in
          elim (find_where xs r index k gap.bound) [
            | Under k_under k_is ↦ elim (find_where xs r index j gap.bound) [
              | Under j_under j_is ↦ subst (λ (x : Range). x.last < (get_or new k d).first) (sym (j_is d)) (subst (λ (x : Range). (get_or xs j d).last < x.first) (sym (k_is d)) (apart.order j k d less (omega (arith, k_under, bound_of))))
              | At j_at j_is ↦ absurd (let no : ⊥ = omega (arith, j_at, less, k_under) in no)
              | Over i j_over j_low j_is ↦ absurd (let no : ⊥ = omega (arith, j_over, j_low, less, k_under) in no)
            ]
            | At k_at k_is ↦ elim (find_where xs r index j gap.bound) [
              | Under j_under j_is ↦ subst (λ (x : Range). x.last < (get_or new k d).first) (sym (j_is d)) (subst (λ (x : Range). (get_or xs j d).last < x.first) (sym (k_is d)) (gap.before j d (omega arith) j_under))
              | At j_at j_is ↦ absurd (let no : ⊥ = omega (arith, j_at, less, k_at) in no)
              | Over i j_over j_low j_is ↦ absurd (let no : ⊥ = omega (arith, j_over, j_low, less, k_at) in no)
            ]
            | Over h k_over k_low k_is ↦
                let inside : h < length xs = omega (arith, within, more, k_over) in
                elim (find_where xs r index j gap.bound) [
                  | Under j_under j_is ↦ subst (λ (x : Range). x.last < (get_or new k d).first) (sym (j_is d)) (subst (λ (x : Range). (get_or xs j d).last < x.first) (sym (k_is d)) (apart.order j h d (omega (arith, j_under, k_low)) inside))
                  | At j_at j_is ↦ subst (λ (x : Range). x.last < (get_or new k d).first) (sym (j_is d)) (subst (λ (x : Range). r.last < x.first) (sym (k_is d)) (all_above h d k_low inside))
                  | Over i j_over j_low j_is ↦ subst (λ (x : Range). x.last < (get_or new k d).first) (sym (j_is d)) (subst (λ (x : Range). (get_or xs i d).last < x.first) (sym (k_is d)) (apart.order i h d (omega (arith, j_over, k_over, less)) inside))
                ]
          ]

      pub apart_new : AreApartInOrder new
      apart_new = record {
        order = order_new;
        forward = λ k d within. let more = long in let bound_of = gap.bound in elim (find_where xs r index k gap.bound) [
          | Under under is ↦ subst (λ (x : Range). x.first ≤ x.last) (sym (is d)) (apart.forward k d (omega (arith, under, bound_of)))
          | At at is ↦ subst (λ (x : Range). x.first ≤ x.last) (sym (is d)) forward
          | Over j over low is ↦ subst (λ (x : Range). x.first ≤ x.last) (sym (is d)) (apart.forward j d (omega (arith, within, more, over)))
        ];
      }
