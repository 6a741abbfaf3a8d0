-- What is taken stays in order when a range is put into it.
use Rattle.std.proofs.Common.{◌≡◌, ℕ, ◌+◌, ◌-◌, ◌<◌, ◌≤◌, inl, inr, List, length, get_or, arith, sym, subst}
use Rattle.std.specs.List.{insert}
use Rattle.std.specs.List.Sorted.{IsNonDecreasingBy}
use Rattle.std.proofs.lemmas.Bool.{cases_lt}
use Rattle.std.proofs.lemmas.List.Edits.{length-insert, get_or-insert_below, get_or-insert_at, get_or-insert_above}
use Rattle.pci_base.specs.declared.range.Range.{Range}
use Rattle.pci_first_fit.specs.declared.extent.Extent.{Extent}
use Rattle.pci_first_fit.specs.declared.spot.Spot.{Spot}
use Rattle.pci_first_fit.specs.Spots.{FirstsRise, AreRisingRanges, IsBetweenTaken, extent_range}

-- an element of the new list is an old one below the index, the new one, or an old one from the index on
pub data Where (xs ys : List Range) (y : Range) (index : ℕ) (k : ℕ) : Type 0 where
  Under : k < index → ((d : Range) → get_or ys k d ≡ get_or xs k d) → Where xs ys y index k
  At : k ≡ index → ((d : Range) → get_or ys k d ≡ y) → Where xs ys y index k
  Over : (j : ℕ) → k ≡ j + 1 → index ≤ j → ((d : Range) → get_or ys k d ≡ get_or xs j d) → Where xs ys y index k

pub find_where : (xs : List Range) (y : Range) (index k : ℕ) → index ≤ length xs → Where xs (insert xs index y) y index k
find_where xs y index k within = elim (cases_lt k index) [
  | inl under ↦ Under under (λ d. get_or-insert_below xs index y d k under within)
  | inr from ↦ elim (cases_lt index k) [
    | inl over ↦
        let is : k ≡ (k - 1) + 1 = omega (arith, over) in
        let low : index ≤ k - 1 = omega (arith, over) in
        Over (k - 1) is low (λ d. subst (λ n. get_or (insert xs index y) n d ≡ get_or xs (k - 1) d) (sym is) (get_or-insert_above xs index y d (k - 1) low within))
    | inr same ↦
        let is : k ≡ index = omega (arith, from, same) in
        At is (λ d. subst (λ n. get_or (insert xs index y) n d ≡ y) (sym is) (get_or-insert_at xs index y d within))
  ]
]

-- ranges by rising first addresses
pub firsts_sorted : (xs : List Range) → FirstsRise xs → IsNonDecreasingBy (λ (r : Range). r.first) xs
firsts_sorted xs rise j k d le within = elim (cases_lt j k) [
  | inl less ↦ rise j k d less within
  | inr from ↦
      let same : j ≡ k = omega (arith, le, from) in
      subst (λ n. (get_or xs j d).first ≤ (get_or xs n d).first) same (omega arith)
]

-- a range is put where none before it begins above it, and none from there on below
module _ (xs : List Range) (r : Range) (index : ℕ) (listed : AreRisingRanges xs) (within : index ≤ length xs) (forward : r.first ≤ r.last)
    (low : (k : ℕ) (d : Range) → k < index → (get_or xs k d).first ≤ r.first) (high : (k : ℕ) (d : Range) → index ≤ k → k < length xs → r.first ≤ (get_or xs k d).first) where
  abbrev new : List Range
  new = insert xs index r

  long : length new ≡ length xs + 1
  long = length-insert xs index r within

  put_order : FirstsRise new
  put_order j k d less inside_new =
      let more = long in
      elim (find_where xs r index k within) [
        | Under k_under k_is ↦ elim (find_where xs r index j within) [
          | Under j_under j_is ↦ subst (λ (x : Range). x.first ≤ (get_or new k d).first) (sym (j_is d)) (subst (λ (x : Range). (get_or xs j d).first ≤ x.first) (sym (k_is d)) (listed.order j k d less (omega (arith, k_under, within))))
          | At j_at j_is ↦ absurd (let no : ⊥ = omega (arith, j_at, less, k_under) in no)
          | Over i j_over j_low j_is ↦ absurd (let no : ⊥ = omega (arith, j_over, j_low, less, k_under) in no)
        ]
        | At k_at k_is ↦ elim (find_where xs r index j within) [
          | Under j_under j_is ↦ subst (λ (x : Range). x.first ≤ (get_or new k d).first) (sym (j_is d)) (subst (λ (x : Range). (get_or xs j d).first ≤ x.first) (sym (k_is d)) (low j d j_under))
          | At j_at j_is ↦ absurd (let no : ⊥ = omega (arith, j_at, less, k_at) in no)
          | Over i j_over j_low j_is ↦ absurd (let no : ⊥ = omega (arith, j_over, j_low, less, k_at) in no)
        ]
        | Over h k_over k_low k_is ↦
            let inside : h < length xs = omega (arith, inside_new, more, k_over) in
            elim (find_where xs r index j within) [
              | Under j_under j_is ↦ subst (λ (x : Range). x.first ≤ (get_or new k d).first) (sym (j_is d)) (subst (λ (x : Range). (get_or xs j d).first ≤ x.first) (sym (k_is d)) (listed.order j h d (omega (arith, j_under, k_low)) inside))
              | At j_at j_is ↦ subst (λ (x : Range). x.first ≤ (get_or new k d).first) (sym (j_is d)) (subst (λ (x : Range). r.first ≤ x.first) (sym (k_is d)) (high h d k_low inside))
              | Over i j_over j_low j_is ↦ subst (λ (x : Range). x.first ≤ (get_or new k d).first) (sym (j_is d)) (subst (λ (x : Range). (get_or xs i d).first ≤ x.first) (sym (k_is d)) (listed.order i h d (omega (arith, j_over, k_over, less)) inside))
            ]
      ]

  pub put_rising : AreRisingRanges new
  put_rising = record {
    order = put_order;
    forward = λ k d inside. let more = long in elim (find_where xs r index k within) [
      | Under under is ↦ subst (λ (x : Range). x.first ≤ x.last) (sym (is d)) (listed.forward k d (omega (arith, under, within)))
      | At at is ↦ subst (λ (x : Range). x.first ≤ x.last) (sym (is d)) forward
      | Over j over above is ↦ subst (λ (x : Range). x.first ≤ x.last) (sym (is d)) (listed.forward j d (omega (arith, inside, more, over)))
    ];
  }

-- so is a place between what lies below it and what lies above
pub inserted : (xs : List Range) (e : Extent) (s : Spot) → AreRisingRanges xs → IsBetweenTaken xs e s → AreRisingRanges (insert xs s.index (extent_range e s.at))
inserted xs e s listed between =
    put_rising xs (extent_range e s.at) s.index listed between.within (omega arith)
    (λ k d less.
    let below = between.below k d less in
    let forward = listed.forward k d (let w = between.within in omega (arith, less, w)) in
    omega (arith, below, forward))
    (λ k d from inside. let above = between.above k d from inside in omega (arith, above))
