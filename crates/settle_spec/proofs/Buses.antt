-- What is beside a bus is on it or on a root, and items have the same places by searches that agree.
use Rattle.std.proofs.Common.{◌≡◌, ℕ, inl, inr, List, [], ◌∷◌, true, false, ◌&&◌, sym, ◌∙◌, ap, subst, refl, Option, None, Some}
use Rattle.std.specs.Bool.{◌==◌}
use Rattle.std.specs.List.{Contains}
use Rattle.std.proofs.lemmas.Bool.{cases_Bool, or_cases, and_parts, eqb-true, both_ways, and_from, or_right, false_from_ne_true}
use Rattle.pci_spec.specs.Decoded.{Range}
use Rattle.pci_spec.specs.System.{System, IsSystem}
use Rattle.pci_spec.specs.Bus.{is_root, are_siblings, IsNested}
use Rattle.pci_spec.proofs.Members.{in_head, in_tail}
use Rattle.settle_spec.specs.Lists.{Request}
use Rattle.settle_spec.specs.Items.{PlacingItem, Placing, and_placed, place_next, taken_by, place_each}

-- ---- searches that agree

pub next_same : (i : PlacingItem) (o : Option ℕ) (f g : ℕ → Placing) → ((a : ℕ) → f a ≡ g a) → place_next i o f ≡ place_next i o g
next_same i None f g same = refl
next_same i (Some a) f g same = ap (and_placed i a) (same a)

pub each_same : (find other : PlacingItem → List Range → Option ℕ) (taken : List Range) (items : List PlacingItem) → ((i : PlacingItem) (xs : List Range) → Contains items i → find i xs ≡ other i xs)
    → place_each find taken items ≡ place_each other taken items
each_same find other taken [] same = refl
each_same find other taken (i ∷ items) same =
    ap (λ o. place_next i o (λ a. place_each find (taken_by i a ∷ taken) items)) (same i taken (in_head i items))
    ∙ next_same i (other i taken) (λ a. place_each find (taken_by i a ∷ taken) items) (λ a. place_each other (taken_by i a ∷ taken) items)
    (λ a. each_same find other (taken_by i a ∷ taken) items (λ j xs listed. same j xs (in_tail i items j listed)))

module _ (q : Request) (s : System) (system : IsSystem s) (nested : IsNested q.roots s) where
  -- what is beside a bus and on no root is on it
  pub on_it : (bus other : ℕ) → are_siblings q.roots bus other ≡ true → is_root q.roots other ≡ false → bus ≡ other
  on_it bus other beside off = elim (or_cases (bus == other) (is_root q.roots bus && is_root q.roots other) beside) [
    | inl same ↦ eqb-true bus other same
    | inr both ↦ absurd (both_ways (is_root q.roots other) off (and_parts (is_root q.roots bus) (is_root q.roots other) both).1)
  ]

-- ---- all roots are one bus

siblings_same : (roots : List ℕ) (root other bus : ℕ) → is_root roots root ≡ true → is_root roots other ≡ true → are_siblings roots root bus ≡ true → are_siblings roots other bus ≡ true
siblings_same roots root other bus is_one is_other beside =
    let there : is_root roots bus ≡ true = elim (or_cases (root == bus) (is_root roots root && is_root roots bus) beside) [
      | inl same ↦ subst (λ n. is_root roots n ≡ true) (eqb-true root bus same) is_one
      | inr both ↦ (and_parts (is_root roots root) (is_root roots bus) both).1
    ] in
    or_right (other == bus) (is_root roots other && is_root roots bus) (and_from (is_root roots other) (is_root roots bus) is_other there)

pub one_bus : (roots : List ℕ) (root other bus : ℕ) → is_root roots root ≡ true → is_root roots other ≡ true → are_siblings roots root bus ≡ are_siblings roots other bus
one_bus roots root other bus is_one is_other = elim (cases_Bool (are_siblings roots root bus)) [
  | inl is ↦ is ∙ sym (siblings_same roots root other bus is_one is_other is)
  | inr not_is ↦ not_is ∙ sym (false_from_ne_true (are_siblings roots other bus) (λ is. both_ways (are_siblings roots root bus) not_is (siblings_same roots other root bus is_other is_one is)))
]
