-- Another order of the same elements.
use Rattle.std.proofs.Common.{◌≡◌, ℕ, zero, suc, ◌+◌, ◌<◌, ◌≤◌, List, length, get_or, set, sym, ap, ◌∙◌, subst, inl, inr, ◌⊎◌, arith, refl}
use Rattle.std.specs.List.{AllPairs, swap}
use Rattle.std.specs.List.Sorted.{IsPermutation, IsNonDecreasingBy}
use Rattle.std.proofs.lemmas.Bool.{cases_eq, cases_order}
use Rattle.std.proofs.lemmas.List.{get_or-set_same, get_or-set_other, length-set}
use Rattle.std.proofs.lemmas.List.Edits.{swap_is}
use Rattle.std.proofs.lemmas.List.Sorted.{IsPermutation-keeps, IsPermutation-sym, Contains-permutation}
use Rattle.pci_spec.specs.System.{System, Space}
use Rattle.pci_tree.specs.declared.region.Region.{Region}
use Rattle.pci_tree.specs.Regions.{region_number, HasRegionOf, AreRegionsOf}
use Rattle.pci_tree.specs.Outline.{IsBefore, AreSortedRegionsOf}

-- where an element stood before an exchange
abbrev Moved : ℕ → ℕ → ℕ → ℕ → Type 0
Moved i j k n = ((k ≡ j) × (n ≡ i)) ⊎ (((k ≡ j → ⊥) × (k ≡ i) × (n ≡ j)) ⊎ ((k ≡ j → ⊥) × (k ≡ i → ⊥) × (n ≡ k)))

moved_apart : (i j p q m n : ℕ) → Moved i j p m → Moved i j q n → (p ≡ q → ⊥) → m ≡ n → ⊥
moved_apart i j p q m n a b ne e = elim a [
  | inl x ↦ elim b [ inl y ↦ omega arith | inr z ↦ elim z [ inl y ↦ omega arith | inr y ↦ omega arith ] ]
  | inr w ↦ elim w [
    | inl x ↦ elim b [ inl y ↦ omega arith | inr z ↦ elim z [ inl y ↦ omega arith | inr y ↦ omega arith ] ]
    | inr x ↦ elim b [ inl y ↦ omega arith | inr z ↦ elim z [ inl y ↦ omega arith | inr y ↦ omega arith ] ]
  ]
]

moved_within : (i j k n size : ℕ) → Moved i j k n → i < size → j < size → k < size → n < size
moved_within i j k n size a hi hj hk = elim a [ inl x ↦ omega arith | inr w ↦ elim w [ inl x ↦ omega arith | inr x ↦ omega arith ] ]

at_swap : {X : Type 0} (l : List X) (i j k : ℕ) (d : X) → i < length l → j < length l → (n : ℕ) × (get_or (swap l i j) k d ≡ get_or l n d) × Moved i j k n
at_swap l i j k d hi hj =
    let is : get_or (swap l i j) k d ≡ get_or (set (set l i (get_or l j d)) j (get_or l i d)) k d = ap (λ xs. get_or xs k d) (sym (swap_is l i j d hi hj)) in
    let size : length (set l i (get_or l j d)) ≡ length l = length-set l i (get_or l j d) in
    elim (cases_eq k j) [
      | inl e ↦ (i, is ∙ ap (λ n. get_or (set (set l i (get_or l j d)) j (get_or l i d)) n d) e ∙ get_or-set_same (set l i (get_or l j d)) j (get_or l i d) d (omega arith), inl (e, refl))
      | inr ne ↦ elim (cases_eq k i) [
        | inl e ↦ (
          j,
          is ∙ get_or-set_other (set l i (get_or l j d)) j k (get_or l i d) d ne
              ∙ ap (λ n. get_or (set l i (get_or l j d)) n d) e ∙ get_or-set_same l i (get_or l j d) d hi,
          inr (inl (ne, e, refl)),
        )
        | inr off ↦ (k, is ∙ get_or-set_other (set l i (get_or l j d)) j k (get_or l i d) d ne ∙ get_or-set_other l i k (get_or l j d) d off, inr (inr (ne, off, refl)))
      ]
    ]

length_swap : {X : Type 0} (l : List X) (i j : ℕ) (d : X) → i < length l → j < length l → length (swap l i j) ≡ length l
length_swap l i j d hi hj =
    ap length (sym (swap_is l i j d hi hj)) ∙ length-set (set l i (get_or l j d)) j (get_or l i d) ∙ length-set l i (get_or l j d)

-- no two elements have one number
abbrev pub HaveOwnNumbers : {X : Type 0} → (X → ℕ) → List X → Type 0
HaveOwnNumbers n xs = AllPairs (λ x y. n x ≡ n y → ⊥) xs

own_numbers_swap : {X : Type 0} (number : X → ℕ) (l : List X) (i j : ℕ) → i < length l → j < length l → HaveOwnNumbers number l → HaveOwnNumbers number (swap l i j)
own_numbers_swap number l i j hi hj apart p q d lt within same =
    let size : length (swap l i j) ≡ length l = length_swap l i j d hi hj in
    let m : (n : ℕ) × (get_or (swap l i j) p d ≡ get_or l n d) × Moved i j p n = at_swap l i j p d hi hj in
    let n : (n : ℕ) × (get_or (swap l i j) q d ≡ get_or l n d) × Moved i j q n = at_swap l i j q d hi hj in
    let e : number (get_or l m.0 d) ≡ number (get_or l n.0 d) = sym (ap number m.1) ∙ same ∙ ap number n.1 in
    let mb : m.0 < length l = moved_within i j p m.0 (length l) m.2 hi hj (omega arith) in
    let nb : n.0 < length l = moved_within i j q n.0 (length l) n.2 hi hj (omega arith) in
    elim (cases_order m.0 n.0) [
      | inl eq ↦ moved_apart i j p q m.0 n.0 m.2 n.2 (λ (x : p ≡ q). omega arith) eq
      | inr ne ↦ elim ne [
        | inl less ↦ apart m.0 n.0 d less nb e
        | inr more ↦ apart n.0 m.0 d more mb (sym e)
      ]
    ]

-- numbers that differ still do in another order
pub own_numbers : {X : Type 0} (number : X → ℕ) (xs ys : List X) → IsPermutation xs ys → HaveOwnNumbers number xs → HaveOwnNumbers number ys
own_numbers number xs ys moved apart = IsPermutation-keeps xs (HaveOwnNumbers number) apart (own_numbers_swap number) ys moved

-- ---- regions by first address

-- regions with one first address that stand in the order of their numbers, each beside the next, do so wherever they stand
ties_far : (qs : List Region) (i j : ℕ) (d : Region) → IsNonDecreasingBy (λ q. q.first) qs
    → ((k : ℕ) (e : Region) → k + 1 < length qs → (get_or qs k e).first ≡ (get_or qs (k + 1) e).first → region_number (get_or qs k e) ≤ region_number (get_or qs (k + 1) e))
    → i ≤ j → j < length qs → (get_or qs i d).first ≡ (get_or qs j d).first → region_number (get_or qs i d) ≤ region_number (get_or qs j d)
ties_far qs i zero d sorted ties le within same =
    let e : i ≡ zero = omega arith in
    let eq : region_number (get_or qs i d) ≡ region_number (get_or qs zero d) = ap (λ n. region_number (get_or qs n d)) e in omega arith
ties_far qs i (suc j) d sorted ties le within same = elim (cases_eq i (suc j)) [
  | inl e ↦ (let eq : region_number (get_or qs i d) ≡ region_number (get_or qs (suc j) d) = ap (λ n. region_number (get_or qs n d)) e in omega arith)
  | inr ne ↦ (
      let next : j + 1 ≡ suc j = omega arith in
      let up : (get_or qs i d).first ≤ (get_or qs j d).first = sorted i j d (omega arith) (omega arith) in
      let on : (get_or qs j d).first ≤ (get_or qs (suc j) d).first = sorted j (suc j) d (omega arith) within in
      let tie : region_number (get_or qs j d) ≤ region_number (get_or qs (suc j) d) =
      subst (λ n. (get_or qs j d).first ≡ (get_or qs n d).first → region_number (get_or qs j d) ≤ region_number (get_or qs n d)) next (ties j d (omega arith)) (omega arith) in
      let before : region_number (get_or qs i d) ≤ region_number (get_or qs j d) = ties_far qs i j d sorted ties (omega arith) (omega arith) (omega arith) in
      omega arith)
]

-- regions sorted by first address, those with one in the order of their numbers, are in order
pub in_order : (qs : List Region) → HaveOwnNumbers region_number qs → IsNonDecreasingBy (λ q. q.first) qs
    → ((k : ℕ) (e : Region) → k + 1 < length qs → (get_or qs k e).first ≡ (get_or qs (k + 1) e).first → region_number (get_or qs k e) ≤ region_number (get_or qs (k + 1) e))
    → AllPairs IsBefore qs
in_order qs own sorted ties i j d lt within =
    let up : (get_or qs i d).first ≤ (get_or qs j d).first = sorted i j d (omega arith) within in
    elim (cases_eq (get_or qs i d).first (get_or qs j d).first) [
      | inl same ↦ (
          let le : region_number (get_or qs i d) ≤ region_number (get_or qs j d) = ties_far qs i j d sorted ties (omega arith) within same in
          let off : region_number (get_or qs i d) ≡ region_number (get_or qs j d) → ⊥ = own i j d lt within in
          inr (same, omega arith))
      | inr ne ↦ inl (omega arith)
    ]

-- regions whose numbers rise have each its own
pub own_of_rising : (qs : List Region) → AllPairs (λ p q. region_number p < region_number q) qs → HaveOwnNumbers region_number qs
own_of_rising qs rise i j d lt within same = let up : region_number (get_or qs i d) < region_number (get_or qs j d) = rise i j d lt within in omega arith

-- the regions of a bus, in another order
pub sorted_regions : (s : System) (bus : ℕ) (space : Space) (qs sorted : List Region) → IsPermutation qs sorted → AreRegionsOf s bus space qs → AllPairs IsBefore sorted
    → AreSortedRegionsOf s bus space sorted
sorted_regions s bus space qs sorted moved are before = record {
  each = λ q has. are.each q (Contains-permutation sorted qs q (IsPermutation-sym qs sorted moved) has);
  complete = λ f p a has on claims. (
      let found : HasRegionOf qs f p space = are.complete f p a has on claims in
      record { q = found.q; has = Contains-permutation qs sorted found.q moved found.has; is = found.is });
  sorted = before;
}
