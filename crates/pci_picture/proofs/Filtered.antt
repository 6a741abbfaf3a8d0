-- Filters of lists that have the same elements in another order, and of what is made of others.
use Rattle.std.proofs.Common.{◌≡◌, ℕ, zero, suc, ◌<◌, Bool, true, false, cond, ◌&&◌, List, [], ◌∷◌, map, length, get_or, set, refl, ap, arith}
use Rattle.std.specs.List.{filter, swap}
use Rattle.std.specs.List.Sorted.{IsPermutation}
use Rattle.std.proofs.lemmas.List.Sorted.{IsPermutation-refl, IsPermutation-keeps, IsPermutation-trans, IsPermutation-cons}

-- ---- in another order

-- A relation holds along each permutation if it is reflexive and transitive, and goes under a head and over an exchange of two heads.
module _ {X : Type 0} (R : List X → List X → Type 0) (same : (xs : List X) → R xs xs)
    (skip : (x : X) (xs ys : List X) → R xs ys → R (x ∷ xs) (x ∷ ys))
    (turn : (x y : X) (xs : List X) → R (x ∷ y ∷ xs) (y ∷ x ∷ xs))
    (chain : (xs ys zs : List X) → R xs ys → R ys zs → R xs zs) where
  to_head : (l : List X) (j : ℕ) (x d : X) → j < length l → R (x ∷ l) (get_or l j d ∷ set l j x)
  to_head [] j x d h = absurd (let no : ⊥ = omega (arith, h) in no)
  to_head (y ∷ l) zero x d h = turn x y l
  to_head (y ∷ l) (suc j) x d h =
      chain _ _ _ (turn x y l) (chain _ _ _ (skip y _ _ (to_head l j x d (omega (arith, h)))) (turn y (get_or l j d) (set l j x)))

  exchanged : (l : List X) (i j : ℕ) (d : X) → i < length l → j < length l → R l (set (set l i (get_or l j d)) j (get_or l i d))
  exchanged [] i j d p q = absurd (let no : ⊥ = omega (arith, p) in no)
  exchanged (x ∷ l) zero zero d p q = same (x ∷ l)
  exchanged (x ∷ l) zero (suc j) d p q = to_head l j x d (omega (arith, q))
  exchanged (x ∷ l) (suc i) zero d p q = to_head l i x d (omega (arith, p))
  exchanged (x ∷ l) (suc i) (suc j) d p q = skip x _ _ (exchanged l i j d (omega (arith, p)) (omega (arith, q)))

  swapped : (l : List X) (i j : ℕ) → i < length l → j < length l → R l (swap l i j)
  swapped [] i j p q = same []
  swapped (x ∷ l) i j p q = exchanged (x ∷ l) i j x p q

  pub along_permutation : (xs ys : List X) → IsPermutation xs ys → R xs ys
  along_permutation xs = IsPermutation-keeps xs (R xs) (same xs) (λ l i j p q h. chain xs l _ h (swapped l i j p q))

module _ {X : Type 0} (p : X → Bool) where
  abbrev KeepsFiltered : List X → List X → Type 0
  KeepsFiltered xs ys = IsPermutation (filter p xs) (filter p ys)

  filter_skip : (x : X) (xs ys : List X) → KeepsFiltered xs ys → KeepsFiltered (x ∷ xs) (x ∷ ys)
  filter_skip x xs ys h =
      elim (p x) as (λ b. IsPermutation (cond b (x ∷ filter p xs) (filter p xs)) (cond b (x ∷ filter p ys) (filter p ys)))
      [ true ↦ IsPermutation-cons x _ _ h | false ↦ h ]

  filter_turn : (x y : X) (xs : List X) → KeepsFiltered (x ∷ y ∷ xs) (y ∷ x ∷ xs)
  filter_turn x y xs =
      elim (p x) as (λ b. IsPermutation (cond b (x ∷ cond (p y) (y ∷ filter p xs) (filter p xs)) (cond (p y) (y ∷ filter p xs) (filter p xs)))
      (cond (p y) (y ∷ cond b (x ∷ filter p xs) (filter p xs)) (cond b (x ∷ filter p xs) (filter p xs)))) [
        | true ↦ elim (p y) as (λ c. IsPermutation (x ∷ cond c (y ∷ filter p xs) (filter p xs)) (cond c (y ∷ x ∷ filter p xs) (x ∷ filter p xs))) [
          | true ↦ record { moves = (0, 1) ∷ []; below = (omega arith, omega arith, tt); is = refl }
          | false ↦ IsPermutation-refl (x ∷ filter p xs)
        ]
        | false ↦ IsPermutation-refl (cond (p y) (y ∷ filter p xs) (filter p xs))
      ]

  -- what passes is the same in another order
  pub filter_permuted : (xs ys : List X) → IsPermutation xs ys → IsPermutation (filter p xs) (filter p ys)
  filter_permuted = along_permutation KeepsFiltered (λ xs. IsPermutation-refl (filter p xs)) filter_skip filter_turn
      (λ xs ys zs. IsPermutation-trans (filter p xs) (filter p ys) (filter p zs))

-- ---- of what is made of others

pub filter_map : {X Y : Type 0} (p : Y → Bool) (f : X → Y) (xs : List X) → filter p (map f xs) ≡ map f (filter (λ x. p (f x)) xs)
filter_map p f [] = refl
filter_map p f (x ∷ xs) =
    elim (p (f x)) as (λ b. cond b (f x ∷ filter p (map f xs)) (filter p (map f xs)) ≡ map f (cond b (x ∷ filter (λ y. p (f y)) xs) (filter (λ y. p (f y)) xs)))
    [ true ↦ ap (λ l. f x ∷ l) (filter_map p f xs) | false ↦ filter_map p f xs ]

-- what passes two tests, one after the other
pub filter_twice : {X : Type 0} (p r : X → Bool) (xs : List X) → filter p (filter r xs) ≡ filter (λ x. p x && r x) xs
filter_twice p r [] = refl
filter_twice p r (x ∷ xs) =
    elim (r x) as (λ b. filter p (cond b (x ∷ filter r xs) (filter r xs)) ≡ cond (p x && b) (x ∷ filter (λ y. p y && r y) xs) (filter (λ y. p y && r y) xs)) [
      | true ↦ elim (p x) as (λ c. cond c (x ∷ filter p (filter r xs)) (filter p (filter r xs)) ≡ cond (c && true) (x ∷ filter (λ y. p y && r y) xs) (filter (λ y. p y && r y) xs)) [
        | true ↦ ap (λ l. x ∷ l) (filter_twice p r xs)
        | false ↦ filter_twice p r xs
      ]
      | false ↦ elim (p x) as (λ c. filter p (filter r xs) ≡ cond (c && false) (x ∷ filter (λ y. p y && r y) xs) (filter (λ y. p y && r y) xs)) [
        | true ↦ filter_twice p r xs
        | false ↦ filter_twice p r xs
      ]
    ]
