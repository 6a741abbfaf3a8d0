-- Lists of numbers, each below its bound, as one number: the lists have the order of their numbers.
use Rattle.std.proofs.Common.{rules, ◌≡◌, ℕ, zero, suc, ◌+◌, ◌*◌, ◌<◌, inl, inr, List, [], ◌∷◌, true, refl, sym, ◌∙◌, ap, arith}
use Rattle.std.proofs.lemmas.Bool.{cases_order}
use Rattle.std.proofs.lemmas.Nat.{mul-add-lt}
use Rattle.pci_spec.specs.Order.{precedes}
use Rattle.pci_spec.proofs.FirstLines.{less_precedes, same_precedes}

-- two numbers have the order of two lists
pub record HaveOrderOf (xs ys : List ℕ) (m n : ℕ) : Type 0 where
  pub less : m < n → precedes xs ys ≡ true
  pub same : m ≡ n → xs ≡ ys

-- behind the same number
pub order_behind : (x y m n : ℕ) (xs ys : List ℕ) → x ≡ y → HaveOrderOf xs ys m n → HaveOrderOf (x ∷ xs) (y ∷ ys) m n
order_behind x y m n xs ys front rest = record {
  less = λ lower. same_precedes x y xs ys front (rest.less lower);
  same = λ equal. ap (λ k. k ∷ xs) front ∙ ap (λ l. y ∷ l) (rest.same equal);
}

-- a number in front counts units, and what follows is below one of these
pub order_in_front : (unit x y m n : ℕ) (xs ys : List ℕ) → m < unit → n < unit → (x ≡ y → HaveOrderOf xs ys m n) → HaveOrderOf (x ∷ xs) (y ∷ ys) (x * unit + m) (y * unit + n)
order_in_front unit x y m n xs ys low_m low_n rest = elim (cases_order x y) [
  | inr (inl less) ↦ let far = mul-add-lt x unit m y less low_m in
      record { less = λ lower. less_precedes x y xs ys less; same = λ equal. absurd (let no : ⊥ = omega (arith, far, equal) in no) }
  | inr (inr more) ↦ let far = mul-add-lt y unit n x more low_n in
      record { less = λ lower. absurd (let no : ⊥ = omega (arith, far, lower) in no); same = λ equal. absurd (let no : ⊥ = omega (arith, far, equal) in no) }
  | inl front ↦ let units = ap (λ k. k * unit) front in
      let all = order_behind x y m n xs ys front (rest front) in
      record { less = λ lower. all.less (omega (arith, units, lower)); same = λ equal. all.same (omega (arith, units, equal)) }
]

-- how many lists are below the bounds; a bound of 0 stands for a number that is known
abbrev pub size_of : List ℕ → ℕ
size_of [] = 1
size_of (zero ∷ bounds) = size_of bounds
size_of (suc bound ∷ bounds) = size_of bounds * suc bound

-- the place of a list among these
abbrev pub number_of : List ℕ → List ℕ → ℕ
number_of (zero ∷ bounds) (x ∷ xs) = number_of bounds xs
number_of (suc bound ∷ bounds) (x ∷ xs) = x * size_of bounds + number_of bounds xs
number_of _ _ = 0

abbrev pub AreBelow : ℕ → List ℕ → List ℕ → Type 0
AreBelow known [] [] = Unit {0}
AreBelow known (zero ∷ bounds) (x ∷ xs) = (x ≡ known) × AreBelow known bounds xs
AreBelow known (suc bound ∷ bounds) (x ∷ xs) = (x < suc bound) × AreBelow known bounds xs
AreBelow known _ _ = ⊥

module _ (known : ℕ) where
  pub number_below : (bounds xs : List ℕ) → AreBelow known bounds xs → number_of bounds xs < size_of bounds
  number_below [] [] below = omega arith
  number_below (zero ∷ bounds) (x ∷ xs) below = number_below bounds xs below.1
  number_below (suc bound ∷ bounds) (x ∷ xs) below = mul-add-lt x (size_of bounds) (number_of bounds xs) (suc bound) below.0 (number_below bounds xs below.1)
  number_below _ _ below = absurd (search rules)

  pub order_of_numbers : (bounds xs ys : List ℕ) → AreBelow known bounds xs → AreBelow known bounds ys → HaveOrderOf xs ys (number_of bounds xs) (number_of bounds ys)
  order_of_numbers [] [] [] one other = record { less = λ lower. absurd (let no : ⊥ = omega (arith, lower) in no); same = λ equal. refl }
  order_of_numbers (zero ∷ bounds) (x ∷ xs) (y ∷ ys) one other = order_behind x y (number_of bounds xs) (number_of bounds ys) xs ys (one.0 ∙ sym other.0) (order_of_numbers bounds xs ys one.1 other.1)
  order_of_numbers (suc bound ∷ bounds) (x ∷ xs) (y ∷ ys) one other =
      order_in_front (size_of bounds) x y (number_of bounds xs) (number_of bounds ys) xs ys (number_below bounds xs one.1) (number_below bounds ys other.1) (λ front. order_of_numbers bounds xs ys one.1 other.1)
  order_of_numbers _ _ _ one other = absurd (search rules)
