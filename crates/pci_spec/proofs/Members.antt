-- What is in a list that was made from others.
use Rattle.std.proofs.Common.{◌≡◌, ℕ, zero, suc, ◌+◌, ◌<◌, ◌≤◌, List, [], ◌∷◌, ◌++◌, get_or, sym, ap, ◌∙◌, subst, inl, inr, ◌⊎◌, arith, refl, Bool, true, cond, map}
use Rattle.std.specs.List.{Contains, AllPairs, filter, flat_map, range_with_len}
use Rattle.std.proofs.lemmas.Bool.{cases_Bool, both_ways, cases_eq}
use Rattle.std.proofs.lemmas.List.Elements.{Contains-append_cases, Contains-append_left, Contains-append_right, Contains-get_or}

pub in_nil : {X : Type 0} (x : X) → Contains [] x → ⊥
in_nil x (k, within, at) = omega arith

pub in_cons_cases : {X : Type 0} (x : X) (xs : List X) (y : X) → Contains (x ∷ xs) y → (x ≡ y) ⊎ Contains xs y
in_cons_cases x xs y (zero, within, at) = inl at
in_cons_cases x xs y (suc k, within, at) = inr (k, omega arith, at)

pub in_head : {X : Type 0} (x : X) (xs : List X) → Contains (x ∷ xs) x
in_head x xs = (0, omega arith, refl)

pub in_tail : {X : Type 0} (x : X) (xs : List X) (y : X) → Contains xs y → Contains (x ∷ xs) y
in_tail x xs y (k, within, at) = (suc k, omega arith, at)

-- of a filter: what the test keeps
pub in_filter_to : {X : Type 0} (p : X → Bool) (xs : List X) (y : X) → Contains (filter p xs) y → Contains xs y × (p y ≡ true)
in_filter_to p [] y has = absurd (in_nil y has)
in_filter_to p (x ∷ xs) y has = elim (cases_Bool (p x)) [
  | inl kept ↦ elim (in_cons_cases x (filter p xs) y (subst (λ b. Contains (cond b (x ∷ filter p xs) (filter p xs)) y) kept has)) [
    | inl here ↦ (subst (λ z. Contains (x ∷ xs) z) here (in_head x xs), ap p (sym here) ∙ kept)
    | inr later ↦ (let rest : Contains xs y × (p y ≡ true) = in_filter_to p xs y later in (in_tail x xs y rest.0, rest.1))
  ]
  | inr left ↦ (let rest : Contains xs y × (p y ≡ true) = in_filter_to p xs y (subst (λ b. Contains (cond b (x ∷ filter p xs) (filter p xs)) y) left has) in (in_tail x xs y rest.0, rest.1))
]

pub in_filter_from : {X : Type 0} (p : X → Bool) (xs : List X) (y : X) → Contains xs y → p y ≡ true → Contains (filter p xs) y
in_filter_from p [] y has kept = absurd (in_nil y has)
in_filter_from p (x ∷ xs) y has kept = elim (cases_Bool (p x)) [
  | inl keeps ↦ subst (λ b. Contains (cond b (x ∷ filter p xs) (filter p xs)) y) (sym keeps) (elim (in_cons_cases x xs y has) [
    | inl here ↦ subst (λ z. Contains (x ∷ filter p xs) z) here (in_head x (filter p xs))
    | inr later ↦ in_tail x (filter p xs) y (in_filter_from p xs y later kept)
  ])
  | inr drops ↦ subst (λ b. Contains (cond b (x ∷ filter p xs) (filter p xs)) y) (sym drops) (elim (in_cons_cases x xs y has) [
    | inl here ↦ absurd (both_ways (p x) drops (ap p here ∙ kept))
    | inr later ↦ in_filter_from p xs y later kept
  ])
]

-- of a map: what the function makes
pub record IsMade {X Y : Type 0} (f : X → Y) (xs : List X) (y : Y) : Type 0 where
  pub from : X
  pub has : Contains xs from
  pub is : f from ≡ y

pub in_map_to : {X Y : Type 0} (f : X → Y) (xs : List X) (y : Y) → Contains (map f xs) y → IsMade f xs y
in_map_to f [] y has = absurd (in_nil y has)
in_map_to f (x ∷ xs) y has = elim (in_cons_cases (f x) (map f xs) y has) [
  | inl here ↦ record { from = x; has = in_head x xs; is = here }
  | inr later ↦ (let rest : IsMade f xs y = in_map_to f xs y later in record { from = rest.from; has = in_tail x xs rest.from rest.has; is = rest.is })
]

pub in_map_from : {X Y : Type 0} (f : X → Y) (xs : List X) (x : X) → Contains xs x → Contains (map f xs) (f x)
in_map_from f [] x has = absurd (in_nil x has)
in_map_from f (z ∷ xs) x has = elim (in_cons_cases z xs x has) [
  | inl here ↦ subst (λ y. Contains (f z ∷ map f xs) (f y)) here (in_head (f z) (map f xs))
  | inr later ↦ in_tail (f z) (map f xs) (f x) (in_map_from f xs x later)
]

-- of pieces joined: what is in one of them
pub record IsInPiece {X Y : Type 0} (f : X → List Y) (xs : List X) (y : Y) : Type 0 where
  pub of : X
  pub has : Contains xs of
  pub piece : Contains (f of) y

pub in_flat_map_to : {X Y : Type 0} (f : X → List Y) (xs : List X) (y : Y) → Contains (flat_map f xs) y → IsInPiece f xs y
in_flat_map_to f [] y has = absurd (in_nil y has)
in_flat_map_to f (x ∷ xs) y has = elim (Contains-append_cases (f x) (flat_map f xs) y has) [
  | inl here ↦ record { of = x; has = in_head x xs; piece = here }
  | inr later ↦ (let rest : IsInPiece f xs y = in_flat_map_to f xs y later in record { of = rest.of; has = in_tail x xs rest.of rest.has; piece = rest.piece })
]

pub in_flat_map_from : {X Y : Type 0} (f : X → List Y) (xs : List X) (x : X) (y : Y) → Contains xs x → Contains (f x) y → Contains (flat_map f xs) y
in_flat_map_from f [] x y has piece = absurd (in_nil x has)
in_flat_map_from f (z ∷ xs) x y has piece = elim (in_cons_cases z xs x has) [
  | inl here ↦ Contains-append_left (f z) (flat_map f xs) y (subst (λ w. Contains (f w) y) (sym here) piece)
  | inr later ↦ Contains-append_right (f z) (flat_map f xs) y (in_flat_map_from f xs x y later piece)
]

-- of a run of numbers: those from its first on
pub in_range_to : (low n y : ℕ) → Contains (range_with_len low n) y → (low ≤ y) × (y < low + n)
in_range_to low zero y has = absurd (in_nil y has)
in_range_to low (suc n) y has = elim (in_cons_cases low (range_with_len (low + 1) n) y has) [
  | inl here ↦ (omega arith, omega arith)
  | inr later ↦ (let rest : (low + 1 ≤ y) × (y < low + 1 + n) = in_range_to (low + 1) n y later in (omega arith, omega arith))
]

pub in_range_from : (low n y : ℕ) → low ≤ y → y < low + n → Contains (range_with_len low n) y
in_range_from low zero y up lt = absurd (omega arith)
in_range_from low (suc n) y up lt = elim (cases_eq low y) [
  | inl here ↦ subst (λ z. Contains (low ∷ range_with_len (low + 1) n) z) here (in_head low (range_with_len (low + 1) n))
  | inr later ↦ in_tail low (range_with_len (low + 1) n) y (in_range_from (low + 1) n y (omega arith) (omega arith))
]

-- ---- an order of each two elements

pub pairs_nil : {X : Type 0} (R : X → X → Type 0) → AllPairs R []
pairs_nil R i j d lt within = absurd (omega arith)

pub pairs_cons : {X : Type 0} (R : X → X → Type 0) (x : X) (xs : List X) → ((y : X) → Contains xs y → R x y) → AllPairs R xs → AllPairs R (x ∷ xs)
pairs_cons R x xs first rest zero zero d lt within = absurd (omega arith)
pairs_cons R x xs first rest zero (suc j) d lt within = first (get_or xs j d) (Contains-get_or xs j d (omega arith))
pairs_cons R x xs first rest (suc i) zero d lt within = absurd (omega arith)
pairs_cons R x xs first rest (suc i) (suc j) d lt within = rest i j d (omega arith) (omega arith)

pub pairs_head : {X : Type 0} (R : X → X → Type 0) (x : X) (xs : List X) (y : X) → AllPairs R (x ∷ xs) → Contains xs y → R x y
pairs_head R x xs y pairs (k, within, at) = subst (λ z. R x z) at (pairs 0 (suc k) y (omega arith) (omega arith))

pub pairs_tail : {X : Type 0} (R : X → X → Type 0) (x : X) (xs : List X) → AllPairs R (x ∷ xs) → AllPairs R xs
pairs_tail R x xs pairs i j d lt within = pairs (suc i) (suc j) d (omega arith) (omega arith)

pub pairs_append : {X : Type 0} (R : X → X → Type 0) (xs ys : List X) → AllPairs R xs → AllPairs R ys
    → ((x y : X) → Contains xs x → Contains ys y → R x y) → AllPairs R (xs ++ ys)
pairs_append R [] ys first second across = second
pairs_append R (x ∷ xs) ys first second across =
    pairs_cons R x (xs ++ ys)
    (λ y has. elim (Contains-append_cases xs ys y has) [ inl left ↦ pairs_head R x xs y first left | inr right ↦ across x y (in_head x xs) right ])
    (pairs_append R xs ys (pairs_tail R x xs first) second (λ v w left right. across v w (in_tail x xs v left) right))

pub pairs_map : {X Y : Type 0} (R : Y → Y → Type 0) (f : X → Y) (xs : List X) → AllPairs (λ x y. R (f x) (f y)) xs → AllPairs R (map f xs)
pairs_map R f [] pairs = pairs_nil R
pairs_map R f (x ∷ xs) pairs =
    pairs_cons R (f x) (map f xs)
    (λ y has. (let made : IsMade f xs y = in_map_to f xs y has in
    subst (λ z. R (f x) z) made.is (pairs_head (λ v w. R (f v) (f w)) x xs made.from pairs made.has)))
    (pairs_map R f xs (pairs_tail (λ v w. R (f v) (f w)) x xs pairs))

pub pairs_filter : {X : Type 0} (R : X → X → Type 0) (p : X → Bool) (xs : List X) → AllPairs R xs → AllPairs R (filter p xs)
pairs_filter R p [] pairs = pairs_nil R
pairs_filter R p (x ∷ xs) pairs = elim (cases_Bool (p x)) [
  | inl kept ↦ subst (λ b. AllPairs R (cond b (x ∷ filter p xs) (filter p xs))) (sym kept)
      (pairs_cons R x (filter p xs) (λ y has. pairs_head R x xs y pairs (in_filter_to p xs y has).0) (pairs_filter R p xs (pairs_tail R x xs pairs)))
  | inr left ↦ subst (λ b. AllPairs R (cond b (x ∷ filter p xs) (filter p xs))) (sym left) (pairs_filter R p xs (pairs_tail R x xs pairs))
]

pub pairs_range : (low n : ℕ) → AllPairs (λ x y. x < y) (range_with_len low n)
pairs_range low zero = pairs_nil (λ x y. x < y)
pairs_range low (suc n) = pairs_cons (λ x y. x < y) low (range_with_len (low + 1) n)
    (λ y has. (let up : (low + 1 ≤ y) × (y < low + 1 + n) = in_range_to (low + 1) n y has in omega arith)) (pairs_range (low + 1) n)

-- pieces joined are in order where each piece is, and each piece of an element is below those of a later one
pub pairs_flat_map : {X Y : Type 0} (S : X → X → Type 0) (R : Y → Y → Type 0) (f : X → List Y) (xs : List X) → AllPairs S xs
    → ((x : X) → Contains xs x → AllPairs R (f x)) → ((x z : X) (y w : Y) → Contains xs x → Contains xs z → S x z → Contains (f x) y → Contains (f z) w → R y w)
    → AllPairs R (flat_map f xs)
pairs_flat_map S R f [] pairs each across = pairs_nil R
pairs_flat_map S R f (x ∷ xs) pairs each across =
    pairs_append R (f x) (flat_map f xs) (each x (in_head x xs))
    (pairs_flat_map S R f xs (pairs_tail S x xs pairs) (λ z has. each z (in_tail x xs z has))
    (λ v z y w hv hz s py pw. across v z y w (in_tail x xs v hv) (in_tail x xs z hz) s py pw))
    (λ y w hy hw. (let piece : IsInPiece f xs w = in_flat_map_to f xs w hw in
    across x piece.of y w (in_head x xs) (in_tail x xs piece.of piece.has) (pairs_head S x xs piece.of pairs piece.has) hy piece.piece))
