-- What holds of some element of a list.
use Rattle.std.proofs.Common.{◌≡◌, ◌⊎◌, inl, inr, zero, suc, Bool, true, cond, List, [], ◌∷◌, ◌++◌, map, refl, ap, sym, subst, arith}
use Rattle.std.specs.List.{All, Any, Contains, filter, flat_map}
use Rattle.std.specs.List.Sorted.{IsPermutation}
use Rattle.std.proofs.lemmas.Bool.{cases_Bool}
use Rattle.std.proofs.lemmas.List.Elements.{Contains-append_cases, Contains-append_left, Contains-append_right}
use Rattle.std.proofs.lemmas.List.Sorted.{Contains-permutation}
use Rattle.std.proofs.lemmas.List.Concat.{flat_map-cons}

pub any_at : {X : Type 0} (P : X → Type 0) (xs : List X) (x : X) → Contains xs x → P x → Any P xs
any_at P xs x (k, lt, is) p = (k, x, lt, is, p)

pub any_more : {X : Type 0} (P : X → Type 0) (xs ys : List X) → Any P xs → Any P (xs ++ ys)
any_more P xs ys (k, x, lt, is, p) = any_at P (xs ++ ys) x (Contains-append_left xs ys x (k, lt, is)) p

pub any_last : {X : Type 0} (P : X → Type 0) (xs : List X) (x : X) → P x → Any P (xs ++ x ∷ [])
any_last P xs x p = any_at P (xs ++ x ∷ []) x (Contains-append_right xs (x ∷ []) x (0, omega arith, refl)) p

pub any_moved : {X : Type 0} (P : X → Type 0) (xs ys : List X) → IsPermutation xs ys → Any P xs → Any P ys
any_moved P xs ys moved (k, x, lt, is, p) = any_at P ys x (Contains-permutation xs ys x moved (k, lt, is)) p

pub any_next : {X : Type 0} (P : X → Type 0) (x : X) (xs : List X) → Any P xs → Any P (x ∷ xs)
any_next P x xs (k, y, lt, is, p) = (suc k, y, omega (arith, lt), is, p)

pub any_mapped : {X Y : Type 0} (P : Y → Type 0) (f : X → Y) (xs : List X) → Any (λ x. P (f x)) xs → Any P (map f xs)
any_mapped P f [] (k, y, lt, is, p) = absurd (omega (arith, lt))
any_mapped P f (x ∷ xs) (zero, y, lt, is, p) = (0, f x, omega arith, refl, subst (λ z. P (f z)) (sym is) p)
any_mapped P f (x ∷ xs) (suc k, y, lt, is, p) = any_next P (f x) (map f xs) (any_mapped P f xs (k, y, omega (arith, lt), is, p))

pub any_map : {X Y : Type 0} (P : Y → Type 0) (f : X → Y) (xs : List X) → Any P (map f xs) → Any (λ x. P (f x)) xs
any_map P f [] (k, y, lt, is, p) = absurd (omega (arith, lt))
any_map P f (x ∷ xs) (zero, y, lt, is, p) = (0, x, omega arith, refl, subst P (sym is) p)
any_map P f (x ∷ xs) (suc k, y, lt, is, p) = any_next (λ z. P (f z)) x xs (any_map P f xs (k, y, omega (arith, lt), is, p))

-- one element of which both hold
pub both_of : {X Z : Type 0} (P Q : X → Type 0) (xs : List X) → All P xs → Any Q xs → ((x : X) → P x → Q x → Z) → Z
both_of P Q xs all (k, x, lt, is, q) then = then x (subst P is (all k x lt)) q

pub any_weaken : {X : Type 0} (P Q : X → Type 0) (xs : List X) → ((x : X) → P x → Q x) → Any P xs → Any Q xs
any_weaken P Q xs then (k, x, lt, is, p) = (k, x, lt, is, then x p)

pub any_right : {X : Type 0} (P : X → Type 0) (xs ys : List X) → Any P ys → Any P (xs ++ ys)
any_right P xs ys (k, x, lt, is, p) = any_at P (xs ++ ys) x (Contains-append_right xs ys x (k, lt, is)) p

pub any_cases : {X : Type 0} (P : X → Type 0) (xs ys : List X) → Any P (xs ++ ys) → Any P xs ⊎ Any P ys
any_cases P xs ys (k, x, lt, is, p) = elim (Contains-append_cases xs ys x (k, lt, is)) [
  | inl left ↦ inl (any_at P xs x left p)
  | inr right ↦ inr (any_at P ys x right p)
]

pub any_first : {X : Type 0} (P : X → Type 0) (x : X) (xs : List X) → P x → Any P (x ∷ xs)
any_first P x xs p = (0, x, omega arith, refl, p)

pub any_split : {X : Type 0} (P : X → Type 0) (x : X) (xs : List X) → Any P (x ∷ xs) → P x ⊎ Any P xs
any_split P x xs (zero, y, lt, is, p) = inl (subst P (sym is) p)
any_split P x xs (suc k, y, lt, is, p) = inr (k, y, omega (arith, lt), is, p)

pub any_none : {X : Type 0} (P : X → Type 0) → Any P [] → ⊥
any_none P (k, x, lt, is, p) = omega (arith, lt)

pub any_of_filter : {X : Type 0} (P : X → Type 0) (p : X → Bool) (xs : List X) → Any P (filter p xs) → Any P xs
any_of_filter P p [] any = any
any_of_filter P p (x ∷ xs) any = elim (cases_Bool (p x)) [
  | inl holds ↦ elim (any_split P x (filter p xs) (subst (Any P) (ap (λ b. cond b (x ∷ filter p xs) (filter p xs)) holds) any)) [
    | inl here ↦ any_first P x xs here
    | inr there ↦ any_next P x xs (any_of_filter P p xs there)
  ]
  | inr fails ↦ any_next P x xs (any_of_filter P p xs (subst (Any P) (ap (λ b. cond b (x ∷ filter p xs) (filter p xs)) fails) any))
]

pub any_kept : {X : Type 0} (P : X → Type 0) (p : X → Bool) (xs : List X) → Any (λ x. P x × (p x ≡ true)) xs → Any P (filter p xs)
any_kept P p [] any = absurd (any_none (λ x. P x × (p x ≡ true)) any)
any_kept P p (x ∷ xs) any = elim (any_split (λ y. P y × (p y ≡ true)) x xs any) [
  | inl (here, holds) ↦ subst (Any P) (sym (ap (λ b. cond b (x ∷ filter p xs) (filter p xs)) holds)) (any_first P x (filter p xs) here)
  | inr there ↦ elim (cases_Bool (p x)) [
    | inl holds ↦ subst (Any P) (sym (ap (λ b. cond b (x ∷ filter p xs) (filter p xs)) holds)) (any_next P x (filter p xs) (any_kept P p xs there))
    | inr fails ↦ subst (Any P) (sym (ap (λ b. cond b (x ∷ filter p xs) (filter p xs)) fails)) (any_kept P p xs there)
  ]
]

pub any_flat : {X Y : Type 0} (P : Y → Type 0) (f : X → List Y) (xs : List X) → Any P (flat_map f xs) → Any (λ x. Any P (f x)) xs
any_flat P f [] any = absurd (any_none P any)
any_flat P f (x ∷ xs) any = elim (any_cases P (f x) (flat_map f xs) (subst (Any P) (flat_map-cons f x xs) any)) [
  | inl here ↦ any_first (λ y. Any P (f y)) x xs here
  | inr there ↦ any_next (λ y. Any P (f y)) x xs (any_flat P f xs there)
]

pub any_flattened : {X Y : Type 0} (P : Y → Type 0) (f : X → List Y) (xs : List X) → Any (λ x. Any P (f x)) xs → Any P (flat_map f xs)
any_flattened P f [] any = absurd (any_none (λ x. Any P (f x)) any)
any_flattened P f (x ∷ xs) any = subst (Any P) (sym (flat_map-cons f x xs)) (elim (any_split (λ y. Any P (f y)) x xs any) [
  | inl here ↦ any_more P (f x) (flat_map f xs) here
  | inr there ↦ any_right P (f x) (flat_map f xs) (any_flattened P f xs there)
])
