-- Two lists that have the same values, element by element.
use Rattle.std.proofs.Common.{◌≡◌, List, [], ◌∷◌, map, refl, Bool, true, false, cond, not, ◌&&◌, ◌||◌, sym, ◌∙◌, ap}
use Rattle.std.specs.List.{filter, list_any, list_all}

-- a filter of what a function makes
pub filter-map : {X Y : Type 0} (test : Y → Bool) (f : X → Y) (xs : List X) → filter test (map f xs) ≡ map f (filter (λ x. test (f x)) xs)
filter-map test f [] = refl
filter-map test f (x ∷ xs) =
    elim (test (f x)) as (λ b. cond b (f x ∷ filter test (map f xs)) (filter test (map f xs)) ≡ map f (cond b (x ∷ filter (λ y. test (f y)) xs) (filter (λ y. test (f y)) xs))) [
      | true ↦ ap (λ ys. f x ∷ ys) (filter-map test f xs)
      | false ↦ filter-map test f xs
    ]

pub list_any-map : {X Y : Type 0} (test : Y → Bool) (f : X → Y) (xs : List X) → list_any test (map f xs) ≡ list_any (λ x. test (f x)) xs
list_any-map test f [] = refl
list_any-map test f (x ∷ xs) = ap (λ b. test (f x) || b) (list_any-map test f xs)

-- some element fails a test where not all pass
pub any_fails : {X : Type 0} (test : X → Bool) (xs : List X) → list_any (λ x. not (test x)) xs ≡ not (list_all test xs)
any_fails test [] = refl
any_fails test (x ∷ xs) =
    elim (test x) as (λ b. (not b || list_any (λ y. not (test y)) xs) ≡ not (b && list_all test xs)) [ true ↦ any_fails test xs | false ↦ refl ]

module _ {X Y Z : Type 0} (f : X → Z) (g : Y → Z) (test : X → Bool) (other : Y → Bool) (agree : (x : X) (y : Y) → f x ≡ g y → test x ≡ other y) where
  -- tests of the same values
  pub any_same : (xs : List X) (ys : List Y) → map f xs ≡ map g ys → list_any test xs ≡ list_any other ys
  any_same [] [] e = refl
  any_same [] (y ∷ ys) e = cc
  any_same (x ∷ xs) [] e = cc
  any_same (x ∷ xs) (y ∷ ys) e =
      let head : f x ≡ g y = cc in
      let tail : map f xs ≡ map g ys = cc in
      let here : test x ≡ other y = agree x y head in
      let rest : list_any test xs ≡ list_any other ys = any_same xs ys tail in
      cc

  map_cond : {A B : Type 0} (h : A → B) (b : Bool) (x : A) (xs : List A) → map h (cond b (x ∷ xs) xs) ≡ cond b (h x ∷ map h xs) (map h xs)
  map_cond h true x xs = refl
  map_cond h false x xs = refl

  -- what is made of the elements that pass
  pub kept_same : {W : Type 0} (v : X → W) (w : Y → W) → ((x : X) (y : Y) → f x ≡ g y → v x ≡ w y)
      → (xs : List X) (ys : List Y) → map f xs ≡ map g ys → map v (filter test xs) ≡ map w (filter other ys)
  kept_same v w values [] [] e = refl
  kept_same v w values [] (y ∷ ys) e = cc
  kept_same v w values (x ∷ xs) [] e = cc
  kept_same v w values (x ∷ xs) (y ∷ ys) e =
      let head : f x ≡ g y = cc in
      let tail : map f xs ≡ map g ys = cc in
      let here : test x ≡ other y = agree x y head in
      let value : v x ≡ w y = values x y head in
      let rest : map v (filter test xs) ≡ map w (filter other ys) = kept_same v w values xs ys tail in
      let left : map v (filter test (x ∷ xs)) ≡ cond (test x) (v x ∷ map v (filter test xs)) (map v (filter test xs)) = map_cond v (test x) x (filter test xs) in
      let right : map w (filter other (y ∷ ys)) ≡ cond (other y) (w y ∷ map w (filter other ys)) (map w (filter other ys)) = map_cond w (other y) y (filter other ys) in
      let middle : cond (test x) (v x ∷ map v (filter test xs)) (map v (filter test xs)) ≡ cond (other y) (w y ∷ map w (filter other ys)) (map w (filter other ys)) = cc in
      left ∙ middle ∙ sym right
