-- What is told of the first element of a list that passes a test.
use Rattle.std.proofs.Common.{◌≡◌, List, [], ◌∷◌, ◌++◌, map, Bool, true, false, cond, ◌&&◌, refl, ◌∙◌, ap, Option, None, Some}
use Rattle.std.specs.Option.{option_map, option_or, is_some}
use Rattle.std.specs.List.{Contains, filter, find}
use Rattle.pci_spec.proofs.Members.{in_head, in_tail}
use Rattle.pci_settle.specs.Fixed.{first}

module _ {X Z : Type 0} (value : X → Z) where
  pub first_none : (xs : List X) → first value (λ x. false) xs ≡ None
  first_none [] = refl
  first_none (x ∷ xs) = first_none xs

  pub first-append : (p : X → Bool) (xs ys : List X) → first value p (xs ++ ys) ≡ option_or (first value p xs) (first value p ys)
  first-append p [] ys = refl
  first-append p (x ∷ xs) ys =
      elim (p x) as (λ b. option_map value (cond b (Some x) (find p (xs ++ ys))) ≡ option_or (option_map value (cond b (Some x) (find p xs))) (first value p ys)) [
        | true ↦ refl
        | false ↦ first-append p xs ys
      ]

  pub first_same : (p o : X → Bool) (xs : List X) → ((x : X) → Contains xs x → p x ≡ o x) → first value p xs ≡ first value o xs
  first_same p o [] same = refl
  first_same p o (x ∷ xs) same =
      ap (λ b. option_map value (cond b (Some x) (find p xs))) (same x (in_head x xs))
      ∙ (elim (o x) as (λ b. option_map value (cond b (Some x) (find p xs)) ≡ option_map value (cond b (Some x) (find o xs))) [
        | true ↦ refl
        | false ↦ first_same p o xs (λ y listed. same y (in_tail x xs y listed))
      ])

  pub first-filter : (keep p : X → Bool) (xs : List X) → first value p (filter keep xs) ≡ first value (λ x. keep x && p x) xs
  first-filter keep p [] = refl
  first-filter keep p (x ∷ xs) =
      elim (keep x) as (λ b. first value p (cond b (x ∷ filter keep xs) (filter keep xs)) ≡ option_map value (cond (b && p x) (Some x) (find (λ y. keep y && p y) xs))) [
        | true ↦ elim (p x) as (λ b. option_map value (cond b (Some x) (find p (filter keep xs))) ≡ option_map value (cond b (Some x) (find (λ y. keep y && p y) xs))) [
          | true ↦ refl
          | false ↦ first-filter keep p xs
        ]
        | false ↦ first-filter keep p xs
      ]

module _ {X Y Z : Type 0} where
  pub first-map : (value : Y → Z) (p : Y → Bool) (make : X → Y) (xs : List X) → first value p (map make xs) ≡ first (λ x. value (make x)) (λ x. p (make x)) xs
  first-map value p make [] = refl
  first-map value p make (x ∷ xs) =
      elim (p (make x)) as (λ b. option_map value (cond b (Some (make x)) (find p (map make xs))) ≡ option_map (λ y. value (make y)) (cond b (Some x) (find (λ y. p (make y)) xs))) [
        | true ↦ refl
        | false ↦ first-map value p make xs
      ]

  -- two lists of the same values
  pub first_pair : {W : Type 0} (a : X → W) (b : Y → W) (value : X → Z) (other : Y → Z) (p : X → Bool) (o : Y → Bool) → ((x : X) (y : Y) → a x ≡ b y → (p x ≡ o y) × (value x ≡ other y))
      → (xs : List X) (ys : List Y) → map a xs ≡ map b ys → first value p xs ≡ first other o ys
  first_pair a b value other p o same [] [] e = refl
  first_pair a b value other p o same [] (y ∷ ys) e = cc
  first_pair a b value other p o same (x ∷ xs) [] e = cc
  first_pair a b value other p o same (x ∷ xs) (y ∷ ys) e =
      let head : a x ≡ b y = cc in
      let tail : map a xs ≡ map b ys = cc in
      let both = same x y head in
      ap (λ c. option_map value (cond c (Some x) (find p xs))) both.0
      ∙ (elim (o y) as (λ c. option_map value (cond c (Some x) (find p xs)) ≡ option_map other (cond c (Some y) (find o ys))) [
        | true ↦ ap Some both.1
        | false ↦ first_pair a b value other p o same xs ys tail
      ])

pub map_twice : {X Y Z : Type 0} (g : Y → Z) (h : X → Y) (o : Option X) → option_map g (option_map h o) ≡ option_map (λ x. g (h x)) o
map_twice g h None = refl
map_twice g h (Some x) = refl

-- of two answers the first counts, where there is one
pub or_some : {X : Type 0} (o other : Option X) → is_some o ≡ true → option_or o other ≡ o
or_some None other some = cc
or_some (Some x) other some = refl

pub or_none : {X : Type 0} (o other : Option X) → is_some o ≡ false → option_or o other ≡ other
or_none None other none = refl
or_none (Some x) other none = cc
