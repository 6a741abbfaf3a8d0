-- Lists that agree place by place: what is chosen of them, found in them and made of them agrees too.
use Rattle.std.proofs.Common.{◌≡◌, ◌&&◌, ◌||◌, List, [], ◌∷◌, ◌++◌, map, cond, refl, Bool, true, false, Option, None, Some, subst}
use Rattle.std.specs.Prelude.{⊤}
use Rattle.std.specs.List.{AllZip, list_any, list_all, filter, find, flat_map}
use Rattle.std.specs.Option.{is_some}

-- both are there and agree, or neither is there
abbrev pub BothOrNone : {A B : Type 0} → (A → B → Type 0) → Option A → Option B → Type 0
BothOrNone R None None = ⊤
BothOrNone R None (Some y) = ⊥
BothOrNone R (Some x) None = ⊥
BothOrNone R (Some x) (Some y) = R x y

module _ {A B : Type 0} (R : A → B → Type 0) where
  pub both_some : (o : Option A) (p : Option B) → BothOrNone R o p → is_some o ≡ is_some p
  both_some None None both = refl
  both_some None (Some y) both = absurd both
  both_some (Some x) None both = absurd both
  both_some (Some x) (Some y) both = refl

  pub cond_zip : (b c : Bool) → b ≡ c → (xs more : List A) (ys others : List B) → (b ≡ true → AllZip R xs ys) → AllZip R more others → AllZip R (cond b xs more) (cond c ys others)
  cond_zip b c same xs more ys others first second = subst (λ d. AllZip R (cond b xs more) (cond d ys others)) same (by b first)
    where
      by : (d : Bool) → (d ≡ true → AllZip R xs ys) → AllZip R (cond d xs more) (cond d ys others)
      by true there = there refl
      by false there = second

  either_zip : (b c : Bool) → b ≡ c → (x : A) (y : B) (o : Option A) (p : Option B) → R x y → BothOrNone R o p → BothOrNone R (cond b (Some x) o) (cond c (Some y) p)
  either_zip b c same x y o p first second = subst (λ d. BothOrNone R (cond b (Some x) o) (cond d (Some y) p)) same (by b)
    where
      by : (d : Bool) → BothOrNone R (cond d (Some x) o) (cond d (Some y) p)
      by true = first
      by false = second

  pub append_zip : (xs more : List A) (ys others : List B) → AllZip R xs ys → AllZip R more others → AllZip R (xs ++ more) (ys ++ others)
  append_zip [] more [] others pairs rest = rest
  append_zip [] more (y ∷ ys) others pairs rest = absurd pairs
  append_zip (x ∷ xs) more [] others pairs rest = absurd pairs
  append_zip (x ∷ xs) more (y ∷ ys) others (first, pairs) rest = (first, append_zip xs more ys others pairs rest)

  module _ (p : A → Bool) (r : B → Bool) (same : (x : A) (y : B) → R x y → p x ≡ r y) where
    pub any_zip : (xs : List A) (ys : List B) → AllZip R xs ys → list_any p xs ≡ list_any r ys
    any_zip [] [] pairs = refl
    any_zip [] (y ∷ ys) pairs = absurd pairs
    any_zip (x ∷ xs) [] pairs = absurd pairs
    any_zip (x ∷ xs) (y ∷ ys) (first, rest) =
        let here = same x y first in
        let later = any_zip xs ys rest in
        λ i. here i || later i

    pub all_zip : (xs : List A) (ys : List B) → AllZip R xs ys → list_all p xs ≡ list_all r ys
    all_zip [] [] pairs = refl
    all_zip [] (y ∷ ys) pairs = absurd pairs
    all_zip (x ∷ xs) [] pairs = absurd pairs
    all_zip (x ∷ xs) (y ∷ ys) (first, rest) =
        let here = same x y first in
        let later = all_zip xs ys rest in
        λ i. here i && later i

    pub filter_zip : (xs : List A) (ys : List B) → AllZip R xs ys → AllZip R (filter p xs) (filter r ys)
    filter_zip [] [] pairs = tt
    filter_zip [] (y ∷ ys) pairs = absurd pairs
    filter_zip (x ∷ xs) [] pairs = absurd pairs
    filter_zip (x ∷ xs) (y ∷ ys) (first, rest) =
        let later = filter_zip xs ys rest in
        cond_zip (p x) (r y) (same x y first) (x ∷ filter p xs) (filter p xs) (y ∷ filter r ys) (filter r ys) (λ passes. (first, later)) later

    pub find_zip : (xs : List A) (ys : List B) → AllZip R xs ys → BothOrNone R (find p xs) (find r ys)
    find_zip [] [] pairs = tt
    find_zip [] (y ∷ ys) pairs = absurd pairs
    find_zip (x ∷ xs) [] pairs = absurd pairs
    find_zip (x ∷ xs) (y ∷ ys) (first, rest) = either_zip (p x) (r y) (same x y first) x y (find p xs) (find r ys) first (find_zip xs ys rest)

  pub map_same : {C : Type 0} (f : A → C) (g : B → C) → ((x : A) (y : B) → R x y → f x ≡ g y) → (xs : List A) (ys : List B) → AllZip R xs ys → map f xs ≡ map g ys
  map_same f g same [] [] pairs = refl
  map_same f g same [] (y ∷ ys) pairs = absurd pairs
  map_same f g same (x ∷ xs) [] pairs = absurd pairs
  map_same f g same (x ∷ xs) (y ∷ ys) (first, rest) =
      let here = same x y first in
      let later = map_same f g same xs ys rest in
      λ i. here i ∷ later i

  module _ {C D : Type 0} (S : C → D → Type 0) where
    pub map_zip : (f : A → C) (g : B → D) → ((x : A) (y : B) → R x y → S (f x) (g y)) → (xs : List A) (ys : List B) → AllZip R xs ys → AllZip S (map f xs) (map g ys)
    map_zip f g same [] [] pairs = tt
    map_zip f g same [] (y ∷ ys) pairs = absurd pairs
    map_zip f g same (x ∷ xs) [] pairs = absurd pairs
    map_zip f g same (x ∷ xs) (y ∷ ys) (first, rest) = (same x y first, map_zip f g same xs ys rest)

pub flat_zip : {A B C D : Type 0} (R : A → B → Type 0) (S : C → D → Type 0) (f : A → List C) (g : B → List D) → ((x : A) (y : B) → R x y → AllZip S (f x) (g y))
    → (xs : List A) (ys : List B) → AllZip R xs ys → AllZip S (flat_map f xs) (flat_map g ys)
flat_zip R S f g same [] [] pairs = tt
flat_zip R S f g same [] (y ∷ ys) pairs = absurd pairs
flat_zip R S f g same (x ∷ xs) [] pairs = absurd pairs
flat_zip R S f g same (x ∷ xs) (y ∷ ys) (first, rest) = append_zip S (f x) (flat_map f xs) (g y) (flat_map g ys) (same x y first) (flat_zip R S f g same xs ys rest)
