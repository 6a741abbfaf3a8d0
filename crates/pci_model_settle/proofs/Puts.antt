-- Writes made one after another, and bytes put one after another.
use Rattle.std.proofs.Common.{◌≡◌, ℕ, zero, suc, ◌+◌, ◌-◌, ◌/◌, ◌%◌, ◌<◌, ◌≤◌, List, [], ◌∷◌, ◌++◌, length, get_or, map, take, drop, set, refl, arith, sym, ◌∙◌, ap}
use Rattle.std.proofs.lemmas.List.{get_or-map, take_more, take_more_set, drop-set-lt, set_past}
use Rattle.pci_spec.specs.Text.{Block, slots_of}
use Rattle.judge_spec.specs.Windows.{with_number}

map_end : {X Y : Type 0} (f : X → Y) (xs : List X) (x : X) → map f (xs ++ x ∷ []) ≡ map f xs ++ f x ∷ []
map_end f [] x = refl
map_end f (y ∷ xs) x = ap (λ rest. f y ∷ rest) (map_end f xs x)

at_drop : {X : Type 0} (xs : List X) (i : ℕ) (d : X) → get_or xs i d ≡ get_or (drop i xs) 0 d
at_drop xs zero d = refl
at_drop [] (suc i) d = refl
at_drop (x ∷ xs) (suc i) d = at_drop xs i d

drop_suc : {X : Type 0} (xs : List X) (i : ℕ) → drop (suc i) xs ≡ drop 1 (drop i xs)
drop_suc xs zero = refl
drop_suc [] (suc i) = refl
drop_suc (x ∷ xs) (suc i) = drop_suc xs i

drop_next : {X : Type 0} (xs : List X) (i : ℕ) → drop (i + 1) xs ≡ drop 1 (drop i xs)
drop_next xs i = ap (λ n. drop n xs) (let e : i + 1 ≡ suc i = omega arith in e) ∙ drop_suc xs i

module _ {X Y : Type 0} (f : X → Y) (g : Y → Y) where
  pub next_made : (xs ys : List X) (i : ℕ) (v d : X) → i < length xs → i < length ys → map f (take i xs) ≡ map g (map f (take i ys)) → drop i xs ≡ drop i ys → f v ≡ g (f (get_or xs i d))
      → map f (take (i + 1) (set xs i v)) ≡ map g (map f (take (i + 1) ys))
  next_made xs ys i v d low below made rest is =
      let here : get_or xs i d ≡ get_or ys i d = at_drop xs i d ∙ ap (λ l. get_or l 0 d) rest ∙ sym (at_drop ys i d) in
      ap (map f) (take_more_set xs i v low) ∙ map_end f (take i xs) v
      ∙ ap (λ l. l ++ f v ∷ []) made ∙ ap (λ y. map g (map f (take i ys)) ++ y ∷ []) (is ∙ ap (λ x. g (f x)) here)
      ∙ sym (ap (λ l. map g (map f l)) (take_more ys i d below) ∙ ap (map g) (map_end f (take i ys) (get_or ys i d)) ∙ map_end g (map f (take i ys)) (f (get_or ys i d)))

pub next_rest : {X : Type 0} (xs ys : List X) (i : ℕ) (v : X) → drop i xs ≡ drop i ys → drop (i + 1) (set xs i v) ≡ drop (i + 1) ys
next_rest xs ys i v rest = drop-set-lt (i + 1) xs i v (omega arith) ∙ drop_next xs i ∙ ap (drop 1) rest ∙ sym (drop_next ys i)

-- ---- bytes

-- the next byte is put, and what is left makes the same
pub byte_put : (width j offset rest : ℕ) (image : List ℕ) → j < width
    → with_number (width - (j + 1)) (offset + (j + 1)) (rest / 256) (set image (offset + j) (rest % 256)) ≡ with_number (width - j) (offset + j) rest image
byte_put width j offset rest image less =
    let count : width - j ≡ suc (width - (j + 1)) = omega (arith, less) in
    let place : offset + (j + 1) ≡ (offset + j) + 1 = omega arith in
    ap (λ p. with_number (width - (j + 1)) p (rest / 256) (set image (offset + j) (rest % 256))) place
    ∙ sym (ap (λ n. with_number n (offset + j) rest image) count)

pub byte_past : (width j offset rest : ℕ) (image : List ℕ) → j < width → length image ≤ offset + j
    → with_number (width - (j + 1)) (offset + (j + 1)) (rest / 256) image ≡ with_number (width - j) (offset + j) rest image
byte_past width j offset rest image less past =
    ap (with_number (width - (j + 1)) (offset + (j + 1)) (rest / 256)) (sym (set_past image (offset + j) (rest % 256) past)) ∙ byte_put width j offset rest image less

-- ---- lists

pub drop_here : {X : Type 0} (xs : List X) (n : ℕ) (x : X) → n < length xs → x ≡ get_or xs n x → drop n xs ≡ x ∷ drop (n + 1) xs
drop_here [] n x low is = absurd (let no : ⊥ = omega (arith, low) in no)
drop_here (y ∷ xs) zero x low is = ap (λ z. z ∷ xs) (sym is)
drop_here (y ∷ xs) (suc n) x low is = drop_here xs n x (omega (arith, low)) is ∙ ap (λ rest. x ∷ rest) (sym (ap (λ m. drop m (y ∷ xs)) (let e : suc n + 1 ≡ suc (n + 1) = omega arith in e)))

pub take_slots : (blocks : List Block) (n : ℕ) → slots_of (take n blocks) ≡ take n (slots_of blocks)
take_slots blocks zero = refl
take_slots [] (suc n) = refl
take_slots (b ∷ blocks) (suc n) = ap (λ slots. b.slot ∷ slots) (take_slots blocks n)

-- two lists of the same slots have the same slot at an index
pub slot_at : (blocks dump : List Block) (n : ℕ) (b : Block) → n < length blocks → n < length dump → b ≡ get_or blocks n b → slots_of blocks ≡ slots_of dump → b.slot ≡ (get_or dump n b).slot
slot_at blocks dump n b low below is same =
    ap (λ (x : Block). x.slot) is ∙ sym (get_or-map (λ (x : Block). x.slot) blocks n b b.slot low)
    ∙ ap (λ slots. get_or slots n b.slot) same ∙ get_or-map (λ (x : Block). x.slot) dump n b b.slot below
