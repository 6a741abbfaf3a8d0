-- The first line feed of a text, found sixteen bytes at a time.
use Rattle.std.proofs.Common.{◌≡◌, ℕ, ◌+◌, ◌%◌, ◌^◌, ◌<◌, ◌≤◌, Bool, true, not, List, [], ◌∷◌, ◌++◌, map, length, get_or, take, drop, refl, sym, ap, ap₂, ◌∙◌, arith, inl, inr}
use Rattle.std.specs.List.{All, position_or_len}
use Rattle.std.proofs.lemmas.Bool.{agree_below, agree_below_at, cases_eq, eq-eqb, ne_eqb, cond-true, cond-false}
use Rattle.std.proofs.lemmas.Simd.{map-map, mask_l-mod, leading_from_mask_l, trailing_mask_l}
use Rattle.std.proofs.lemmas.List.{length-map, length-take-le, take-append-drop}
use Rattle.std.proofs.lemmas.List.Elements.{All-from_get_or, All-head, All-tail}
use Rattle.std.proofs.lemmas.List.Folds.{prefix_len-append}
use Rattle.std.proofs.lemmas.List.Sums.{prefix_len-le-length}
use lib.Lanes.{mask_l, top}
use Rattle.pci_picture.specs.Lines.{is_feed}
use Rattle.pci_picture.specs.Bits.{lowest_of_16}

-- ---- sixteen bytes

agreed : (p q : ℕ → Bool) → agree_below p q 256 ≡ true → (v : List ℕ) → All (λ x. x < 256) v → map p v ≡ map q v
agreed p q all [] low = refl
agreed p q all (x ∷ v) low =
    ap₂ (λ b l. b ∷ l) (agree_below_at p q 256 x all (All-head (λ y. y < 256) x v low)) (agreed p q all v (All-tail (λ y. y < 256) x v low))

run_is : (p : ℕ → Bool) (v : List ℕ) → length v ≡ 16 → lowest_of_16 (mask_l (map p v)) ≡ position_or_len p v
run_is p v long =
    elim (cases_eq (mask_l (map p v)) 0) [
      | inl none ↦ cond-true _ _ _ (eq-eqb _ _ none) ∙ sym (leading_from_mask_l p v none ∙ long)
      | inr some ↦ cond-false _ _ _ (ne_eqb _ _ some) ∙ trailing_mask_l p 64 v (omega (arith, long)) (omega arith)
    ]

-- a lane is set just where its byte is a line feed
pub feed_found : (v z : List ℕ) (place : ℕ) (f : ℕ → ℕ) → length v ≡ 16 → ((k : ℕ) → get_or v k 0 < 256) → place ≡ lowest_of_16 (mask_l (map (top 7) z) % 2 ^ 64)
    → z ≡ map f v → agree_below (λ x. top 7 (f x)) is_feed 256 ≡ true → place ≡ position_or_len is_feed v
feed_found v z place f long fits found lanes all =
    let low : All (λ x. x < 256) v = All-from_get_or (λ x. x < 256) v 0 (λ k below. fits k) in
    let mask : mask_l (map (top 7) z) % 2 ^ 64 ≡ mask_l (map is_feed v) =
    ap (λ l. mask_l l % 2 ^ 64) (ap (map (top 7)) lanes ∙ map-map (top 7) f v ∙ agreed (λ x. top 7 (f x)) is_feed all v low)
    ∙ mask_l-mod (map is_feed v) 64 (omega (arith, length-map v is_feed, long)) in
    found ∙ ap lowest_of_16 mask ∙ run_is is_feed v long

-- ---- what is left of a text

-- the first sixteen bytes have no line feed
pub none_in_16 : (rest front behind : List ℕ) (place : ℕ) → front ≡ take 16 rest → behind ≡ drop 16 rest → 16 ≤ length rest → place ≡ position_or_len is_feed front
    → 16 ≤ place → place + position_or_len is_feed behind ≡ position_or_len is_feed rest
none_in_16 rest front behind place is is_behind room found past =
    let long : length front ≡ 16 = ap length is ∙ length-take-le 16 rest room in
    let bound = prefix_len-le-length (λ x. not (is_feed x)) front in
    let all : position_or_len is_feed front ≡ length front = omega (arith, long, bound, found, past) in
    let joined : front ++ behind ≡ rest = ap₂ (λ a b. a ++ b) is is_behind ∙ take-append-drop 16 rest in
    let sixteen : place ≡ 16 = omega (arith, long, bound, found, past) in
    ap (λ n. n + position_or_len is_feed behind) sixteen
    ∙ sym (sym (ap (position_or_len is_feed) joined) ∙ prefix_len-append (λ x. not (is_feed x)) front behind ∙ cond-true _ _ _ (eq-eqb _ _ all)
    ∙ ap (λ n. n + position_or_len is_feed behind) long)

pub whole_16 : (rest front : List ℕ) (place : ℕ) → front ≡ take 16 rest → 16 ≤ length rest → place ≡ position_or_len is_feed front → 16 ≤ place → place ≡ 16
whole_16 rest front place is room found past =
    let long : length front ≡ 16 = ap length is ∙ length-take-le 16 rest room in
    let bound = prefix_len-le-length (λ x. not (is_feed x)) front in
    omega (arith, long, bound, found, past)

-- they have one
pub one_in_16 : (rest front behind : List ℕ) (place : ℕ) → front ≡ take 16 rest → behind ≡ drop 16 rest → 16 ≤ length rest → place ≡ position_or_len is_feed front
    → place < 16 → place ≡ position_or_len is_feed rest
one_in_16 rest front behind place is is_behind room found less =
    let long : length front ≡ 16 = ap length is ∙ length-take-le 16 rest room in
    let joined : front ++ behind ≡ rest = ap₂ (λ a b. a ++ b) is is_behind ∙ take-append-drop 16 rest in
    found ∙ sym (sym (ap (position_or_len is_feed) joined) ∙ prefix_len-append (λ x. not (is_feed x)) front behind
    ∙ cond-false _ _ _ (ne_eqb (position_or_len is_feed front) (length front) (λ same. omega (arith, same, long, found, less))))
