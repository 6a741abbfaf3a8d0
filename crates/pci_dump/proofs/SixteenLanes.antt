-- Vectors of sixteen bytes, lane by lane.
use Rattle.std.proofs.Common.{◌≡◌, ℕ, zero, suc, ◌+◌, ◌*◌, ◌/◌, ◌%◌, ◌^◌, ◌-◌, ◌<◌, List, [], ◌∷◌, ◌++◌, refl, arith, sym, ◌∙◌, ap, subst, length, get_or, take, replicate, Bool, true, false, cond, eqb, w8}
use Rattle.std.specs.Prelude.{nat_lt, ◌==◌}
use mathlib.Core.List.{map}
use lib.Dec.{T}
use lib.Lanes.{Each1, zip2, sel_l, mask_l, top, pick_l, all_below}
use mir.Val.{Fits}
use native.Mathlib.Nat.{two-pow-succ}
use borrow.Rule.Simd.Lanes.{act2}
use borrow.Table.Row.{s_int}
use mir.Syntax.{bit_and as lane_and, bit_or as lane_or, mask, lt, eq, unsigned, wrap_add, wrap_sub, shl}
use Rattle.pci_spec.specs.Number.{each_from}
use Rattle.pci_spec.specs.Text.{hex_digit}
use Rattle.pci_spec.proofs.Bits.{each_from-at}
use Rattle.std.proofs.lemmas.Bool.{eqb-true, eq-eqb, cond-true, ltb-true, false≢true}
use Rattle.std.proofs.lemmas.List.{length-map}
use Rattle.std.proofs.lemmas.List.{get_or-map}
use Rattle.std.proofs.lemmas.Nat.{le_or_l, le_or_r}
use Rattle.std.proofs.lemmas.Simd.{mask_l-mod, bit_mask_l, pick_l_left, pick_l_whole, get_or-zip2}
use Rattle.std.proofs.lemmas.Grind.{same_number_lists}
use Rattle.std.specs.List.{range_with_len, slice_range}
use Rattle.pci_dump.specs.Value.{AreValues, AreSmall}
use Rattle.pci_dump.specs.Lane.{IsDigit, AreDigits, AreSpaces, AreZero}

abbrev pub less : ℕ → ℕ → ℕ
less = act2 (mask (lt unsigned)) (s_int w8) (s_int w8) (s_int w8)

abbrev pub same : ℕ → ℕ → ℕ
same = act2 (mask eq) (s_int w8) (s_int w8) (s_int w8)

abbrev pub minus : ℕ → ℕ → ℕ
minus = act2 wrap_sub (s_int w8) (s_int w8) (s_int w8)

abbrev pub plus : ℕ → ℕ → ℕ
plus = act2 wrap_add (s_int w8) (s_int w8) (s_int w8)

abbrev pub both : ℕ → ℕ → ℕ
both = act2 lane_and (s_int w8) (s_int w8) (s_int w8)

abbrev pub either : ℕ → ℕ → ℕ
either = act2 lane_or (s_int w8) (s_int w8) (s_int w8)

abbrev pub shifted : ℕ → ℕ → ℕ
shifted = act2 shl (s_int w8) (s_int w8) (s_int w8)

-- ---- masks

abbrev is_one_at : ℕ → Bool
is_one_at k = eqb (65535 / 2 ^ k % 2) 1

all_ones : each_from 0 16 is_one_at ≡ true
unfolding each_from
all_ones = refl

true_from_one : (b : Bool) → ◌≡◌ {A = ℕ} (cond b 1 0) 1 → b ≡ true
true_from_one true e = refl
true_from_one false e = absurd (let no : ⊥ = omega (arith, e) in no)

full_mask : (ms : List Bool) → ((k : ℕ) → k < length ms → get_or ms k false ≡ true) → mask_l ms + 1 ≡ 2 ^ length ms
full_mask [] each = refl
full_mask (m ∷ ms) each =
    let first : ◌≡◌ {A = ℕ} (cond m 1 0) 1 = ap (λ (b : Bool). cond b 1 0) (each 0 (omega arith)) in
    let rest = full_mask ms (λ k below. each (suc k) (omega (arith, below))) in
    let double = two-pow-succ (length ms) in
    omega (arith, first, rest, double)

pub all_set : (test : ℕ → Bool) (xs : List ℕ) → length xs ≡ 16 → eqb (mask_l (map test xs) % 2 ^ 64) 65535 ≡ true → (k : ℕ) → k < 16 → test (get_or xs k 0) ≡ true
all_set test xs long e k below =
    let many = length-map xs test in
    let full : mask_l (map test xs) ≡ 65535 = sym (mask_l-mod (map test xs) 64 (omega (arith, long, many))) ∙ eqb-true _ 65535 e in
    let set = eqb-true (65535 / 2 ^ k % 2) 1 (each_from-at 0 16 is_one_at all_ones k (omega arith) (omega (arith, below))) in
    let one = sym (bit_mask_l (map test xs) k) ∙ ap (λ n. n / 2 ^ k % 2) full ∙ set in
    sym (get_or-map test xs k 0 false (omega (arith, below, long))) ∙ true_from_one _ one

pub set_all : (test : ℕ → Bool) (xs : List ℕ) → length xs ≡ 16 → ((k : ℕ) → k < 16 → test (get_or xs k 0) ≡ true) → eqb (mask_l (map test xs) % 2 ^ 64) 65535 ≡ true
set_all test xs long each =
    let many = length-map xs test in
    let full = full_mask (map test xs) (λ k below. get_or-map test xs k 0 false (omega (arith, below, many)) ∙ each k (omega (arith, below, many, long))) in
    let power : 2 ^ length (map test xs) ≡ 65536 = ap (λ n. 2 ^ n) (many ∙ long) in
    eq-eqb _ 65535 (mask_l-mod (map test xs) 64 (omega (arith, long, many)) ∙ (let all : mask_l (map test xs) ≡ 65535 = omega (arith, full, power) in all))

-- ---- zeros

abbrev pub zero_test : ℕ → Bool
zero_test c = top 7 (same c 0)

pub zeros_map : (cells : List ℕ) → map (top 7) (zip2 same cells (replicate (length cells) 0)) ≡ map zero_test cells
zeros_map [] = refl
zeros_map (c ∷ cells) = ap (λ l. zero_test c ∷ l) (zeros_map cells)

abbrev is_right_zero : ℕ → Bool
is_right_zero c = cond (zero_test c) (c == 0) true

all_right_zeros : each_from 0 256 is_right_zero ≡ true
unfolding each_from
all_right_zeros = refl

pub is_zero : (c : ℕ) → c < 256 → zero_test c ≡ true → c ≡ 0
is_zero c small e = eqb-true c 0 (sym (cond-true (zero_test c) (c == 0) true e) ∙ each_from-at 0 256 is_right_zero all_right_zeros c (omega arith) (omega (arith, small)))

pub passes_zero : (c : ℕ) → c ≡ 0 → zero_test c ≡ true
passes_zero c e = ap zero_test e

-- a lane that is 0 is 0 in both
pub both_zero : (a b : ℕ) → either a b ≡ 0 → (a ≡ 0) × (b ≡ 0)
both_zero a b e = let l = le_or_l a b in let r = le_or_r a b in (omega (arith, l, e), omega (arith, r, e))

pub zero_of_both : (a b : ℕ) → a ≡ 0 → b ≡ 0 → either a b ≡ 0
zero_of_both a b p q = λ i. either (p i) (q i)

-- bytes that differ by 0 are the same
pub same_lane : (a b : ℕ) → a < 256 → b < 256 → minus a b ≡ 0 → a ≡ b
same_lane a b x y e = let d : (a + (256 - b)) % 256 ≡ 0 = e in omega (arith, x, y, d)

pub same_vectors : (xs ys : List ℕ) → length xs ≡ 16 → length ys ≡ 16 → AreSmall xs → AreSmall ys → AreZero (zip2 minus xs ys) → xs ≡ ys
same_vectors xs ys lx ly sx sy none =
    same_number_lists xs ys (lx ∙ sym ly) (λ k below.
    same_lane (get_or xs k 0) (get_or ys k 0) (sx k) (sy k) (sym (get_or-zip2 minus xs ys k 0 0 0 (omega (arith, below)) (omega (arith, below, lx, ly))) ∙ none k (omega (arith, below, lx))))

-- ---- spaces

abbrev pub less_32 : ℕ → ℕ
less_32 c = minus c 32

pub spaces_map : (cells : List ℕ) → zip2 minus cells (replicate (length cells) 32) ≡ map less_32 cells
spaces_map [] = refl
spaces_map (c ∷ cells) = ap (λ l. less_32 c ∷ l) (spaces_map cells)

-- ---- digits

-- the lesser of two lanes
abbrev pub least : ℕ → ℕ → ℕ
least a b = cond (top 7 (less a b)) a b

abbrev pub least_l : List ℕ → List ℕ → List ℕ
least_l xs ys = sel_l (map (top 7) (zip2 less xs ys)) xs ys

-- a difference that stops at 0
abbrev pub down : ℕ → ℕ → ℕ
down a b = minus (cond (top 7 (less a b)) b a) b

abbrev pub down_l : List ℕ → List ℕ → List ℕ
down_l xs ys = zip2 minus (sel_l (map (top 7) (zip2 less xs ys)) ys xs) ys

-- what a digit stands for, and 16 or more for any other byte
abbrev pub digit_number : ℕ → ℕ
digit_number c = least (plus (down (plus c 198) 6) 16) (plus (least (minus c 97) 245) 10)

abbrev pub numbers_of : List ℕ → ℕ → List ℕ
numbers_of cells n = least_l (zip2 plus (down_l (zip2 plus cells (replicate n 198)) (replicate n 6)) (replicate n 16)) (zip2 plus (least_l (zip2 minus cells (replicate n 97)) (replicate n 245)) (replicate n 10))

pub numbers_map : (cells : List ℕ) → numbers_of cells (length cells) ≡ map digit_number cells
numbers_map [] = refl
numbers_map (c ∷ cells) = ap (λ l. digit_number c ∷ l) (numbers_map cells)

-- 0 where it is a digit
abbrev pub digit_wrong : ℕ → ℕ
digit_wrong c = both (digit_number c) 240

pub wrong_map : (cells : List ℕ) → zip2 both (numbers_of cells (length cells)) (replicate (length cells) 240) ≡ map digit_wrong cells
wrong_map [] = refl
wrong_map (c ∷ cells) = ap (λ l. digit_wrong c ∷ l) (wrong_map cells)

abbrev pub join : ℕ → ℕ → ℕ
join high low = either (shifted high 4) low

pub joined : (highs lows : List ℕ) → zip2 either (zip2 shifted highs (replicate (length highs) 4)) lows ≡ zip2 join highs lows
joined [] lows = refl
joined (h ∷ highs) [] = refl
joined (h ∷ highs) (l ∷ lows) = ap (λ r. join h l ∷ r) (joined highs lows)

-- ---- each byte

abbrev is_right_digit : ℕ → Bool
is_right_digit c = cond (digit_wrong c == 0) (cond (nat_lt (digit_number c) 16) (c == hex_digit (digit_number c)) false) true

all_right_digits : each_from 0 256 is_right_digit ≡ true
unfolding each_from
all_right_digits = refl

abbrev is_right_number : ℕ → Bool
is_right_number d = cond (digit_wrong (hex_digit d) == 0) (digit_number (hex_digit d) == d) false

all_right_numbers : each_from 0 16 is_right_number ≡ true
unfolding each_from
all_right_numbers = refl

abbrev is_right_join : ℕ → Bool
is_right_join v = join (v / 16) (v % 16) == v

all_right_joins : each_from 0 256 is_right_join ≡ true
unfolding each_from
all_right_joins = refl

first_true : (a b : Bool) → cond a b false ≡ true → a ≡ true
first_true true b e = refl
first_true false b e = absurd (false≢true e)

then_true : (a b : Bool) → cond a b false ≡ true → b ≡ true
then_true true b e = e
then_true false b e = absurd (false≢true e)

pub right_digit : (c : ℕ) → c < 256 → digit_wrong c ≡ 0 → IsDigit c
right_digit c small e =
    let test = each_from-at 0 256 is_right_digit all_right_digits c (omega arith) (omega (arith, small)) in
    let right = sym (cond-true (digit_wrong c == 0) (cond (nat_lt (digit_number c) 16) (c == hex_digit (digit_number c)) false) true (eq-eqb (digit_wrong c) 0 e)) ∙ test in
    let below = first_true (nat_lt (digit_number c) 16) (c == hex_digit (digit_number c)) right in
    let same = then_true (nat_lt (digit_number c) 16) (c == hex_digit (digit_number c)) right in
    (digit_number c, ltb-true (digit_number c) 16 below, eqb-true c (hex_digit (digit_number c)) same)

pub digit_is_right : (c : ℕ) → IsDigit c → digit_wrong c ≡ 0
digit_is_right c d =
    ap digit_wrong d.2 ∙ eqb-true _ 0 (first_true _ _ (each_from-at 0 16 is_right_number all_right_numbers d.0 (omega arith) (omega (arith, d.1))))

pub number_is : (d : ℕ) → d < 16 → digit_number (hex_digit d) ≡ d
number_is d small = eqb-true _ d (then_true _ _ (each_from-at 0 16 is_right_number all_right_numbers d (omega arith) (omega (arith, small))))

pub join_is : (v : ℕ) → v < 256 → join (v / 16) (v % 16) ≡ v
join_is v small = eqb-true _ v (each_from-at 0 256 is_right_join all_right_joins v (omega arith) (omega (arith, small)))

-- what holds for a vector's own length holds for sixteen
pub at_sixteen : (xs : List ℕ) → length xs ≡ 16 → (P : ℕ → Type 0) → P (length xs) → P 16
at_sixteen xs long P h = subst P long h

-- each lane is a byte
pub byte_at_lane : (xs : List ℕ) (k : ℕ) → Each1 (Fits w8) xs → get_or xs k 0 < 256
byte_at_lane [] k fits = omega arith
byte_at_lane (x ∷ xs) zero fits = let f = fits.0.fits in omega (arith, f)
byte_at_lane (x ∷ xs) (suc k) fits = byte_at_lane xs k fits.1

-- ---- every third of 48

-- the cells of one third, in the lanes that they have in the line's three parts
abbrev pub places : ℕ → List ℕ
places n = map (λ i. (33 * i + 16 * n) % 48) (range_with_len 0 16)

-- the lanes of one third, in the order of their cells
abbrev pub lanes : ℕ → List ℕ
lanes n = map (λ k. (3 * k + n) % 16) (range_with_len 0 16)

abbrev is_right_place : ℕ → ℕ → Bool
is_right_place n k = cond (get_or (places n) ((3 * k + n) % 16) 0 == 3 * k + n) (get_or (lanes n) k 0 == (3 * k + n) % 16) false

abbrev is_right_lane : ℕ → ℕ → Bool
is_right_lane n i = cond (get_or (places n) i 0 == 3 * (get_or (places n) i 0 / 3) + n) (nat_lt (get_or (places n) i 0 / 3) 16) false

-- one of the three thirds
abbrev AreRight : ℕ → Type 0
AreRight n = (each_from 0 16 (is_right_place n) ≡ true) × (each_from 0 16 (is_right_lane n) ≡ true)

right_0 : AreRight 0
unfolding each_from
right_0 = (refl, refl)

right_1 : AreRight 1
unfolding each_from
right_1 = (refl, refl)

right_2 : AreRight 2
unfolding each_from
right_2 = (refl, refl)

-- the lane of a value's cell
third_at : (xs : List ℕ) (n k : ℕ) → AreRight n → k < 16 → get_or (pick_l 0 xs (places n)) ((3 * k + n) % 16) 0 ≡ get_or xs (3 * k + n) 0
third_at xs n k right below =
    let at = eqb-true (get_or (places n) ((3 * k + n) % 16) 0) (3 * k + n) (first_true _ _ (each_from-at 0 16 (is_right_place n) right.0 k (omega arith) (omega (arith, below)))) in
    get_or-map (λ j. get_or xs j 0) (places n) ((3 * k + n) % 16) 0 0 (omega arith) ∙ ap (λ j. get_or xs j 0) at

-- the value of a lane
record HasValue (xs picked : List ℕ) (n i : ℕ) : Type 0 where
  value : ℕ
  few : value < 16
  same : get_or picked i 0 ≡ get_or xs (3 * value + n) 0

value_of : (xs picked : List ℕ) (n i : ℕ) → AreRight n → i < 16 → picked ≡ pick_l 0 xs (places n) → HasValue xs picked n i
value_of xs picked n i right below is =
    let test = each_from-at 0 16 (is_right_lane n) right.1 i (omega arith) (omega (arith, below)) in
    let at = eqb-true (get_or (places n) i 0) (3 * (get_or (places n) i 0 / 3) + n) (first_true _ _ test) in
    record {
      value = get_or (places n) i 0 / 3;
      few = ltb-true _ 16 (then_true _ _ test);
      same = ap (λ (l : List ℕ). get_or l i 0) is ∙ get_or-map (λ j. get_or xs j 0) (places n) i 0 0 (omega (arith, below)) ∙ ap (λ j. get_or xs j 0) at;
    }

-- what stands in a third's lanes, in the order of its cells
ordered_at : (ys : List ℕ) (n k : ℕ) → AreRight n → T (all_below 16 (lanes n)) → length ys ≡ 16 → k < 16 → get_or (pick_l 0 (ys ++ ys) (lanes n)) k 0 ≡ get_or ys ((3 * k + n) % 16) 0
ordered_at ys n k right inside long below =
    let at = eqb-true (get_or (lanes n) k 0) ((3 * k + n) % 16) (then_true (get_or (places n) ((3 * k + n) % 16) 0 == 3 * k + n) (get_or (lanes n) k 0 == (3 * k + n) % 16) (each_from-at 0 16 (is_right_place n) right.0 k (omega arith) (omega (arith, below)))) in
    ap (λ (l : List ℕ). get_or l k 0) (pick_l_left 0 ys ys 16 (lanes n) long inside) ∙ get_or-map (λ j. get_or ys j 0) (lanes n) k 0 0 (omega (arith, below)) ∙ ap (λ j. get_or ys j 0) at

-- two shuffles of a line's three parts
abbrev pub picked : List ℕ → List ℕ → List ℕ → List ℕ
picked xs first second = pick_l 0 (pick_l 0 (take 16 (slice_range xs 0 16) ++ take 16 (slice_range xs 16 32)) first ++ take 16 (slice_range xs 32 48)) second

pub thirds_0 : (xs : List ℕ) → length xs ≡ 48 → picked xs (0 ∷ 1 ∷ 18 ∷ 3 ∷ 4 ∷ 21 ∷ 6 ∷ 7 ∷ 24 ∷ 9 ∷ 10 ∷ 27 ∷ 12 ∷ 13 ∷ 30 ∷ 15 ∷ []) (0 ∷ 17 ∷ 2 ∷ 3 ∷ 20 ∷ 5 ∷ 6 ∷ 23 ∷ 8 ∷ 9 ∷ 26 ∷ 11 ∷ 12 ∷ 29 ∷ 14 ∷ 15 ∷ []) ≡ pick_l 0 xs (places 0)
thirds_0 xs long = subst (λ (ys : List ℕ). picked ys (0 ∷ 1 ∷ 18 ∷ 3 ∷ 4 ∷ 21 ∷ 6 ∷ 7 ∷ 24 ∷ 9 ∷ 10 ∷ 27 ∷ 12 ∷ 13 ∷ 30 ∷ 15 ∷ []) (0 ∷ 17 ∷ 2 ∷ 3 ∷ 20 ∷ 5 ∷ 6 ∷ 23 ∷ 8 ∷ 9 ∷ 26 ∷ 11 ∷ 12 ∷ 29 ∷ 14 ∷ 15 ∷ []) ≡ pick_l 0 ys (places 0)) (pick_l_whole 0 xs 48 long) refl

pub thirds_1 : (xs : List ℕ) → length xs ≡ 48 → picked xs (16 ∷ 1 ∷ 2 ∷ 19 ∷ 4 ∷ 5 ∷ 22 ∷ 7 ∷ 8 ∷ 25 ∷ 10 ∷ 11 ∷ 28 ∷ 13 ∷ 14 ∷ 31 ∷ []) (0 ∷ 1 ∷ 18 ∷ 3 ∷ 4 ∷ 21 ∷ 6 ∷ 7 ∷ 24 ∷ 9 ∷ 10 ∷ 27 ∷ 12 ∷ 13 ∷ 30 ∷ 15 ∷ []) ≡ pick_l 0 xs (places 1)
thirds_1 xs long = subst (λ (ys : List ℕ). picked ys (16 ∷ 1 ∷ 2 ∷ 19 ∷ 4 ∷ 5 ∷ 22 ∷ 7 ∷ 8 ∷ 25 ∷ 10 ∷ 11 ∷ 28 ∷ 13 ∷ 14 ∷ 31 ∷ []) (0 ∷ 1 ∷ 18 ∷ 3 ∷ 4 ∷ 21 ∷ 6 ∷ 7 ∷ 24 ∷ 9 ∷ 10 ∷ 27 ∷ 12 ∷ 13 ∷ 30 ∷ 15 ∷ []) ≡ pick_l 0 ys (places 1)) (pick_l_whole 0 xs 48 long) refl

pub thirds_2 : (xs : List ℕ) → length xs ≡ 48 → picked xs (0 ∷ 17 ∷ 2 ∷ 3 ∷ 20 ∷ 5 ∷ 6 ∷ 23 ∷ 8 ∷ 9 ∷ 26 ∷ 11 ∷ 12 ∷ 29 ∷ 14 ∷ 15 ∷ []) (16 ∷ 1 ∷ 2 ∷ 19 ∷ 4 ∷ 5 ∷ 22 ∷ 7 ∷ 8 ∷ 25 ∷ 10 ∷ 11 ∷ 28 ∷ 13 ∷ 14 ∷ 31 ∷ []) ≡ pick_l 0 xs (places 2)
thirds_2 xs long = subst (λ (ys : List ℕ). picked ys (0 ∷ 17 ∷ 2 ∷ 3 ∷ 20 ∷ 5 ∷ 6 ∷ 23 ∷ 8 ∷ 9 ∷ 26 ∷ 11 ∷ 12 ∷ 29 ∷ 14 ∷ 15 ∷ []) (16 ∷ 1 ∷ 2 ∷ 19 ∷ 4 ∷ 5 ∷ 22 ∷ 7 ∷ 8 ∷ 25 ∷ 10 ∷ 11 ∷ 28 ∷ 13 ∷ 14 ∷ 31 ∷ []) ≡ pick_l 0 ys (places 2)) (pick_l_whole 0 xs 48 long) refl

-- the three thirds of what sixteen values spell
pub spaces_there : (cells spaces values : List ℕ) → AreValues cells values 16 → spaces ≡ pick_l 0 cells (places 0) → AreSpaces spaces
spaces_there cells spaces values each is i below =
    let v = value_of cells spaces 0 i right_0 below is in
    let k : ℕ = v.value in
    v.same ∙ ap (λ j. get_or cells j 0) (let e : 3 * k + 0 ≡ 3 * k = omega arith in e) ∙ (each k v.few).space

pub highs_there : (cells highs values : List ℕ) → AreValues cells values 16 → highs ≡ pick_l 0 cells (places 1) → AreDigits highs
highs_there cells highs values each is i below =
    let at = value_of cells highs 1 i right_1 below is in
    let v = each at.value at.few in
    let small = v.small in
    (get_or values at.value 0 / 16, omega (arith, small), at.same ∙ v.high)

pub lows_there : (cells lows values : List ℕ) → AreValues cells values 16 → lows ≡ pick_l 0 cells (places 2) → AreDigits lows
lows_there cells lows values each is i below =
    let at = value_of cells lows 2 i right_2 below is in
    let v = each at.value at.few in
    (get_or values at.value 0 % 16, omega arith, at.same ∙ v.low)

-- and back
pub values_there : (cells spaces highs lows high_numbers low_numbers values : List ℕ) → spaces ≡ pick_l 0 cells (places 0) → highs ≡ pick_l 0 cells (places 1) → lows ≡ pick_l 0 cells (places 2)
    → AreSpaces spaces → AreDigits highs → AreDigits lows → length high_numbers ≡ 16 → length low_numbers ≡ 16
    → ((k d : ℕ) → k < 16 → d < 16 → get_or highs k 0 ≡ hex_digit d → get_or high_numbers k 0 ≡ d)
    → ((k d : ℕ) → k < 16 → d < 16 → get_or lows k 0 ≡ hex_digit d → get_or low_numbers k 0 ≡ d)
    → ((k v : ℕ) → k < 16 → v < 256 → get_or (pick_l 0 (high_numbers ++ high_numbers) (lanes 1)) k 0 ≡ v / 16 → get_or (pick_l 0 (low_numbers ++ low_numbers) (lanes 2)) k 0 ≡ v % 16 → get_or values k 0 ≡ v)
    → AreValues cells values 16
values_there cells spaces highs lows high_numbers low_numbers values s h l spaced high_digits low_digits high_long low_long high_is low_is value_is k below =
    let i : ℕ = (3 * k + 0) % 16 in
    let m : ℕ = (3 * k + 1) % 16 in
    let n : ℕ = (3 * k + 2) % 16 in
    let hd = high_digits m (omega arith) in
    let ld = low_digits n (omega arith) in
    let high : ℕ = hd.0 in
    let low : ℕ = ld.0 in
    let high_small : high < 16 = hd.1 in
    let low_small : low < 16 = ld.1 in
    let upper : high ≡ (high * 16 + low) / 16 = omega (arith, low_small) in
    let lower : low ≡ (high * 16 + low) % 16 = omega (arith, low_small) in
    let small : high * 16 + low < 256 = omega (arith, high_small, low_small) in
    let v = value_is k (high * 16 + low) below small (ordered_at high_numbers 1 k right_1 tt high_long below ∙ high_is m high (omega arith) high_small hd.2 ∙ upper) (ordered_at low_numbers 2 k right_2 tt low_long below ∙ low_is n low (omega arith) low_small ld.2 ∙ lower) in
    let at : 3 * k ≡ 3 * k + 0 = omega arith in
    record {
      small = omega (arith, v, small);
      space = ap (λ j. get_or cells j 0) at ∙ sym (third_at cells 0 k right_0 below) ∙ sym (ap (λ (t : List ℕ). get_or t i 0) s) ∙ spaced i (omega arith);
      high = sym (third_at cells 1 k right_1 below) ∙ sym (ap (λ (t : List ℕ). get_or t m 0) h) ∙ hd.2 ∙ ap hex_digit (upper ∙ ap (λ n. n / 16) (sym v));
      low = sym (third_at cells 2 k right_2 below) ∙ sym (ap (λ (t : List ℕ). get_or t n 0) l) ∙ ld.2 ∙ ap hex_digit (lower ∙ ap (λ n. n % 16) (sym v));
    }
