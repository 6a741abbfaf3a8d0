-- A line of values by its places, and by its cells.
use Rattle.std.proofs.Common.{◌≡◌, replicate, inl, inr, ℕ, zero, suc, ◌+◌, ◌*◌, ◌/◌, ◌%◌, ◌<◌, List, [], ◌∷◌, ◌++◌, refl, arith, sym, ◌∙◌, ap, subst, length, get_or, take, drop, append-nil}
use Rattle.std.proofs.Common.{Bool, true, false, cond}
use Rattle.std.specs.Prelude.{nat_lt, ◌==◌}
use Rattle.pci_spec.specs.Number.{each_from}
use Rattle.pci_spec.proofs.Bits.{each_from-at}
use Rattle.std.proofs.lemmas.Bool.{cases_lt, ltb-true, eqb-true, false≢true}
use Rattle.std.specs.List.{flat_map, slice_index, slice_range}
use Rattle.std.proofs.lemmas.List.{length-take, take-append-drop, take-take, drop-take, drop_more, drop_all, take_at, get_or_at, nil_from_length, get_or_past, get_or-take, get_or-drop, take_all}
use Rattle.pci_spec.specs.Text.{hex_digit}
use Rattle.pci_spec.specs.Form.{Fits, row_cells, row_text}
use Rattle.pci_spec.proofs.Forms.{spaced, row_of}
use Rattle.pci_dump.specs.declared.row.TheConstants.{HEADS, ZERO_VALUES}
use Rattle.pci_dump.specs.Value.{IsValueAt, AreValues, AreSmall}

later : (k : ℕ) (x y z : ℕ) (cells : List ℕ) (v : ℕ) → IsValueAt (x ∷ y ∷ z ∷ cells) (3 * suc k) v → IsValueAt cells (3 * k) v
later k x y z cells v h =
    let a : 3 * suc k ≡ suc (suc (suc (3 * k))) = omega arith in
    let b : 3 * suc k + 1 ≡ suc (suc (suc (3 * k + 1))) = omega arith in
    let c : 3 * suc k + 2 ≡ suc (suc (suc (3 * k + 2))) = omega arith in
    record {
      small = h.small;
      space = ap (λ (j : ℕ). slice_index (x ∷ y ∷ z ∷ cells) j) (sym a) ∙ h.space;
      high = ap (λ (j : ℕ). slice_index (x ∷ y ∷ z ∷ cells) j) (sym b) ∙ h.high;
      low = ap (λ (j : ℕ). slice_index (x ∷ y ∷ z ∷ cells) j) (sym c) ∙ h.low;
    }

sooner : (k : ℕ) (x y z : ℕ) (cells : List ℕ) (v : ℕ) → IsValueAt cells (3 * k) v → IsValueAt (x ∷ y ∷ z ∷ cells) (3 * suc k) v
sooner k x y z cells v h =
    let a : 3 * suc k ≡ suc (suc (suc (3 * k))) = omega arith in
    let b : 3 * suc k + 1 ≡ suc (suc (suc (3 * k + 1))) = omega arith in
    let c : 3 * suc k + 2 ≡ suc (suc (suc (3 * k + 2))) = omega arith in
    record {
      small = h.small;
      space = ap (λ (j : ℕ). slice_index (x ∷ y ∷ z ∷ cells) j) a ∙ h.space;
      high = ap (λ (j : ℕ). slice_index (x ∷ y ∷ z ∷ cells) j) b ∙ h.high;
      low = ap (λ (j : ℕ). slice_index (x ∷ y ∷ z ∷ cells) j) c ∙ h.low;
    }

-- the places spell the values
pub spelled : (values cells : List ℕ) → length cells ≡ 3 * length values → AreValues cells values (length values) → cells ≡ flat_map spaced values
spelled [] cells l h = nil_from_length cells l
spelled (v ∷ values) [] l h = absurd (let no : ⊥ = omega (arith, l) in no)
spelled (v ∷ values) (x ∷ []) l h = absurd (let no : ⊥ = omega (arith, l) in no)
spelled (v ∷ values) (x ∷ y ∷ []) l h = absurd (let no : ⊥ = omega (arith, l) in no)
spelled (v ∷ values) (x ∷ y ∷ z ∷ cells) l h =
    let one = h 0 (omega arith) in
    let more = spelled values cells (omega (arith, l)) (λ k b. later k x y z cells (slice_index values k) (h (suc k) (omega (arith, b)))) in
    (λ i. one.space i ∷ one.high i ∷ one.low i ∷ more i)

-- values that are spelled stand at the places
pub placed : (values more : List ℕ) → ((k : ℕ) → get_or values k 0 < 256) → AreValues (flat_map spaced values ++ more) values (length values)
placed [] more small k b = absurd (let no : ⊥ = omega (arith, b) in no)
placed (v ∷ values) more small zero b = record { small = small 0; space = refl; high = refl; low = refl }
placed (v ∷ values) more small (suc k) b = sooner k 32 (hex_digit (v / 16)) (hex_digit (v % 16)) (flat_map spaced values ++ more) (slice_index values k) (placed values more (λ j. small (suc j)) k (omega (arith, b)))

-- what stands in a line of values
pub record RowPlaces (row : ℕ) (line : List ℕ) : Type 0 where
  pub first : get_or line 0 0 ≡ hex_digit row
  pub second : get_or line 1 0 ≡ 48
  pub third : get_or line 2 0 ≡ 58
  pub fourth : get_or line 3 0 ≡ 32
  pub last : get_or line 51 0 ≡ 10
  pub values : List ℕ
  pub each : AreValues (slice_range line 3 51) values 16

row_digits : (row : ℕ) → row < 16 → (hex_digit (16 * row / 16) ≡ hex_digit row) × (hex_digit (16 * row % 16) ≡ 48)
row_digits row h =
    let a : 16 * row / 16 ≡ row = omega arith in
    let b : 16 * row % 16 ≡ 0 = omega arith in
    (ap hex_digit a, ap hex_digit b)

spaced_long : (values : List ℕ) → length (flat_map spaced values) ≡ 3 * length values
spaced_long [] = refl
spaced_long (v ∷ values) = let r = spaced_long values in omega (arith, r)

pub row_places : (row : ℕ) (line : List ℕ) → row < 16 → Fits (row_cells row) line → RowPlaces row line
row_places row line h f =
    let r = row_of row line f in
    let d = row_digits row h in
    let text = r.text in
    let long : length (flat_map spaced r.values) ≡ 48 = (let a = spaced_long r.values in let b = r.many in omega (arith, a, b)) in
    let tail : List ℕ → List ℕ = λ (t : List ℕ). drop 3 t in
    let each : AreValues (slice_range line 3 51) r.values 16 =
    subst (λ (n : ℕ). AreValues (slice_range line 3 51) r.values n) r.many
    (subst (λ (t : List ℕ). AreValues t r.values (length r.values)) (append-nil (flat_map spaced r.values) ∙ sym (ap (λ (t : List ℕ). slice_range t 3 51) text ∙ take_at (flat_map spaced r.values) (10 ∷ []) 48 long)) (placed r.values [] r.small)) in
    record {
      first = ap (λ (t : List ℕ). get_or t 0 0) text ∙ d.0;
      second = ap (λ (t : List ℕ). get_or t 1 0) text ∙ d.1;
      third = ap (λ (t : List ℕ). get_or t 2 0) text;
      fourth = sym (get_or-take 48 (drop 3 line) 0 0 (omega arith) ∙ get_or-drop 3 line 0 0) ∙ (each 0 (omega arith)).space;
      last = ap (λ (t : List ℕ). get_or t 51 0) text ∙ get_or_at (flat_map spaced r.values) 10 [] 0 48 long;
      values = r.values;
      each = each;
    }

pub read_row : (row : ℕ) (line values : List ℕ) → length line ≡ 52 → row < 16 → length values ≡ 16 → get_or line 0 0 ≡ hex_digit row → get_or line 1 0 ≡ 48 → get_or line 2 0 ≡ 58 → get_or line 51 0 ≡ 10
    → AreValues (slice_range line 3 51) values 16 → line ≡ row_text row values
read_row row [] values l h m a b c e f = absurd (let no : ⊥ = omega (arith, l) in no)
read_row row (x ∷ []) values l h m a b c e f = absurd (let no : ⊥ = omega (arith, l) in no)
read_row row (x ∷ y ∷ []) values l h m a b c e f = absurd (let no : ⊥ = omega (arith, l) in no)
read_row row (x ∷ y ∷ z ∷ rest) values l h m a b c e f =
    let d = row_digits row h in
    let high = a ∙ sym d.0 in
    let low = b ∙ sym d.1 in
    let k : length rest ≡ 49 = omega (arith, l) in
    let cut = length-take 48 rest in
    let cells : take 48 rest ≡ flat_map spaced values = spelled values (take 48 rest) (omega (arith, cut, k, m)) (subst (λ (n : ℕ). AreValues (take 48 rest) values n) (sym m) f) in
    let end : drop 48 rest ≡ 10 ∷ [] = drop_more rest 48 0 (omega (arith, k)) ∙ (λ i. e i ∷ drop_all 49 rest (omega (arith, k)) i) in
    let whole : rest ≡ flat_map spaced values ++ 10 ∷ [] = sym (take-append-drop 48 rest) ∙ (λ i. cells i ++ end i) in
    (λ i. high i ∷ low i ∷ c i ∷ whole i)

pub small_zeros : (n k : ℕ) → get_or (replicate n 0) k 0 < 256
small_zeros zero k = omega arith
small_zeros (suc n) zero = omega arith
small_zeros (suc n) (suc k) = small_zeros n k

-- a line's head as a number
abbrev is_right_head : ℕ → Bool
is_right_head k = cond (get_or HEADS k 0 == hex_digit k + 540684288) (nat_lt (hex_digit k) 256) false

all_right_heads : each_from 0 16 is_right_head ≡ true
unfolding each_from
all_right_heads = refl

pub record IsHeadOf (row a b c d : ℕ) : Type 0 where
  pub first : a ≡ hex_digit row
  pub second : b ≡ 48
  pub third : c ≡ 58
  pub fourth : d ≡ 32

both_true : (a b : Bool) → cond a b false ≡ true → (a ≡ true) × (b ≡ true)
both_true true b e = (refl, e)
both_true false b e = absurd (false≢true e)

head_is : (row : ℕ) → row < 16 → (get_or HEADS row 0 ≡ hex_digit row + 540684288) × (hex_digit row < 256)
head_is row below =
    let right = each_from-at 0 16 is_right_head all_right_heads row (omega arith) (omega (arith, below)) in
    let both = both_true (get_or HEADS row 0 == hex_digit row + 540684288) (nat_lt (hex_digit row) 256) right in
    (eqb-true (get_or HEADS row 0) (hex_digit row + 540684288) both.0, ltb-true (hex_digit row) 256 both.1)

pub head_read : (row a b c d n : ℕ) → row < 16 → a < 256 → b < 256 → c < 256 → d < 256 → n ≡ a + b * 256 + c * 65536 + d * 16777216 → n ≡ get_or HEADS row 0 → IsHeadOf row a b c d
head_read row a b c d n below p q r s e f =
    let h = head_is row below in
    let k = h.0 in
    let small = h.1 in
    record { first = omega (arith, p, q, r, s, e, f, k, small); second = omega (arith, p, q, r, s, e, f, k, small); third = omega (arith, p, q, r, s, e, f, k, small); fourth = omega (arith, p, q, r, s, e, f, k, small) }

pub head_there : (row a b c d n : ℕ) → row < 16 → n ≡ a + b * 256 + c * 65536 + d * 16777216 → IsHeadOf row a b c d → n ≡ get_or HEADS row 0
head_there row a b c d n below e h =
    let k = (head_is row below).0 in
    let p = h.first in
    let q = h.second in
    let r = h.third in
    let s = h.fourth in
    omega (arith, e, k, p, q, r, s)

small_values : (v cells : List ℕ) → length v ≡ 16 → AreValues cells v 16 → AreSmall v
small_values v cells l h k = elim (cases_lt k 16) [
  | inl below ↦ (h k below).small
  | inr past ↦ let z = get_or_past v k 0 (omega (arith, l, past)) in omega (arith, z)
]

pub whole_row : (row : ℕ) (line v : List ℕ) → length line ≡ 52 → row < 16 → get_or line 0 0 ≡ hex_digit row → get_or line 1 0 ≡ 48 → get_or line 2 0 ≡ 58 → get_or line 51 0 ≡ 10
    → length v ≡ 16 → AreValues (slice_range line 3 51) v 16 → AreSmall v × (line ≡ row_text row v)
whole_row row line v l h a b c d m e = (small_values v (slice_range line 3 51) m e, read_row row line v l h m a b c d e)

pub no_row : (row : ℕ) (line : List ℕ) → row < 16 → ((v : List ℕ) → AreValues (slice_range line 3 51) v 16 → ⊥) → Fits (row_cells row) line → ⊥
no_row row line h none f = let p = row_places row line h f in none p.values p.each

-- a line of zeros
pub zeros_there : (cells : List ℕ) → cells ≡ flat_map spaced (replicate 16 0) → AreValues cells (replicate 16 0) 16
zeros_there cells e = subst (λ (t : List ℕ). AreValues t (replicate 16 0) 16) (append-nil (flat_map spaced (replicate 16 0)) ∙ sym e) (placed (replicate 16 0) [] (small_zeros 16))

-- a whole line of zeros
pub zero_row : (row : ℕ) (line : List ℕ) → length line ≡ 52 → row < 16 → IsHeadOf row (get_or line 0 0) (get_or line 1 0) (get_or line 2 0) (get_or line 3 0) → slice_range line 4 52 ≡ ZERO_VALUES → line ≡ row_text row (replicate 16 0)
zero_row row [] l h head e = absurd (let no : ⊥ = omega (arith, l) in no)
zero_row row (a ∷ []) l h head e = absurd (let no : ⊥ = omega (arith, l) in no)
zero_row row (a ∷ b ∷ []) l h head e = absurd (let no : ⊥ = omega (arith, l) in no)
zero_row row (a ∷ b ∷ c ∷ []) l h head e = absurd (let no : ⊥ = omega (arith, l) in no)
zero_row row (a ∷ b ∷ c ∷ d ∷ rest) l h head e =
    let digits = row_digits row h in
    let first : a ≡ hex_digit (16 * row / 16) = head.first ∙ sym digits.0 in
    let second : b ≡ hex_digit (16 * row % 16) = head.second ∙ sym digits.1 in
    let third : c ≡ 58 = head.third in
    let fourth : d ≡ 32 = head.fourth in
    let all : rest ≡ ZERO_VALUES = sym (take_all 48 rest (omega (arith, l))) ∙ e in
    λ i. first i ∷ second i ∷ third i ∷ fourth i ∷ all i

-- a beginning with some elements more
pub take_on : (xs : List ℕ) (n m : ℕ) → take (n + m) xs ≡ take n xs ++ take m (drop n xs)
take_on xs n m = sym (take-append-drop n (take (n + m) xs)) ∙ (λ i. take-take n (n + m) xs (omega arith) i ++ drop-take n m xs i)
