-- Numbers in hex digits: their cells, and no two numbers have the same digits.
use Rattle.std.proofs.Common.{◌≡◌, ℕ, zero, suc, ◌+◌, ◌*◌, ◌/◌, ◌%◌, ◌^◌, ◌<◌, List, [], ◌∷◌, ◌++◌, length, replicate, refl, sym, ◌∙◌, ap, subst, arith, append_assoc, append-nil}
use Rattle.std.proofs.Math.Nat.{pow-suc}
use Rattle.std.proofs.lemmas.List.{length-append, replicate_more, same_from_push}
use Rattle.pci_spec.specs.Text.{hex_digit}
use Rattle.pci_spec.specs.Line.{hex_number}
use Rattle.pci_spec.specs.Form.{Cell, Digit, Fits}
use Rattle.pci_spec.proofs.Spelling.{digit_same}
use Rattle.pci_spec.proofs.Forms.{fits_append}

-- a digit more
pub hex_number-more : (w n d : ℕ) → d < 16 → hex_number (suc w) (16 * n + d) ≡ hex_number w n ++ hex_digit d ∷ []
hex_number-more w n d small =
    let high : (16 * n + d) / 16 ≡ n = omega (arith, small) in
    let low : (16 * n + d) % 16 ≡ d = omega (arith, small) in
    λ i. hex_number w (high i) ++ hex_digit (low i) ∷ []

pub more_below : (w n d : ℕ) → d < 16 → n < 16 ^ w → 16 * n + d < 16 ^ suc w
more_below w n d small below = let e = pow-suc 16 w in omega (arith, small, below, e)

pub length-hex_number : (w n : ℕ) → length (hex_number w n) ≡ w
length-hex_number zero n = refl
length-hex_number (suc w) n = let l = length-append (hex_number w (n / 16)) (hex_digit (n % 16) ∷ []) in let m = length-hex_number w (n / 16) in omega (arith, l, m)

-- the cells of so many digits
abbrev pub digit_cells : ℕ → List Cell
digit_cells w = replicate w (Digit 15)

pub fits_digits : (w n : ℕ) → Fits (digit_cells w) (hex_number w n)
fits_digits zero n = tt
fits_digits (suc w) n =
    let e : w + 1 ≡ suc w = omega arith in
    subst (λ (cells : List Cell). Fits cells (hex_number (suc w) n)) (replicate_more w (Digit 15) ∙ ap digit_cells e)
    (fits_append (digit_cells w) (Digit 15 ∷ []) (hex_number w (n / 16)) (hex_digit (n % 16) ∷ []) (fits_digits w (n / 16)) ((n % 16, omega arith, refl), tt))

-- digits behind others
pub record IsNumber (w : ℕ) (bytes : List ℕ) : Type 0 where
  pub number : ℕ
  pub small : number < 16 ^ w
  pub text : bytes ≡ hex_number w number

digits_behind : (k v w all : ℕ) (bytes : List ℕ) → w + k ≡ all → v < 16 ^ k → Fits (digit_cells w) bytes → IsNumber all (hex_number k v ++ bytes)
digits_behind k v zero all [] e below h =
    let f : k ≡ all = omega (arith, e) in
    subst (λ (n : ℕ). IsNumber n (hex_number k v ++ [])) f (record { number = v; small = below; text = append-nil (hex_number k v) })
digits_behind k v zero all (c ∷ bytes) e below h = absurd h
digits_behind k v (suc w) all [] e below h = absurd h
digits_behind k v (suc w) all (c ∷ bytes) e below h =
    let d = h.0 in
    let small : d.0 < 16 = omega (arith, d.1) in
    let rest = digits_behind (suc k) (16 * v + d.0) w all bytes (omega (arith, e)) (more_below k v d.0 small below) h.1 in
    let text : hex_number k v ++ (c ∷ bytes) ≡ hex_number (suc k) (16 * v + d.0) ++ bytes =
    ap (λ (x : ℕ). hex_number k v ++ (x ∷ bytes)) d.2 ∙ sym (append_assoc (hex_number k v) (hex_digit d.0 ∷ []) bytes) ∙ ap (λ (t : List ℕ). t ++ bytes) (sym (hex_number-more k v d.0 small)) in
    record { number = rest.number; small = rest.small; text = text ∙ rest.text }

pub number_from : (w : ℕ) (bytes : List ℕ) → Fits (digit_cells w) bytes → IsNumber w bytes
number_from w bytes h = digits_behind 0 0 w w bytes (omega arith) (omega arith) h

pub same_number : (w n m : ℕ) → n < 16 ^ w → m < 16 ^ w → hex_number w n ≡ hex_number w m → n ≡ m
same_number zero n m a b e = omega (arith, a, b)
same_number (suc w) n m a b e =
    let p = pow-suc 16 w in
    let both = same_from_push (hex_number w (n / 16)) (hex_number w (m / 16)) (hex_digit (n % 16)) (hex_digit (m % 16)) e in
    let high = same_number w (n / 16) (m / 16) (omega (arith, a, p)) (omega (arith, b, p)) both.0 in
    let low = digit_same (n % 16) (m % 16) both.1 in
    omega (arith, high, low)
