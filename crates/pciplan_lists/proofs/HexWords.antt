-- Hex digits of words: where they stand, and of which number they are.
use Rattle.std.proofs.Common.{◌≡◌, ◌≢◌, ℕ, zero, suc, ◌+◌, ◌*◌, ◌/◌, ◌%◌, ◌^◌, ◌<◌, ◌⊎◌, List, [], ◌∷◌, length, get_or, refl, sym, ◌∙◌, subst, inl, inr, arith, nat_lt}
use Rattle.std.proofs.Math.Nat.{mod-lt, pow-suc}
use Rattle.std.proofs.lemmas.Bool.{cases_lt, lt-ltb, le-ltb, cond-true, cond-false}
use Rattle.std.proofs.lemmas.List.{length-append, get_or_append_left, get_or_at, same_from_push}
use Rattle.pci_spec.specs.Text.{hex_digit}
use Rattle.pci_spec.specs.Line.{hex_number}
use Rattle.pci_spec.proofs.Spelling.{digit_same}

-- a byte that is a digit
pub record IsDigit (byte : ℕ) : Type 0 where
  pub value : ℕ
  pub small : value < 16
  pub is : hex_digit value ≡ byte

-- no byte below the digits, and none between them and the letters, is a digit
pub no_digit : (byte : ℕ) → (byte < 48) ⊎ (57 < byte) × (byte < 97) → (d : ℕ) → hex_digit d ≢ byte
no_digit byte outside d e = elim (cases_lt d 10) [
  | inl low ↦ (let is : hex_digit d ≡ 48 + d = cond-true (nat_lt d 10) _ _ (lt-ltb d 10 low) in omega (arith, e, is))
  | inr high ↦ (let is : hex_digit d ≡ 87 + d = cond-false (nat_lt d 10) _ _ (le-ltb d 10 high) in omega (arith, e, is))
]

pub no_minus : (d : ℕ) → hex_digit d ≢ 45
no_minus = no_digit 45 (inl (omega arith))

pub length_number : (n a : ℕ) → length (hex_number n a) ≡ n
length_number zero a = refl
length_number (suc n) a = length-append (hex_number n (a / 16)) (hex_digit (a % 16) ∷ []) ∙ omega (arith, length_number n (a / 16))

pub digit_at : (n a i : ℕ) → i < n → IsDigit (get_or (hex_number n a) i 0)
digit_at zero a i inside = absurd (omega arith)
digit_at (suc n) a i inside =
    let before : List ℕ = hex_number n (a / 16) in
    let last : ℕ = hex_digit (a % 16) in
    let len : length before ≡ n = length_number n (a / 16) in
    elim (cases_lt i n) [
      | inl early ↦ subst (λ b. IsDigit b) (sym (get_or_append_left before (last ∷ []) 0 i (omega (arith, len, early)))) (digit_at n (a / 16) i early)
      | inr late ↦ record { value = a % 16; small = mod-lt a {m = 16} (omega arith); is = sym (get_or_at before last [] 0 i (omega (arith, len, late, inside))) }
    ]

-- so many digits are of one number
pub number_same : (n a b : ℕ) → a < 16 ^ n → b < 16 ^ n → hex_number n a ≡ hex_number n b → a ≡ b
number_same zero a b few less e = omega (arith, few, less)
number_same (suc n) a b few less e =
    let parts = same_from_push (hex_number n (a / 16)) (hex_number n (b / 16)) (hex_digit (a % 16)) (hex_digit (b % 16)) e in
    let step : 16 ^ suc n ≡ 16 * 16 ^ n = omega (arith, pow-suc 16 n) in
    let high : a / 16 ≡ b / 16 = number_same n (a / 16) (b / 16) (omega (arith, few, step)) (omega (arith, less, step)) parts.0 in
    let low : a % 16 ≡ b % 16 = digit_same (a % 16) (b % 16) parts.1 in
    omega (arith, high, low)
