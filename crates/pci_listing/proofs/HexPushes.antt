-- Hex digits that are appended one after the other.
use Rattle.std.proofs.Common.{refl, ◌≡◌, ℕ, zero, suc, ◌+◌, ◌-◌, ◌*◌, ◌/◌, ◌%◌, ◌^◌, ◌<◌, ◌++◌, ◌∷◌, [], List, Bool, true, arith, sym, ◌∙◌, ap, nat_lt}
use Rattle.std.proofs.Math.Nat.{div-div-eq-div-mul, pow-suc}
use Rattle.std.proofs.lemmas.Bool.{lt-ltb, ltb-true}
use Rattle.std.proofs.lemmas.List.{append_assoc}
use Rattle.pci_spec.specs.Number.{each_from}
use Rattle.pci_spec.specs.Text.{hex_digit, hex_byte}
use Rattle.pci_spec.specs.Line.{hex_number}
use Rattle.pci_spec.specs.Listing.{decimal_text}
use Rattle.pci_spec.proofs.Bits.{each_from-at}

-- a digit is ASCII
abbrev is_ascii : ℕ → Bool
is_ascii number = nat_lt (hex_digit number) 128

all_ascii : each_from 0 16 is_ascii ≡ true
unfolding each_from
all_ascii = refl

pub digit_ascii : (number : ℕ) → number < 16 → hex_digit number < 128
digit_ascii number small = ltb-true (hex_digit number) 128 (each_from-at 0 16 is_ascii all_ascii number (omega arith) (omega (arith, small)))

-- four bits are a digit
pow_four : (k : ℕ) → 2 ^ (4 * k) ≡ 16 ^ k
pow_four zero = refl
pow_four (suc k) =
    let e : 4 * suc k ≡ suc (suc (suc (suc (4 * k)))) = omega arith in
    let a = pow-suc 2 (4 * k) in
    let b = pow-suc 2 (suc (4 * k)) in
    let c = pow-suc 2 (suc (suc (4 * k))) in
    let d = pow-suc 2 (suc (suc (suc (4 * k)))) in
    let s = pow-suc 16 k in
    let before = pow_four k in
    ap (λ j. 2 ^ j) e ∙ omega (arith, a, b, c, d, s, before)

-- one digit more
pub digit_more : (start old new : List ℕ) (number digits done digit : ℕ) → done < digits → old ≡ start ++ hex_number done (number / 16 ^ (digits - done))
    → digit ≡ number / 2 ^ (4 * (digits - 1 - done)) % 16 → new ≡ old ++ hex_digit digit ∷ []
    → new ≡ start ++ hex_number (done + 1) (number / 16 ^ (digits - (done + 1)))
digit_more start old new number digits done digit more before is pushed =
    let k = digits - 1 - done in
    let e : digits - (done + 1) ≡ k = omega arith in
    let s : digits - done ≡ suc k = omega (arith, more) in
    let n : done + 1 ≡ suc done = omega arith in
    let next = number / 16 ^ k in
    let high : number / 16 ^ (digits - done) ≡ next / 16 =
    ap (λ j. number / 16 ^ j) s ∙ ap (λ m. number / m) (pow-suc 16 k ∙ omega arith) ∙ sym (div-div-eq-div-mul number (16 ^ k) 16) in
    let low : digit ≡ next % 16 = is ∙ ap (λ m. number / m % 16) (pow_four k) in
    pushed ∙ (λ i. before i ++ hex_digit (low i) ∷ []) ∙ ap (λ m. (start ++ hex_number done m) ++ hex_digit (next % 16) ∷ []) high
    ∙ append_assoc start (hex_number done (next / 16)) (hex_digit (next % 16) ∷ [])
    ∙ ap (λ m. start ++ hex_number m next) (sym n) ∙ ap (λ m. start ++ hex_number (done + 1) (number / 16 ^ m)) (sym e)

-- a number below 10 in hex and in decimal
pub decimal_small : (n : ℕ) → n < 10 → hex_digit n ∷ [] ≡ decimal_text n
decimal_small n small =
    let test : nat_lt n 10 ≡ true = lt-ltb n 10 small in
    rw test refl

-- a byte in two digits
pub two_of_byte : (byte : ℕ) → byte < 256 → hex_number 2 byte ≡ hex_byte byte
two_of_byte byte small =
    let high : byte / 16 % 16 ≡ byte / 16 = omega (arith, small) in
    ap (λ d. hex_digit d ∷ hex_digit (byte % 16) ∷ []) high
