-- The number of hex digits, one digit after the other.
use Rattle.std.proofs.Common.{◌≡◌, ◌≤◌, ◌<◌, ◌+◌, ◌*◌, ◌^◌, ℕ, Bool, true, ◌&&◌, suc, List, Some, None, drop, length, get_or, add-one, refl, sym, ap, ◌∙◌, inl, inr, arith}
use Rattle.std.specs.List.{list_all}
use Rattle.std.specs.Prelude.{fold}
use Rattle.std.proofs.lemmas.Bool.{cases_Bool}
use Rattle.std.proofs.Math.Pow.{pow_mono}
use Rattle.std.proofs.Math.Seq.{drop-cons}
use Rattle.std.proofs.lemmas.Nat.{pow-add}
use Rattle.pci_picture.specs.Lines.{next_hex, hex_digit_value, digit_of, is_digit}

-- one digit more is four bits more
pub digit_bound : (number value digits : ℕ) → number < 2 ^ (4 * digits) → value < 16 → number * 16 + value < 2 ^ (4 * (digits + 1))
digit_bound number value digits low small =
    let four : 2 ^ (4 * (digits + 1)) ≡ 2 ^ (4 * digits) * 16 = ap (λ k. 2 ^ k) (omega arith) ∙ pow-add 2 (4 * digits) 4 in
    omega (arith, low, small, four)

-- at most 16 digits fit in 64 bits
pub digit_fits : (number value digits : ℕ) → number < 2 ^ (4 * digits) → value < 16 → digits < 16 → number * 16 + value < 2 ^ 64
digit_fits number value digits low small few =
    let most : 2 ^ (4 * (digits + 1)) ≤ 2 ^ 64 = pow_mono {i = 4 * (digits + 1)} {j = 64} (omega arith) in
    omega (arith, digit_bound number value digits low small, most)

is_value : (digit value : ℕ) → digit_of digit ≡ Some value → (is_digit digit ≡ true) × (value ≡ hex_digit_value digit)
is_value digit value is =
    elim (cases_Bool (is_digit digit)) [
      | inl holds ↦ let e : digit_of digit ≡ Some (hex_digit_value digit) = rw holds refl in (holds, cc)
      | inr fails ↦ let e : digit_of digit ≡ None = rw fails refl in absurd (cc)
    ]

-- the value of all digits, after one digit more
pub value_kept : (digits : List ℕ) (i number value total : ℕ) → i < length digits → digit_of (get_or digits i 0) ≡ Some value
    → fold next_hex number (drop i digits) ≡ total → fold next_hex (number * 16 + value) (drop (i + 1) digits) ≡ total
value_kept digits i number value total inside is before =
    let digit = get_or digits i 0 in
    let step : fold next_hex number (drop i digits) ≡ fold next_hex (next_hex number digit) (drop (suc i) digits) =
    ap (λ l. fold next_hex number l) (drop-cons digits i 0 inside) in
    ap (λ v. fold next_hex (number * 16 + v) (drop (i + 1) digits)) ((is_value digit value is).1)
    ∙ ap (λ k. fold next_hex (next_hex number digit) (drop k digits)) (add-one i)
    ∙ sym step ∙ before

-- whether all are digits, after one digit more
pub all_kept : (digits : List ℕ) (i value : ℕ) (all : Bool) → i < length digits → digit_of (get_or digits i 0) ≡ Some value
    → list_all is_digit (drop i digits) ≡ all → list_all is_digit (drop (i + 1) digits) ≡ all
all_kept digits i value all inside is before =
    ap (λ k. list_all is_digit (drop k digits)) (add-one i)
    ∙ sym (ap (λ b. b && list_all is_digit (drop (suc i) digits)) ((is_value (get_or digits i 0) value is).0))
    ∙ sym (ap (λ l. list_all is_digit l) (drop-cons digits i 0 inside)) ∙ before
