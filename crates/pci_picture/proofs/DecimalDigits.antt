-- The number of decimal digits, one digit after the other.
use Rattle.std.proofs.Common.{◌≡◌, ◌≤◌, ◌<◌, ◌+◌, ◌*◌, ◌^◌, ℕ, Bool, true, ◌&&◌, suc, List, Some, None, drop, length, get_or, add-one, refl, sym, ap, ◌∙◌, inl, inr, arith}
use Rattle.std.specs.List.{list_all}
use Rattle.std.specs.Prelude.{fold}
use Rattle.std.proofs.lemmas.Bool.{cases_Bool}
use Rattle.std.proofs.Math.Pow.{pow_mono}
use Rattle.std.proofs.Math.Seq.{drop-cons}
use Rattle.std.proofs.lemmas.Nat.{pow-add}
use Rattle.pci_picture.specs.Lines.{next_decimal, decimal_digit_value, decimal_digit_of, is_decimal}

-- one digit more is at most four bits more
pub digit_bound : (number value digits : ℕ) → number < 2 ^ (4 * digits) → value < 10 → number * 10 + value < 2 ^ (4 * (digits + 1))
digit_bound number value digits low small =
    let four : 2 ^ (4 * (digits + 1)) ≡ 2 ^ (4 * digits) * 16 = ap (λ k. 2 ^ k) (omega arith) ∙ pow-add 2 (4 * digits) 4 in
    omega (arith, low, small, four)

-- at most four digits fit in 16 bits
pub digit_fits : (number value digits : ℕ) → number < 2 ^ (4 * digits) → value < 10 → digits < 4 → number * 10 + value < 2 ^ 16
digit_fits number value digits low small few =
    let most : 2 ^ (4 * (digits + 1)) ≤ 2 ^ 16 = pow_mono {i = 4 * (digits + 1)} {j = 16} (omega arith) in
    omega (arith, digit_bound number value digits low small, most)

is_value : (digit value : ℕ) → decimal_digit_of digit ≡ Some value → (is_decimal digit ≡ true) × (value ≡ decimal_digit_value digit)
is_value digit value is =
    elim (cases_Bool (is_decimal digit)) [
      | inl holds ↦ let e : decimal_digit_of digit ≡ Some (decimal_digit_value digit) = rw holds refl in (holds, cc)
      | inr fails ↦ let e : decimal_digit_of digit ≡ None = rw fails refl in absurd (cc)
    ]

-- the value of all digits, after one digit more
pub value_kept : (digits : List ℕ) (i number value total : ℕ) → i < length digits → decimal_digit_of (get_or digits i 0) ≡ Some value
    → fold next_decimal number (drop i digits) ≡ total → fold next_decimal (number * 10 + value) (drop (i + 1) digits) ≡ total
value_kept digits i number value total inside is before =
    let digit = get_or digits i 0 in
    let step : fold next_decimal number (drop i digits) ≡ fold next_decimal (next_decimal number digit) (drop (suc i) digits) =
    ap (λ l. fold next_decimal number l) (drop-cons digits i 0 inside) in
    ap (λ v. fold next_decimal (number * 10 + v) (drop (i + 1) digits)) ((is_value digit value is).1)
    ∙ ap (λ k. fold next_decimal (next_decimal number digit) (drop k digits)) (add-one i)
    ∙ sym step ∙ before

-- whether all are digits, after one digit more
pub all_kept : (digits : List ℕ) (i value : ℕ) (all : Bool) → i < length digits → decimal_digit_of (get_or digits i 0) ≡ Some value
    → list_all is_decimal (drop i digits) ≡ all → list_all is_decimal (drop (i + 1) digits) ≡ all
all_kept digits i value all inside is before =
    ap (λ k. list_all is_decimal (drop k digits)) (add-one i)
    ∙ sym (ap (λ b. b && list_all is_decimal (drop (suc i) digits)) ((is_value (get_or digits i 0) value is).0))
    ∙ sym (ap (λ l. list_all is_decimal l) (drop-cons digits i 0 inside)) ∙ before
