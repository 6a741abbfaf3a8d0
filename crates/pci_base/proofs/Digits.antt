-- What the table of digits holds.
use Rattle.std.proofs.Common.{refl, ◌≡◌, ◌⊎◌, inl, inr, ℕ, ◌<◌, arith, sym, ◌∙◌, ap, get_or, Bool, true, cond}
use Rattle.std.specs.Prelude.{◌==◌, nat_lt}
use Rattle.std.proofs.lemmas.Bool.{eqb-true, lt-ltb, le-ltb, cond-true, cond-false, cases_lt}
use Rattle.pci_spec.specs.Number.{each_from}
use Rattle.pci_spec.specs.Text.{hex_digit}
use Rattle.pci_spec.proofs.Bits.{each_from-at}
use Rattle.pci_base.specs.declared.digit.TheConstants.{DIGITS, HEX}

-- where the table has a number below 16, the byte is its digit
abbrev is_digit_at : ℕ → Bool
is_digit_at byte = cond (nat_lt (get_or DIGITS byte 0) 16) (byte == hex_digit (get_or DIGITS byte 0)) true

all_digits : each_from 0 256 is_digit_at ≡ true
unfolding each_from
all_digits = refl

-- the table has each digit's number
abbrev has_number : ℕ → Bool
has_number d = get_or DIGITS (hex_digit d) 0 == d

all_numbers : each_from 0 16 has_number ≡ true
unfolding each_from
all_numbers = refl

pub digit_there : (byte : ℕ) → byte < 256 → get_or DIGITS byte 0 < 16 → byte ≡ hex_digit (get_or DIGITS byte 0)
digit_there byte within small =
    let test = each_from-at 0 256 is_digit_at all_digits byte (omega arith) (omega (arith, within)) in
    eqb-true byte (hex_digit (get_or DIGITS byte 0)) (sym (cond-true (nat_lt (get_or DIGITS byte 0) 16) (byte == hex_digit (get_or DIGITS byte 0)) true (lt-ltb _ 16 small)) ∙ test)

pub number_there : (byte d : ℕ) → d < 16 → byte ≡ hex_digit d → get_or DIGITS byte 0 ≡ d
number_there byte d small e =
    ap (λ (b : ℕ). get_or DIGITS b 0) e ∙ eqb-true (get_or DIGITS (hex_digit d) 0) d (each_from-at 0 16 has_number all_numbers d (omega arith) (omega (arith, small)))

-- the table has numbers below 16 and 256 alone
abbrev is_number_or_none : ℕ → Bool
is_number_or_none byte = cond (nat_lt (get_or DIGITS byte 0) 16) true (get_or DIGITS byte 0 == 256)

all_numbers_or_none : each_from 0 256 is_number_or_none ≡ true
unfolding each_from
all_numbers_or_none = refl

pub digit_or_none : (byte : ℕ) → byte < 256 → (get_or DIGITS byte 0 ≡ 256) ⊎ ((get_or DIGITS byte 0 < 16) × (byte ≡ hex_digit (get_or DIGITS byte 0)))
digit_or_none byte within = elim (cases_lt (get_or DIGITS byte 0) 16) [
  | inl small ↦ inr (small, digit_there byte within small)
  | inr large ↦
      let test = each_from-at 0 256 is_number_or_none all_numbers_or_none byte (omega arith) (omega (arith, within)) in
      inl (eqb-true (get_or DIGITS byte 0) 256 (sym (cond-false (nat_lt (get_or DIGITS byte 0) 16) true (get_or DIGITS byte 0 == 256) (le-ltb _ 16 large)) ∙ test))
]

-- the digits by their numbers
abbrev is_digit_of : ℕ → Bool
is_digit_of number = get_or HEX number 0 == hex_digit number

all_digits_of : each_from 0 16 is_digit_of ≡ true
unfolding each_from
all_digits_of = refl

pub digit_of_number : (number : ℕ) → number < 16 → get_or HEX number 0 ≡ hex_digit number
digit_of_number number small = eqb-true (get_or HEX number 0) (hex_digit number) (each_from-at 0 16 is_digit_of all_digits_of number (omega arith) (omega (arith, small)))
