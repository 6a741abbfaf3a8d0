-- Numbers that are put into an image.
use Rattle.std.proofs.Common.{◌≡◌, ℕ, zero, suc, ◌+◌, ◌-◌, ◌*◌, ◌/◌, ◌%◌, ◌^◌, ◌<◌, ◌≤◌, ◌⊎◌, inl, inr, List, length, arith, sym, ◌∙◌, ap, lit<}
use Rattle.std.proofs.lemmas.Bool.{cases_lt}
use Rattle.std.proofs.lemmas.Nat.{div-add-mod', mod_below}
use Rattle.std.proofs.Math.Nat.{div-div-eq-div-mul, pow-suc, le-mul_of_pos_right}
use Rattle.pci_spec.specs.Number.{byte_at, number_at, IsImage}

split : (number rest power : ℕ) → number + rest % 256 * power + rest / 256 * (power * 256) ≡ number + rest * power
split number rest power =
    let e = ap (λ n. n * power) (div-add-mod' rest 256) in
    omega (arith, e)

-- the bytes of a number from an offset on
abbrev pub HasDigits : List ℕ → ℕ → ℕ → ℕ → Type 0
HasDigits bytes off width value = (j : ℕ) → j < width → byte_at bytes (off + j) ≡ value / 256 ^ j % 256

-- they make the number, but for what is above them
digits_left : (bytes : List ℕ) (off width value : ℕ) → HasDigits bytes off width value → number_at bytes off width + value / 256 ^ width * 256 ^ width ≡ value
digits_left bytes off zero value has = omega arith
digits_left bytes off (suc width) value has =
    let power = 256 ^ width in
    let low = number_at bytes off width in
    ap (λ b. low + b * power + value / 256 ^ suc width * 256 ^ suc width) (has width (omega arith))
    ∙ ap (λ p. low + value / power % 256 * power + value / p * p) (pow-suc 256 width)
    ∙ ap (λ q. low + value / power % 256 * power + q * (power * 256)) (sym (div-div-eq-div-mul value power 256))
    ∙ split low (value / power) power ∙ digits_left bytes off width value (λ j below. has j (omega (arith, below)))

all_bytes : (number rest width value : ℕ) → number + rest * 256 ^ width ≡ value → value < 256 ^ width → number ≡ value
all_bytes number zero width value e small = omega (arith, e)
all_bytes number (suc rest) width value e small =
    let more : 256 ^ width ≤ 256 ^ width * suc rest = le-mul_of_pos_right (256 ^ width) (omega arith) in
    absurd (let impossible : ⊥ = omega (arith, e, small, more) in impossible)

pub number_put : (bytes : List ℕ) (off width value : ℕ) → HasDigits bytes off width value → value < 256 ^ width → number_at bytes off width ≡ value
number_put bytes off width value has small = all_bytes (number_at bytes off width) (value / 256 ^ width) width value (digits_left bytes off width value has) small

-- the bytes are bytes still
pub image_put : (old new : List ℕ) (off width value : ℕ) → IsImage old → length new ≡ 256 → HasDigits new off width value
    → ((place : ℕ) → (place < off) ⊎ (off + width ≤ place) → byte_at new place ≡ byte_at old place) → IsImage new
image_put old new off width value is full has same = record {
  full = full;
  bytes = λ place. elim (cases_lt place off) [
    | inl low ↦ let e = same place (inl low) in let b = is.bytes place in omega (arith, e, b)
    | inr from ↦ elim (cases_lt place (off + width)) [
      | inr past ↦ let e = same place (inr past) in let b = is.bytes place in omega (arith, e, b)
      | inl within ↦
          let j = place - off in
          let at : off + j ≡ place = omega (arith, from) in
          let e = ap (byte_at new) (sym at) ∙ has j (omega (arith, within, from)) in
          let b = mod_below (value / 256 ^ j) 256 (lit< tt) in
          omega (arith, e, b)
    ]
  ];
}
