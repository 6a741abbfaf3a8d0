-- A register's bits are those of its bytes, so whether a write fits can be read off numbers.
use Rattle.std.proofs.Common.{◌≡◌, ℕ, zero, suc, ◌+◌, ◌-◌, ◌*◌, ◌/◌, ◌%◌, ◌^◌, ◌<◌, ◌≤◌, ◌⊎◌, inl, inr, List, refl, Bool, true, false, ◌&&◌, ◌||◌, arith, sym, ◌∙◌, ap, subst}
use Rattle.std.specs.Bool.{IsFalse, nat_le, nat_lt, ◌==◌}
use Rattle.std.specs.Int.{bit_at}
use Rattle.std.proofs.lemmas.Bool.{cases_lt, and_left, and_right, lt-leb, le-ltb}
use Rattle.std.proofs.lemmas.Nat.{shr-shr, pow-add}
use Rattle.std.proofs.lemmas.Nat.Bits.{bit_at_cat_low, bit_at_cat_high}
use Rattle.std.proofs.lemmas.List.FromFn.{get_or-map-range_with_len}
use Rattle.std.proofs.Math.Nat.{mul-le-mul_right, pow-succ'}
use Rattle.pci_spec.specs.Number.{byte_at, number_at, has_bit, IsImage}
use Rattle.pci_spec.specs.Header.{layout}
use Rattle.pci_spec.specs.System.{Function}
use Rattle.pci_spec.specs.Machine.{Write, field_has, in_fields, address_fields, clearing_by, clearing_fields, clearing_bits, byte_of_bits, plain_field}
use Rattle.pci_spec.proofs.Bits.{bit_at-mod, digit, bit_at-number_of_bits}
use Rattle.plan_spec.specs.Planning.Fitting.{IsFitting, FitsByNumber}

pub powers_same : (w : ℕ) → 256 ^ w ≡ 2 ^ (8 * w)
powers_same zero = refl
powers_same (suc w) =
    let e : 8 * suc w ≡ 8 + 8 * w = omega arith in
    pow-succ' 256 w ∙ ap (λ n. 256 * n) (powers_same w) ∙ sym (pow-add 2 8 (8 * w)) ∙ ap (λ k. 2 ^ k) (sym e)

pub number_below : (image : List ℕ) (offset : ℕ) → IsImage image → (w : ℕ) → number_at image offset w < 256 ^ w
number_below image offset is zero = omega arith
number_below image offset is (suc w) =
    let low = number_below image offset is w in
    let b = is.bytes (offset + w) in
    let m : suc (byte_at image (offset + w)) * 256 ^ w ≤ 256 * 256 ^ w = mul-le-mul_right (256 ^ w) b in
    let p = pow-succ' 256 w in
    omega (arith, low, m, p)

-- a bit of a register is a bit of one of its bytes
pub register_bit : (image : List ℕ) (offset : ℕ) → IsImage image → (width j i : ℕ) → j < width → i < 8 → bit_at (number_at image offset width) (8 * j + i) ≡ bit_at (byte_at image (offset + j)) i
register_bit image offset is zero j i inside small = absurd (let impossible : ⊥ = omega (arith, inside) in impossible)
register_bit image offset is (suc w) j i inside small =
    let low : number_at image offset w < 2 ^ (8 * w) = subst (λ n. number_at image offset w < n) (powers_same w) (number_below image offset is w) in
    let b = byte_at image (offset + w) in
    let order : number_at image offset w + b * 256 ^ w ≡ b * 2 ^ (8 * w) + number_at image offset w = (let e = ap (λ n. b * n) (powers_same w) in omega (arith, e)) in
    elim (cases_lt j w) [
      | inl before ↦
          ap (λ n. bit_at n (8 * j + i)) order
          ∙ bit_at_cat_low b (8 * w) (number_at image offset w) (8 * j + i) (omega (arith, before, small))
          ∙ register_bit image offset is w j i before small
      | inr after ↦
          let same : j ≡ w = omega (arith, inside, after) in
          ap (λ n. bit_at n (8 * j + i)) order
          ∙ ap (λ k. bit_at (b * 2 ^ (8 * w) + number_at image offset w) (8 * k + i)) same
          ∙ bit_at_cat_high b (8 * w) (number_at image offset w) (8 * w + i) low (omega arith)
          ∙ ap (λ k. bit_at b k) (let z : 8 * w + i - 8 * w ≡ i = omega arith in z)
          ∙ ap (λ k. bit_at (byte_at image (offset + k)) i) (sym same)
    ]

-- and so is a bit of what is written
pub datum_bit_at : (value j i : ℕ) → i < 8 → bit_at (value / 256 ^ j % 256) i ≡ bit_at value (8 * j + i)
datum_bit_at value j i small =
    bit_at-mod (value / 256 ^ j) 8 i small
    ∙ ap (λ n. value / n / 2 ^ i % 2) (powers_same j)
    ∙ ap (λ n. n % 2) (shr-shr value (8 * j) i)

-- ---- no bit that a one clears

clearing_byte : (image : List ℕ) (place : ℕ) → place < 256 → byte_at (clearing_bits image) place ≡ byte_of_bits (in_fields (clearing_fields image) place)
unfolding clearing_bits
clearing_byte image place inside = get_or-map-range_with_len (λ offset. byte_of_bits (in_fields (clearing_fields image) offset)) 0 256 place place 0 inside (omega arith)

misses : (offset bits place i : ℕ) → (place < offset) ⊎ (offset + 2 ≤ place) → field_has place i (plain_field offset 2 bits) ≡ false
misses offset bits place i (inl before) = and_left (nat_le offset place && nat_lt place (offset + 2)) (has_bit bits (8 * (place - offset) + i)) (and_left (nat_le offset place) (nat_lt place (offset + 2)) (lt-leb offset place before))
misses offset bits place i (inr after) = and_left (nat_le offset place && nat_lt place (offset + 2)) (has_bit bits (8 * (place - offset) + i)) (and_right (nat_le offset place) (nat_lt place (offset + 2)) (le-ltb place (offset + 2) after))

no_clear : (b : Bool) (place i : ℕ) → (place < 6) ⊎ (8 ≤ place) → (b ≡ true → (place < 0x1e) ⊎ (0x20 ≤ place)) → in_fields (clearing_by b) place i ≡ false
no_clear true place i status second = ap (λ x. x || (field_has place i (plain_field 0x1e 2 0xf900) || false)) (misses 6 0xf900 place i status) ∙ ap (λ x. x || false) (misses 0x1e 0xf900 place i (second refl))
no_clear false place i status second = ap (λ x. x || false) (misses 6 0xf900 place i status)

-- ---- a write fits where its number shows the register but for address bits and the enables

pub fits_by_number : (w : Write) (f : Function) → IsImage f.image → FitsByNumber w f → IsFitting w f
fits_by_number w f is h = record {
  inside = h.inside;
  same = λ place i from to small plain other.
      let j = place - w.offset in
      let at : w.offset + j ≡ place = omega (arith, from) in
      let short : j < w.width = omega (arith, from, to) in
      let here : IsFalse (in_fields (address_fields f.image f.probe) (w.offset + j) i) = ap (λ p. in_fields (address_fields f.image f.probe) p i) at ∙ plain in
      let free : IsFalse (w.offset + j == 4 && nat_lt i 2) = ap (λ p. p == 4 && nat_lt i 2) at ∙ other in
      datum_bit_at w.value j i small
      ∙ h.same j i short small here free
      ∙ register_bit f.image w.offset is w.width j i short small
      ∙ ap (λ p. bit_at (byte_at f.image p) i) at;
  clears = λ place i from to small.
      let r = h.inside in
      ap (λ n. has_bit n i) (clearing_byte f.image place (omega (arith, r, to)))
      ∙ ap (λ n. n == 1) (bit_at-number_of_bits 8 (in_fields (clearing_fields f.image) place) i small)
      ∙ ap (λ b. digit b == 1) (no_clear (layout f.image == 1) place i
      (elim h.status [ inl low ↦ inl (omega (arith, low, to)) | inr high ↦ inr (omega (arith, high, from)) ])
      (λ b. elim (h.second b) [ inl low ↦ inl (omega (arith, low, to)) | inr high ↦ inr (omega (arith, high, from)) ]));
}
