-- Sets of 64 numbers, a bit each.
use Rattle.std.proofs.Common.{◌≡◌, ℕ, zero, suc, ◌*◌, ◌%◌, ◌^◌, ◌<◌, ◌||◌, refl, inl, inr, arith, sym, ◌∙◌, ap, max, bit_or}
use Rattle.std.specs.Bool.{nat_eq}
use Rattle.std.specs.Int.{bit_at}
use Rattle.std.proofs.lemmas.Bool.{cases_eq, eq-eqb, ne_eqb}
use Rattle.std.proofs.lemmas.Nat.{one_shl}
use Rattle.std.proofs.lemmas.Nat.Bits.{bit_at-lt, bit_at_or, bit_at-pow_same, bit_at-pow_other}
use Rattle.pci_spec.specs.Number.{has_bit}

-- the greater of two bits is 1 where one of them is
greater-bit : (x y : ℕ) → x < 2 → y < 2 → nat_eq (max x y) 1 ≡ (nat_eq x 1 || nat_eq y 1)
greater-bit zero zero _ _ = refl
greater-bit zero (suc zero) _ _ = refl
greater-bit (suc zero) zero _ _ = refl
greater-bit (suc zero) (suc zero) _ _ = refl
greater-bit (suc (suc x)) y small _ = absurd (let no : ⊥ = omega (arith, small) in no)
greater-bit x (suc (suc y)) _ small = absurd (let no : ⊥ = omega (arith, small) in no)

-- a power of two has one bit
power-bit : (q k : ℕ) → has_bit (2 ^ q) k ≡ nat_eq q k
power-bit q k = elim (cases_eq q k) [
  | inl same ↦ eq-eqb (bit_at (2 ^ q) k) 1 (ap (bit_at (2 ^ q)) (sym same) ∙ bit_at-pow_same q) ∙ sym (eq-eqb q k same)
  | inr other ↦ ap (λ b. nat_eq b 1) (bit_at-pow_other q k (λ same. other (sym same))) ∙ sym (ne_eqb q k other)
]

-- one more number
pub bit-added : (bits q k : ℕ) → q < 64 → has_bit (bit_or bits ((1 * 2 ^ q) % 2 ^ 64)) k ≡ (has_bit bits k || nat_eq q k)
bit-added bits q k small =
    ap (λ p. has_bit (bit_or bits p) k) (one_shl q 64 small) ∙ ap (λ b. nat_eq b 1) (bit_at_or bits (2 ^ q) k)
    ∙ greater-bit (bit_at bits k) (bit_at (2 ^ q) k) (bit_at-lt bits k) (bit_at-lt (2 ^ q) k) ∙ ap (λ b. has_bit bits k || b) (power-bit q k)
