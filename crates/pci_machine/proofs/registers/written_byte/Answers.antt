use Rattle.std.proofs.Common.{◌≡◌, ℕ, ◌-◌, ◌<◌, ◌^◌, refl, Bool, true, false, cond, ◌&&◌, max, min, bit_and, bit_or, arith, rules, sym, ◌∙◌}
use Rattle.std.specs.Int.{bit_at, w8}
use Rattle.std.proofs.lemmas.Nat.{or_of_8, and_le_l}
use Rattle.std.proofs.lemmas.Nat.Bits.{same_from_bits_below, bit_at_and, bit_at_or, bit_at_not}
use Rattle.pci_spec.specs.Number.{has_bit}
use Rattle.pci_spec.specs.Machine.{written_bit}
use Rattle.pci_spec.proofs.Bits.{digit, digit_of_bit, bit_at-number_of_bits, number_of_bits-lt}
use Rattle.pci_machine.proofs.registers.written_byte.Goals as goal

by_cases : (w c d o : Bool) → max (min (min (digit o) (1 - digit w)) (1 - min (digit c) (digit d))) (min (digit d) (digit w)) ≡ digit (cond w d (cond (c && d) false o))
by_cases true true true true = refl
by_cases true true true false = refl
by_cases true true false true = refl
by_cases true true false false = refl
by_cases true false true true = refl
by_cases true false true false = refl
by_cases true false false true = refl
by_cases true false false false = refl
by_cases false true true true = refl
by_cases false true true false = refl
by_cases false true false true = refl
by_cases false true false false = refl
by_cases false false true true = refl
by_cases false false true false = refl
by_cases false false false true = refl
by_cases false false false false = refl

with_numbers : (o w c d : ℕ) (ob wb cb db : Bool) → digit ob ≡ o → digit wb ≡ w → digit cb ≡ c → digit db ≡ d
    → max (min (min o (1 - w)) (1 - min c d)) (min d w) ≡ digit (cond wb db (cond (cb && db) false ob))
with_numbers o w c d ob wb cb db eo ew ec ed = rw (← eo, ← ew, ← ec, ← ed) (by_cases wb cb db ob)

-- bit i of what the code computes
bit_of : (o w c d : ℕ) → w < 256 → c < 256 → (i : ℕ) → i < 8 →
    bit_at (bit_or (bit_and (bit_and o (255 - w)) (255 - bit_and c d)) (bit_and d w)) i ≡ digit (written_bit w c o d i)
bit_of o w c d w_fits c_fits i below =
    let both = and_le_l c d in
    let not_w : bit_at (255 - w) i ≡ 1 - bit_at w i = bit_at_not w8 w i w_fits below in
    let not_cd : bit_at (255 - bit_and c d) i ≡ 1 - bit_at (bit_and c d) i = bit_at_not w8 (bit_and c d) i (omega (arith, both)) below in
    let parts : bit_at (bit_or (bit_and (bit_and o (255 - w)) (255 - bit_and c d)) (bit_and d w)) i
    ≡ max (min (min (bit_at o i) (1 - bit_at w i)) (1 - min (bit_at c i) (bit_at d i))) (min (bit_at d i) (bit_at w i)) =
    rw (bit_at_or, bit_at_and, bit_at_and, not_w, not_cd, bit_at_and, bit_at_and) refl in
    parts ∙ with_numbers _ _ _ _ (has_bit o i) (has_bit w i) (has_bit c i) (has_bit d i) (digit_of_bit o i) (digit_of_bit w i) (digit_of_bit c i) (digit_of_bit d i)

pub returns : goal.returns
returns c =
    let o = c.args.old in
    let w = c.args.writable in
    let l = c.args.clearing in
    let d = c.args.datum in
    let test = written_bit w l o d in
    let left = and_le_l (bit_and o (255 - w)) (255 - bit_and l d) in
    let left2 = and_le_l o (255 - w) in
    let right = and_le_l d w in
    let left_fits : bit_and (bit_and o (255 - w)) (255 - bit_and l d) < 2 ^ 8 = omega (arith, left, left2, c.ranges.old.fits) in
    let right_fits : bit_and d w < 2 ^ 8 = omega (arith, right, c.ranges.datum.fits) in
    same_from_bits_below 8 _ _ (or_of_8 _ _ left_fits right_fits) (number_of_bits-lt 8 test)
    (λ i below. bit_of o w l d (search rules) (search rules) i below ∙ sym (bit_at-number_of_bits 8 test i below))
