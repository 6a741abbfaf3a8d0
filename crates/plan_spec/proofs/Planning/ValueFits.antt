-- The number that places a BAR or ROM fits its register: only address bits differ from what is there.
use Rattle.std.proofs.Common.{◌≡◌, ℕ, ◌+◌, ◌*◌, ◌%◌, ◌^◌, ◌<◌, ◌≤◌, ◌⊎◌, inl, inr, true, false, arith, sym, ◌∙◌, ap, subst}
use Rattle.std.specs.Bool.{nat_le}
use Rattle.std.specs.Int.{bit_at}
use Rattle.std.proofs.lemmas.Bool.{cases_lt, both_ways, and_from, le-leb}
use Rattle.std.proofs.lemmas.Nat.{mod_below, pow_pos, pow_below}
use Rattle.std.proofs.lemmas.Nat.Bits.{bit_at_above, bit_at_cat_low, bit_at_cat_high}
use Rattle.pci_spec.specs.Number.{has_bit}
use Rattle.pci_spec.specs.Bar.{is_run}
use Rattle.pci_spec.proofs.Bits.{bit_at-mod}
use Rattle.pci_spec.proofs.BarLaws.{bit_of_run}
use Rattle.plan_spec.proofs.Planning.Placement.{multiple_of_mod}

-- the bits of a multiple with a smaller number below it
cat_bits_low : (q low k b : ℕ) → b < k → bit_at (q * 2 ^ k + low) b ≡ bit_at low b
cat_bits_low q low k b less = bit_at_cat_low q k low b less

-- Where the read back's ones from bit e on run from k to top, an aligned first address below 2 ^ (top + 1) with the old low e bits under it
-- has the old bits wherever the read back has none, if the old value has none there either.
module _ (mask old first e k top : ℕ) (run : is_run e mask k top ≡ true) (low : e ≤ k) (wide : top < 64) (aligned : first % 2 ^ k ≡ 0) (below : first < 2 ^ (top + 1))
    (within : (i : ℕ) → e ≤ i → i < 64 → has_bit mask i ≡ false → bit_at old i ≡ 0) where
  first_is : first ≡ (multiple_of_mod first (2 ^ k) aligned).0 * 2 ^ k
  first_is = (multiple_of_mod first (2 ^ k) aligned).1

  low_below : old % 2 ^ e < 2 ^ k
  low_below = let m = mod_below old (2 ^ e) (pow_pos e) in elim (cases_lt e k) [
    | inl less ↦ (let p = pow_below e k less in omega (arith, m, p))
    | inr same ↦ (let z : e ≡ k = omega (arith, low, same) in subst (λ j. old % 2 ^ e < 2 ^ j) z m)
  ]

  value_is : first + old % 2 ^ e ≡ (multiple_of_mod first (2 ^ k) aligned).0 * 2 ^ k + old % 2 ^ e
  value_is = ap (λ n. n + old % 2 ^ e) first_is

  -- below k the value has the old low bits, and nothing above them
  pub value_low : (b : ℕ) → b < k → bit_at (first + old % 2 ^ e) b ≡ bit_at (old % 2 ^ e) b
  value_low b less = ap (λ n. bit_at n b) value_is ∙ cat_bits_low (multiple_of_mod first (2 ^ k) aligned).0 (old % 2 ^ e) k b less

  -- from k on it has those of the first address
  pub value_high : (b : ℕ) → k ≤ b → bit_at (first + old % 2 ^ e) b ≡ bit_at first b
  value_high b from =
      let q = (multiple_of_mod first (2 ^ k) aligned).0 in
      let plain : q * 2 ^ k + 0 ≡ first = (let f = first_is in omega (arith, f)) in
      ap (λ n. bit_at n b) value_is ∙ bit_at_cat_high q k (old % 2 ^ e) b low_below from
      ∙ sym (bit_at_cat_high q k 0 b (pow_pos k) from) ∙ ap (λ n. bit_at n b) plain

  pub value_fits : (b : ℕ) → b < 64 → (b < e) ⊎ (has_bit mask b ≡ false) → bit_at (first + old % 2 ^ e) b ≡ bit_at old b
  value_fits b inside (inl under) = value_low b (omega (arith, under, low)) ∙ bit_at-mod old e b under
  value_fits b inside (inr dark) = elim (cases_lt b e) [
    | inl under ↦ value_low b (omega (arith, under, low)) ∙ bit_at-mod old e b under
    | inr over ↦
        let none : bit_at old b ≡ 0 = within b over inside dark in
        let zero_bit : bit_at (first + old % 2 ^ e) b ≡ 0 = elim (cases_lt b k) [
          | inl gap ↦ value_low b gap ∙ bit_at_above (old % 2 ^ e) e b (mod_below old (2 ^ e) (pow_pos e)) over
          | inr from ↦ value_high b from ∙ elim (cases_lt top b) [
            | inl past ↦ bit_at_above first (top + 1) b below (omega (arith, past))
            | inr lit ↦ absurd (both_ways (has_bit mask b) dark (bit_of_run e mask k top b run over inside ∙ and_from (nat_le k b) (nat_le b top) (le-leb k b from) (le-leb b top lit)))
          ]
        ] in
        zero_bit ∙ sym none
  ]
