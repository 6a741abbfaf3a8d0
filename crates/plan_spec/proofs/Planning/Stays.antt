-- What moving leaves of a register: the bits that aren't address bits.
use Rattle.std.proofs.Common.{◌≡◌, ℕ, ◌+◌, ◌*◌, ◌/◌, ◌%◌, ◌^◌, ◌<◌, ◌≤◌, inl, inr, false, arith, sym, ◌∙◌, ap, subst}
use Rattle.std.specs.Bool.{IsFalse, nat_lt, ◌==◌}
use Rattle.std.specs.Int.{bit_at}
use Rattle.std.proofs.lemmas.Bool.{and_left, ne_eqb, cases_Bool, both_ways}
use Rattle.std.proofs.lemmas.Nat.{mod_below, pow_pos}
use Rattle.std.proofs.lemmas.Nat.Bits.{same_from_bits_below, bit_at_above}
use Rattle.pci_spec.specs.Number.{number_at, has_bit, IsImage}
use Rattle.pci_spec.specs.Header.{layout}
use Rattle.pci_spec.specs.Rom.{rom_at}
use Rattle.pci_spec.specs.System.{Function}
use Rattle.pci_spec.specs.Machine.{in_fields, address_fields}
use Rattle.plan_spec.specs.Plan.{IsMoved}
use Rattle.pci_spec.proofs.Bits.{bit_at-mod}
use Rattle.plan_spec.proofs.Planning.Rows.{IsRow}
use Rattle.plan_spec.proofs.Planning.Registers.{register_bit, number_below, powers_same}

module _ (f g : Function) (m : IsMoved f g) (is : IsImage f.image) (o w bits : ℕ) (low : 0x10 ≤ o) (inside : o + w ≤ 256)
    (row : IsRow (layout f.image == 1) f.probe (rom_at f.image f.probe) o w bits) where
  pub bit_stays : (b : ℕ) → b < 8 * w → has_bit bits b ≡ false → bit_at (number_at g.image o w) b ≡ bit_at (number_at f.image o w) b
  bit_stays b below dark =
      let j = b / 8 in
      let i = b % 8 in
      let small : i < 8 = mod_below b 8 (omega arith) in
      let short : j < w = omega (arith, below) in
      let whole : 8 * j + i ≡ b = omega arith in
      let plain : IsFalse (in_fields (address_fields f.image f.probe) (o + j) i) = elim (cases_Bool (in_fields (address_fields f.image f.probe) (o + j) i)) [
        | inl there ↦ absurd (both_ways (has_bit bits b) dark (ap (λ k. has_bit bits k) (sym whole) ∙ row j i short small there))
        | inr fine ↦ fine
      ] in
      ap (λ k. bit_at (number_at g.image o w) k) (sym whole)
      ∙ register_bit g.image o m.image w j i short small
      ∙ m.same (o + j) i (omega (arith, inside, short)) small plain (and_left (o + j == 4) (nat_lt i 2) (ne_eqb (o + j) 4 (λ e. let impossible : ⊥ = omega (arith, e, low) in impossible)))
      ∙ sym (register_bit f.image o is w j i short small)
      ∙ ap (λ k. bit_at (number_at f.image o w) k) whole

  -- the bits below one that no address bit is below
  pub low_stays : (k : ℕ) → k ≤ 8 * w → ((b : ℕ) → b < k → has_bit bits b ≡ false) → number_at g.image o w % 2 ^ k ≡ number_at f.image o w % 2 ^ k
  low_stays k within dark =
      same_from_bits_below k (number_at g.image o w % 2 ^ k) (number_at f.image o w % 2 ^ k) (mod_below (number_at g.image o w) (2 ^ k) (pow_pos k)) (mod_below (number_at f.image o w) (2 ^ k) (pow_pos k))
      (λ i l. bit_at-mod (number_at g.image o w) k i l ∙ bit_stays i (omega (arith, l, within)) (dark i l) ∙ sym (bit_at-mod (number_at f.image o w) k i l))

  -- a register without address bits
  pub number_stays : bits ≡ 0 → number_at g.image o w ≡ number_at f.image o w
  number_stays none =
      let new_small : number_at g.image o w < 2 ^ (8 * w) = subst (λ n. number_at g.image o w < n) (powers_same w) (number_below g.image o m.image w) in
      let old_small : number_at f.image o w < 2 ^ (8 * w) = subst (λ n. number_at f.image o w < n) (powers_same w) (number_below f.image o is w) in
      same_from_bits_below (8 * w) (number_at g.image o w) (number_at f.image o w) new_small old_small
      (λ i l. bit_stays i l (ap (λ v. has_bit v i) none ∙ ap (λ v. v == 1) (let z : bit_at 0 i ≡ 0 = bit_at_above 0 0 i (omega arith) (omega arith) in z)))
