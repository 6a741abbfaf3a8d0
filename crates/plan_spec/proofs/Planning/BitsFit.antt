-- Numbers that have the old bits of a register where it has no address bit.
use Rattle.std.proofs.Common.{◌≡◌, ℕ, ◌+◌, ◌-◌, ◌*◌, ◌%◌, ◌^◌, ◌<◌, ◌⊎◌, inl, inr, false, arith, sym, ◌∙◌, ap}
use Rattle.std.specs.Bool.{IsFalse}
use Rattle.std.specs.List.{Contains}
use Rattle.std.specs.Int.{bit_at}
use Rattle.std.proofs.lemmas.Bool.{cases_lt, both_ways, eq-eqb}
use Rattle.std.proofs.lemmas.Nat.Bits.{bit_at_cat_low, bit_at_cat_high, bit_at_mask_inside, bit_at_ones}
use Rattle.pci_spec.specs.Number.{byte_at, number_at, has_bit, IsImage}
use Rattle.pci_spec.specs.Header.{layout, address_registers}
use Rattle.pci_spec.specs.Rom.{rom_at}
use Rattle.pci_spec.specs.System.{Function, is_bridge}
use Rattle.pci_spec.specs.Machine.{in_fields, address_fields}
use Rattle.pci_spec.proofs.Bits.{bit_at-mod}
use Rattle.plan_spec.specs.Planning.Fitting.{FitsByNumber}
use Rattle.plan_spec.specs.Planning.Building.{write_of}
use Rattle.plan_spec.proofs.Planning.Registers.{register_bit}
use Rattle.plan_spec.proofs.Planning.Staging.{is_register}
use Rattle.plan_spec.proofs.Planning.AddressBits.{IsField}

-- the number has the bits that the `w` bytes at an offset show, but for address bits
abbrev pub BitsFit : Function → ℕ → ℕ → ℕ → Type 0
BitsFit f o w value = (j i : ℕ) → j < w → i < 8 → IsFalse (in_fields (address_fields f.image f.probe) (o + j) i) → bit_at value (8 * j + i) ≡ bit_at (number_at f.image o w) (8 * j + i)

pub fits_by_bits : (f : Function) (value : ℕ × ℕ → ℕ) (r : ℕ × ℕ) → Contains (address_registers (layout f.image)) r → BitsFit f r.0 r.1 (value r) → FitsByNumber (write_of f value r) f
fits_by_bits f value r listed fit =
    let is = is_register f r listed in
    let low = is.low in
    let high = is.high in
    record {
      inside = omega (arith, high);
      same = λ j i short small plain other. fit j i short small plain;
      status = inr (omega (arith, low));
      second = is.second;
    }

-- where no bit but those of a field is an address bit
pub fits_field : (f : Function) (o w bits value : ℕ) → IsField (is_bridge f) f.probe (rom_at f.image f.probe) o w bits
    → ((b : ℕ) → b < 8 * w → has_bit bits b ≡ false → bit_at value b ≡ bit_at (number_at f.image o w) b) → BitsFit f o w value
fits_field f o w bits value field same j i short small plain = same (8 * j + i) (omega (arith, short, small)) (field j i short plain)

-- of two numbers side by side
pub fits_joined : (f : Function) → IsImage f.image → (o w u low high : ℕ) → low < 2 ^ (8 * w) → BitsFit f o w low → BitsFit f (o + w) u high → BitsFit f o (w + u) (low + 2 ^ (8 * w) * high)
fits_joined f is o w u low high below fit_low fit_high j i short small plain =
    let order : low + 2 ^ (8 * w) * high ≡ high * 2 ^ (8 * w) + low = omega arith in
    ap (λ n. bit_at n (8 * j + i)) order ∙ elim (cases_lt j w) [
      | inl first ↦
          bit_at_cat_low high (8 * w) low (8 * j + i) (omega (arith, first, small))
          ∙ fit_low j i first small plain
          ∙ register_bit f.image o is w j i first small
          ∙ sym (register_bit f.image o is (w + u) j i short small)
      | inr second ↦
          let k = j - w in
          let at : o + w + k ≡ o + j = omega (arith, second) in
          let gap : 8 * j + i - 8 * w ≡ 8 * k + i = omega (arith, second) in
          let inside : k < u = omega (arith, second, short) in
          bit_at_cat_high high (8 * w) low (8 * j + i) below (omega (arith, second))
          ∙ ap (bit_at high) gap
          ∙ fit_high k i inside small (ap (λ p. in_fields (address_fields f.image f.probe) p i) at ∙ plain)
          ∙ register_bit f.image (o + w) is u k i inside small
          ∙ ap (λ p. bit_at (byte_at f.image p) i) at
          ∙ sym (register_bit f.image o is (w + u) j i short small)
    ]

-- ---- halves of windows

lit : (n b : ℕ) → bit_at n b ≡ 1 → has_bit n b ≡ false → ⊥
lit n b one dark = both_ways (has_bit n b) dark (eq-eqb (bit_at n b) 1 one)

-- pages above a nibble that stays
pub page_same : (bits value old top : ℕ) → bits ≡ 2 ^ top - 2 ^ 4 → value % 2 ^ 4 ≡ old % 2 ^ 4 → (b : ℕ) → b < top → has_bit bits b ≡ false → bit_at value b ≡ bit_at old b
page_same bits value old top field nibble b inside dark = elim (cases_lt b 4) [
  | inl low ↦ sym (bit_at-mod value 4 b low) ∙ ap (λ n. bit_at n b) nibble ∙ bit_at-mod old 4 b low
  | inr high ↦ absurd (lit bits b (ap (λ n. bit_at n b) field ∙ bit_at_mask_inside 4 top b high inside) dark)
]

-- an upper half that is all address, or stays
pub upper_same : (bits value old top : ℕ) → (bits ≡ 2 ^ top - 1) ⊎ (value ≡ old) → (b : ℕ) → b < top → has_bit bits b ≡ false → bit_at value b ≡ bit_at old b
upper_same bits value old top (inl field) b inside dark = absurd (lit bits b (ap (λ n. bit_at n b) field ∙ bit_at_ones top b inside) dark)
upper_same bits value old top (inr same) b inside dark = ap (λ n. bit_at n b) same
