-- The ROM's register by numbers.
use Rattle.std.proofs.Common.{◌≡◌, ◌↔◌, ℕ, zero, suc, ◌-◌, ◌*◌, ◌/◌, ◌^◌, ◌<◌, ◌≤◌, List, refl, Bool, true, false, ◌&&◌, inl, inr, arith, sym, ◌∙◌, ap, subst, lit<, bit_and, Option, Some, None}
use Rattle.std.specs.Bool.{nat_le}
use Rattle.std.specs.Int.{bit_at}
use Rattle.std.proofs.lemmas.Bool.{and_parts, and_right, not_from_true, not_from_false, cases_Bool, both_ways, le-leb, leb-true, false_from_ne_true, eq-eqb, ne_eqb}
use Rattle.std.proofs.lemmas.Option.{none-some, same_Some}
use Rattle.std.proofs.lemmas.Nat.Bits.{bit_at-zero}
use Rattle.pci_spec.specs.Number.{has_bit, lowest_one, some_from}
use Rattle.pci_spec.specs.Bar.{is_run, is_within}
use Rattle.pci_spec.specs.Rom.{rom_at, has_rom, is_rom_size, breaks_rom_rule, RomDecodes}
use Rattle.pci_spec.specs.Decoded.{Range, aligned_range, decoded_rom, rom_size}
use Rattle.pci_spec.specs.Header.{rom_register, layout}
use Rattle.pci_spec.proofs.Absent.{no_rom}
use Rattle.pci_spec.proofs.Bits.{each_from-at, each_from-by, some_from-at, some_from-gives, bit_at-without_low, bit_at-without_low_below}
use Rattle.pci_spec.proofs.Ranges.{lowest_one-of_run, rom_range-decodes}
use Rattle.pci_image.specs.Roms.{is_lawful_rom}
use Rattle.pci_image.proofs.Comparators.{value_and_high}
use Rattle.pci_image.proofs.Sizes.{IsStart}

-- ---- sizes

-- the run of a ROM's read back
rom_start : (mask k : ℕ) → is_rom_size mask k ≡ true → (11 ≤ k) × (k ≤ 24) × (is_run 0 mask k 31 ≡ true)
rom_start mask k h =
    let outer = and_parts (nat_le 11 k && nat_le k 24) _ h in
    let inner = and_parts (nat_le 11 k) (nat_le k 24) outer.0 in
    (leb-true _ _ inner.0, leb-true _ _ inner.1, outer.1)

-- without a run there is no size
pub size-rom_none : (mask : ℕ) (answer : Option ℕ) → IsStart 0 mask 31 answer → answer ≡ None → some_from 0 64 (is_rom_size mask) ≡ false
size-rom_none mask answer is none = false_from_ne_true _ (λ yes.
    let found = some_from-gives 0 64 (is_rom_size mask) yes in
    let at = rom_start mask found.0 found.3 in
    none-some found.0 (sym none ∙ (is found.0).1 (omega arith, omega (arith, at.1), at.2)))

-- a run that starts elsewhere is of no size
pub size-rom_other : (mask start : ℕ) (answer : Option ℕ) → IsStart 0 mask 31 answer → answer ≡ Some start
    → ((11 ≤ start) → (start ≤ 24) → ⊥) → some_from 0 64 (is_rom_size mask) ≡ false
size-rom_other mask start answer is some outside = false_from_ne_true _ (λ yes.
    let found = some_from-gives 0 64 (is_rom_size mask) yes in
    let at = rom_start mask found.0 found.3 in
    let same = same_Some start found.0 (sym some ∙ (is found.0).1 (omega arith, omega (arith, at.1), at.2)) in
    outside (omega (arith, same, at.0)) (omega (arith, same, at.1)))

-- without a ROM nothing is decoded
pub none-decoded : (image probe : List ℕ) → has_rom image probe ≡ false → None ≡ decoded_rom image probe
none-decoded image probe absent = rw absent refl

-- ---- the value but its enable bit

-- each bit of a value without bit 0 is in its mask
below : (value mask i : ℕ) → i < 64 → is_within 1 value mask ≡ true → bit_at (value / 2 ^ 1 * 2 ^ 1) i ≤ bit_at mask i
below value mask zero near fits =
    let none = bit_at-without_low_below value 1 0 (omega arith) in
    let none' = bit_at-zero 0 in
    omega (arith, none, none')
below value mask (suc i) near fits =
    let less = leb-true _ _ (each_from-at 1 63 (λ i. nat_le (bit_at value i) (bit_at mask i)) fits (suc i) (omega arith) (omega arith)) in
    let same = bit_at-without_low value 1 (suc i) (omega arith) in
    omega (arith, less, same)

-- a value is within its mask from bit 1 upward just where it is so without bit 0
pub within-without_low : (value mask : ℕ) → is_within 0 (value / 2 ^ 1 * 2 ^ 1) mask ≡ is_within 1 value mask
within-without_low value mask = elim (cases_Bool (is_within 1 value mask)) [
  | inl fits ↦ (each_from-by 0 64 (λ i. nat_le (bit_at (value / 2 ^ 1 * 2 ^ 1) i) (bit_at mask i)) (λ i at near. le-leb _ _ (below value mask i near fits))) ∙ sym fits
  | inr out ↦ false_from_ne_true _ (λ all. both_ways (is_within 1 value mask) out (each_from-by 1 63 (λ i. nat_le (bit_at value i) (bit_at mask i)) (λ i at near.
      let less = leb-true _ _ (each_from-at 0 64 (λ i. nat_le (bit_at (value / 2 ^ 1 * 2 ^ 1) i) (bit_at mask i)) all i (omega arith) (omega arith)) in
      let same = bit_at-without_low value 1 i at in
      le-leb _ _ (omega (arith, less, same))))) ∙ sym out
]

-- as the code computes it
pub within-code : (value mask : ℕ) → value < 2 ^ 64 → is_within 0 (bit_and value (2 ^ 64 - 2)) mask ≡ is_within 1 value mask
within-code value mask fits = ap (λ v. is_within 0 v mask) (value_and_high value 1 fits (omega arith)) ∙ within-without_low value mask

-- ---- lawful ROMs

-- a lawful place is the place of the size
pub rom-sized : (value mask k : ℕ) → is_rom_size mask k ≡ true → (some_from 0 64 (is_rom_size mask) ≡ true) × (lowest_one 0 mask ≡ k)
rom-sized value mask k h =
    let at = rom_start mask k h in (
      some_from-at 0 64 (is_rom_size mask) k (omega arith) (omega (arith, at.1)) h,
      lowest_one-of_run 0 mask k 31 (omega arith) (omega (arith, at.1)) (lit< tt) at.2,
    )

module _ (image probe : List ℕ) (value mask : ℕ) (is_value : value ≡ rom_at image image) (is_mask : mask ≡ rom_at image probe) where
  -- where value and read back are 0, there is no ROM
  pub rom-absent : value ≡ 0 → mask ≡ 0 → has_rom image probe ≡ false
  rom-absent no_value no_mask =
      let v = eq-eqb (rom_at image image) 0 (sym is_value ∙ no_value) in
      let m = eq-eqb (rom_at image probe) 0 (sym is_mask ∙ no_mask) in
      rw (v, m) refl

  module _ (lawful : is_lawful_rom value mask ≡ true) where
    -- a lawful read back isn't 0
    pub rom-there : has_rom image probe ≡ true
    rom-there = not_from_false _ (and_right _ _ (ne_eqb _ 0 (λ no_mask.
        let found = some_from-gives 0 64 (is_rom_size mask) (and_parts _ _ lawful).0 in
        let size : is_rom_size mask found.0 ≡ true = found.3 in
        no_rom found.0 (subst (λ m. is_rom_size m found.0 ≡ true) (is_mask ∙ no_mask) size))))

    pub rom-kept : breaks_rom_rule image probe ≡ false
    rom-kept =
        let lawful' : is_lawful_rom (rom_at image image) (rom_at image probe) ≡ true = rw (is_value, is_mask) at lawful in
        and_right _ _ (not_from_true _ lawful')

    -- the ROM of its enable bit and range
    pub rom-decoded : (register : ℕ) (on : Bool) (range : Range) → register ≡ rom_register (layout image) → on ≡ has_bit value 0
        → range ≡ aligned_range value (2 ^ lowest_one 0 mask)
        → Some record { register = register; on = on; range = range } ≡ decoded_rom image probe
    rom-decoded register on range is_register is_on is_range =
        let there = rom-there in
        rw there (ap Some (rw (is_register, is_on, is_range, is_value, is_mask) refl))

    pub rom-compared : (range : Range) → range ≡ aligned_range value (2 ^ lowest_one 0 mask)
        → (a : ℕ) → ((range.first ≤ a) × (a ≤ range.last)) ↔ RomDecodes image probe a
    rom-compared range is_range a =
        let is : range ≡ aligned_range (rom_at image image) (rom_size image probe) = is_range ∙ rw (is_value, is_mask) refl in
        rw is (rom_range-decodes image probe rom-there rom-kept a)
