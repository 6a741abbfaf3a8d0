-- Which bits of each byte are writable or cleared by a one, by the kind of header.
use Rattle.std.proofs.Common.{◌≡◌, ℕ, ◌+◌, ◌-◌, ◌*◌, ◌<◌, ◌≤◌, inl, inr, List, refl, Bool, true, false, ◌&&◌, ◌||◌, arith, sym, ◌∙◌, ap, subst, zero, suc}
use Rattle.std.specs.Prelude.{◌==◌}
use Rattle.std.specs.Bool.{nat_le, nat_lt}
use Rattle.std.proofs.lemmas.Bool.{cases_lt, and_parts, or_cases, both_ways, leb-true, ltb-true, false_from_ne_true}
use Rattle.pci_spec.specs.Number.{byte_at, has_bit}
use Rattle.pci_spec.specs.Header.{layout}
use Rattle.pci_spec.specs.Machine.{field_has, in_fields, plain_field, writable_by, clearing_by, writable_fields, clearing_fields, writable_bits, clearing_bits}
use Rattle.pci_spec.specs.MachineLaws.{NoBitIsBoth}
use Rattle.pci_spec.proofs.WrittenBits.{byte_at-bytes_of_bits, has_bit-byte_of_bits}

-- bits of the masks are those of the fields
pub has_bit-writable_bits : (image probe : List ℕ) (place i : ℕ) → place < 256 → i < 8
    → has_bit (byte_at (writable_bits image probe) place) i ≡ in_fields (writable_by (layout image == 1) probe) place i
unfolding writable_bits
has_bit-writable_bits image probe place i inside small =
    ap (λ n. has_bit n i) (byte_at-bytes_of_bits (in_fields (writable_fields image probe)) place inside)
    ∙ has_bit-byte_of_bits (in_fields (writable_fields image probe) place) i small

pub has_bit-clearing_bits : (image : List ℕ) (place i : ℕ) → place < 256 → i < 8
    → has_bit (byte_at (clearing_bits image) place) i ≡ in_fields (clearing_by (layout image == 1)) place i
unfolding clearing_bits
has_bit-clearing_bits image place i inside small =
    ap (λ n. has_bit n i) (byte_at-bytes_of_bits (in_fields (clearing_fields image)) place inside)
    ∙ has_bit-byte_of_bits (in_fields (clearing_fields image) place) i small

-- ---- no bit is both

in_status : (offset place i : ℕ) → field_has place i (plain_field offset 2 0xf900) ≡ true → (offset ≤ place) × (place < offset + 2)
in_status offset place i h =
    let outer = and_parts (nat_le offset place && nat_lt place (offset + 2)) (has_bit 0xf900 (8 * (place - offset) + i)) h in
    let inner = and_parts (nat_le offset place) (nat_lt place (offset + 2)) outer.0 in
    (leb-true offset place inner.0, ltb-true place (offset + 2) inner.1)

-- one of two places
two_places : (P : ℕ → Type 0) (offset place : ℕ) → offset ≤ place → place < offset + 2 → P offset → P (offset + 1) → P place
two_places P offset place from to first second = elim (cases_lt offset place) [
  | inl above ↦ let e : offset + 1 ≡ place = omega arith in subst P e second
  | inr least ↦ let e : offset ≡ place = omega arith in subst P e first
]

not_writable : (bridge : Bool) (probe : List ℕ) (place i : ℕ) → in_fields (clearing_by bridge) place i ≡ true → in_fields (writable_by bridge probe) place i ≡ false
not_writable true probe place i h = elim (or_cases (field_has place i (plain_field 0x06 2 0xf900)) (field_has place i (plain_field 0x1e 2 0xf900) || false) h) [
  | inl first ↦ let at = in_status 6 place i first in two_places (λ place. in_fields (writable_by true probe) place i ≡ false) 6 place at.0 at.1 refl refl
  | inr rest ↦ elim (or_cases (field_has place i (plain_field 0x1e 2 0xf900)) false rest) [
    | inl second ↦ let at = in_status 0x1e place i second in two_places (λ place. in_fields (writable_by true probe) place i ≡ false) 0x1e place at.0 at.1 refl refl
    | inr none ↦ absurd (let no : ⊥ = both_ways false refl none in no)
  ]
]
not_writable false probe place i h = elim (or_cases (field_has place i (plain_field 0x06 2 0xf900)) false h) [
  | inl first ↦ let at = in_status 6 place i first in two_places (λ place. in_fields (writable_by false probe) place i ≡ false) 6 place at.0 at.1 refl refl
  | inr none ↦ absurd (let no : ⊥ = both_ways false refl none in no)
]

pub no_bit_is_both : NoBitIsBoth
no_bit_is_both image probe place i inside small writable = false_from_ne_true _ (λ clearing.
    both_ways (in_fields (writable_by (layout image == 1) probe) place i)
    (not_writable (layout image == 1) probe place i (sym (has_bit-clearing_bits image place i inside small) ∙ clearing))
    (sym (has_bit-writable_bits image probe place i inside small) ∙ writable))

pub enables_are_fields : (bridge : Bool) (probe : List ℕ) (i : ℕ) → i < 2 → in_fields (writable_by bridge probe) 4 i ≡ true
enables_are_fields true probe zero h = refl
enables_are_fields true probe (suc zero) h = refl
enables_are_fields false probe zero h = refl
enables_are_fields false probe (suc zero) h = refl
enables_are_fields bridge probe (suc (suc i)) h = absurd (let impossible : ⊥ = omega (arith, h) in impossible)
