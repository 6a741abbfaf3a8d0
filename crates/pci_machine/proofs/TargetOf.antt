-- The bits of a function that is made of its image and its probe.
use Rattle.std.proofs.Common.{◌≡◌, ℕ, ◌+◌, ◌<◌, ◌==◌, ◌&&◌, ◌||◌, refl, Bool, true, false, List, inl, inr, arith, sym, ◌∙◌, ap, lit<}
use Rattle.std.specs.Int.{bit_at}
use Rattle.std.proofs.lemmas.Bool.{cases_lt, cases_Bool, and_left, and_right, both_ways, ne_eqb, false_from_ne_true}
use Rattle.std.proofs.lemmas.List.{get_or_past}
use Rattle.std.proofs.lemmas.List.FromFn.{length-map-range_with_len}
use Rattle.std.proofs.lemmas.Nat.Bits.{bit_at_above}
use Rattle.pci_spec.specs.Number.{byte_at, has_bit, IsImage}
use Rattle.pci_spec.specs.Registers.{STATUS, SECONDARY_STATUS}
use Rattle.pci_spec.specs.Header.{layout}
use Rattle.pci_spec.specs.System.{Function}
use Rattle.pci_spec.specs.Machine.{in_fields, writable_by, clearing_by, writable_fields, clearing_fields, writable_bits, clearing_bits, byte_of_bits, bytes_of_bits, target_of}
use Rattle.pci_spec.proofs.WrittenBits.{byte_at-bytes_of_bits}
use Rattle.pci_spec.proofs.KeptBits.{are_within, field_passes}
use Rattle.pci_spec.proofs.WritableBits.{no_bit_is_both}
use Rattle.pci_spec.specs.Port.{IsTarget, is_status_byte}
use Rattle.pci_machine.proofs.Bytes.{byte_by_bits, byte_of_bits-lt, has_bit-zero}

-- bytes that are made of bits are bytes
IsImage-bytes_of_bits : (test : ℕ → ℕ → Bool) → IsImage (bytes_of_bits test)
IsImage-bytes_of_bits test = record {
  full = length-map-range_with_len (λ offset. byte_of_bits (test offset)) 0 256;
  bytes = λ place. elim (cases_lt place 256) [
    | inl inside ↦ let e = byte_at-bytes_of_bits test place inside in let fits = byte_of_bits-lt (test place) in omega (arith, e, fits)
    | inr past ↦
        let full = length-map-range_with_len (λ offset. byte_of_bits (test offset)) 0 256 in
        let e : byte_at (bytes_of_bits test) place ≡ 0 = get_or_past (bytes_of_bits test) place 0 (omega (arith, past, full)) in
        omega (arith, e)
  ];
}

-- a byte no bit of which passes is 0
no_byte : (test : ℕ → ℕ → Bool) (place : ℕ) → place < 256 → ((i : ℕ) → test place i ≡ false) → byte_at (bytes_of_bits test) place ≡ 0
no_byte test place inside none = byte_at-bytes_of_bits test place inside ∙ byte_by_bits 0 (test place) (lit< tt) (λ i small. none i ∙ sym (has_bit-zero i))

-- the writable bits are 256 bytes
IsImage-writable : (image probe : List ℕ) → IsImage (writable_bits image probe)
unfolding writable_bits
IsImage-writable image probe = IsImage-bytes_of_bits (in_fields (writable_fields image probe))

-- so are the bits that a one clears
IsImage-clearing : (image : List ℕ) → IsImage (clearing_bits image)
unfolding clearing_bits
IsImage-clearing image = IsImage-bytes_of_bits (in_fields (clearing_fields image))

-- no field has a bit of the header type
header_fixed : (bridge : Bool) (probe : List ℕ) (i : ℕ) → in_fields (writable_by bridge probe) 0x0e i ≡ false
header_fixed true probe i = refl
header_fixed false probe i = refl

-- the header type can't be written
pub no_write_of_header : (image probe : List ℕ) → byte_at (writable_bits image probe) 0x0e ≡ 0
unfolding writable_bits
no_write_of_header image probe = no_byte (in_fields (writable_fields image probe)) 0x0e (lit< tt) (λ i. header_fixed (layout image == 1) probe i)

-- the fields that a one clears lie in status bytes
abbrev is_status : Bool → ℕ → Bool
is_status bridge place = place == STATUS || place == STATUS + 1 || (bridge && (place == SECONDARY_STATUS || place == SECONDARY_STATUS + 1))

cleared_within : (bridge : Bool) → are_within (is_status bridge) (clearing_by bridge) ≡ true
cleared_within true = refl
cleared_within false = refl

clears_status : (bridge : Bool) (place i : ℕ) → is_status bridge place ≡ false → in_fields (clearing_by bridge) place i ≡ false
clears_status bridge place i h =
    false_from_ne_true _ (λ cleared. both_ways (is_status bridge place) h (field_passes (is_status bridge) (clearing_by bridge) place i (cleared_within bridge) cleared))

-- so no other byte has such bits
status_alone : (image : List ℕ) (place : ℕ) → is_status_byte image place ≡ false → byte_at (clearing_bits image) place ≡ 0
unfolding clearing_bits
status_alone image place h = elim (cases_lt place 256) [
  | inl inside ↦ no_byte (in_fields (clearing_fields image)) place inside (λ i. clears_status (layout image == 1) place i h)
  | inr past ↦
      let full = length-map-range_with_len (λ offset. byte_of_bits (in_fields (clearing_fields image) offset)) 0 256 in
      get_or_past (bytes_of_bits (in_fields (clearing_fields image))) place 0 (omega (arith, past, full))
]

-- no bit is both
apart_everywhere : (image probe : List ℕ) (place i : ℕ) → (has_bit (byte_at (writable_bits image probe) place) i && has_bit (byte_at (clearing_bits image) place) i) ≡ false
apart_everywhere image probe place i = elim (cases_Bool (has_bit (byte_at (writable_bits image probe) place) i)) [
  | inr none ↦ and_left (has_bit (byte_at (writable_bits image probe) place) i) (has_bit (byte_at (clearing_bits image) place) i) none
  | inl writable ↦
      and_right (has_bit (byte_at (writable_bits image probe) place) i) (has_bit (byte_at (clearing_bits image) place) i)
      (elim (cases_lt i 8) [
        | inr past ↦
            let fits = (IsImage-clearing image).bytes place in
            let z = bit_at_above (byte_at (clearing_bits image) place) 8 i fits past in
            ne_eqb (bit_at (byte_at (clearing_bits image) place) i) 1 (λ e. omega (arith, e, z))
        | inl small ↦ elim (cases_lt place 256) [
          | inl inside ↦ no_bit_is_both image probe place i inside small writable
          | inr beyond ↦
              let full = (IsImage-clearing image).full in
              ap (λ b. has_bit b i) (get_or_past (clearing_bits image) place 0 (omega (arith, beyond, full))) ∙ has_bit-zero i
        ]
      ])
]

-- a function that is made of its image and its probe is lawful
pub IsTarget-target_of : (f : Function) → IsImage f.image → IsTarget (target_of f)
IsTarget-target_of f image = record {
  image = image;
  writable = IsImage-writable f.image f.probe;
  clearing = IsImage-clearing f.image;
  apart = apart_everywhere f.image f.probe;
  status = status_alone f.image;
}
