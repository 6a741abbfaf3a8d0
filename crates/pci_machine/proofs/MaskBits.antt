-- Bytes that are made by adding the bits of registers.
use Rattle.std.proofs.Common.{◌≡◌, ◌≢◌, ℕ, zero, suc, ◌+◌, ◌-◌, ◌*◌, ◌/◌, ◌%◌, ◌^◌, ◌<◌, ◌≤◌, ◌==◌, ◌&&◌, ◌||◌, nat_lt, nat_le, max, bit_or, refl, Bool, true, false, List, [], length, map, take, get_or, replicate, inl, inr, arith, sym, ◌∙◌, ap}
use Rattle.std.specs.Int.{bit_at}
use Rattle.std.specs.List.{flat_map, slice_set}
use Rattle.std.proofs.lemmas.Bool.{cases_lt, cases_eq, and_left, and_right, le-leb, lt-leb, lt-ltb, le-ltb}
use Rattle.std.proofs.lemmas.List.{take_all, take_more, flat_map_more, get_or_past, length-set, get_or-set_same, get_or-set_other, get_or-replicate}
use Rattle.std.proofs.lemmas.List.FromFn.{fill_by_all}
use Rattle.std.proofs.lemmas.List.Folds.{list_any-append, flat_map-map}
use Rattle.std.proofs.lemmas.Nat.Bits.{bit_at_or, bit_at-lt}
use Rattle.std.proofs.lemmas.Nat.{or_of_8}
use Rattle.pci_spec.specs.Number.{byte_at, has_bit, IsImage}
use Rattle.pci_spec.specs.Header.{layout}
use Rattle.pci_spec.specs.Machine.{Field, field_has, in_fields, writable_by, clearing_by, writable_bits, clearing_bits, writable_fields, clearing_fields, byte_of_bits, bytes_of_bits}
use Rattle.pci_spec.proofs.WrittenBits.{bit_at-datum}
use Rattle.pci_spec.specs.Registers as table
use Rattle.pci_image.specs.Registers.{register_value}
use Rattle.pci_image.specs.declared.register.Register.{Register}
use Rattle.pci_machine.specs.Masks.{HasBits, AddsField, AddsFields}
use Rattle.pci_machine.proofs.Bytes.{has_bit-zero, byte_by_bits}

-- ---- one byte more of a register

-- the larger of two bits is 1 where one of them is
larger : (x y : ℕ) → x < 2 → y < 2 → (max x y == 1) ≡ ((x == 1) || (y == 1))
larger zero zero hx hy = refl
larger zero (suc zero) hx hy = refl
larger (suc zero) zero hx hy = refl
larger (suc zero) (suc zero) hx hy = refl
larger (suc (suc x)) y hx hy = absurd (let no : ⊥ = omega (arith, hx) in no)
larger zero (suc (suc y)) hx hy = absurd (let no : ⊥ = omega (arith, hy) in no)
larger (suc zero) (suc (suc y)) hx hy = absurd (let no : ⊥ = omega (arith, hy) in no)

-- a bit of two numbers together
has_bit-or : (a b i : ℕ) → has_bit (bit_or a b) i ≡ (has_bit a i || has_bit b i)
has_bit-or a b i = ap (λ n. n == 1) (bit_at_or a b i) ∙ larger (bit_at a i) (bit_at b i) (bit_at-lt a i) (bit_at-lt b i)

-- `false` adds nothing
or_false : (x : Bool) → (x || false) ≡ x
or_false true = refl
or_false false = refl

-- a field one byte wider has one byte more
wider_here : (off j bits i : ℕ) → field_has (off + j) i record { offset = off; width = j + 1; bits = bits } ≡ has_bit bits (8 * j + i)
wider_here off j bits i =
    let e : off + j - off ≡ j = omega arith in
    ap (λ b. b && has_bit bits (8 * (off + j - off) + i)) (ap (λ b. b && nat_lt (off + j) (off + (j + 1))) (le-leb off (off + j) (omega arith)) ∙ lt-ltb (off + j) (off + (j + 1)) (omega arith))
    ∙ ap (λ n. has_bit bits (8 * n + i)) e

-- a field has no byte behind its last
narrow_here : (off j bits i : ℕ) → field_has (off + j) i record { offset = off; width = j; bits = bits } ≡ false
narrow_here off j bits i =
    and_left (nat_le off (off + j) && nat_lt (off + j) (off + j)) (has_bit bits (8 * (off + j - off) + i))
    (and_right (nat_le off (off + j)) (nat_lt (off + j) (off + j)) (le-ltb (off + j) (off + j) (omega arith)))

-- one byte more changes no other byte
same_elsewhere : (off j bits place i : ℕ) → place ≢ off + j
    → field_has place i record { offset = off; width = j + 1; bits = bits } ≡ field_has place i record { offset = off; width = j; bits = bits }
same_elsewhere off j bits place i other =
    ap (λ b. nat_le off place && b && has_bit bits (8 * (place - off) + i)) (elim (cases_lt place (off + j)) [
      | inl below ↦ lt-ltb place (off + (j + 1)) (omega arith) ∙ sym (lt-ltb place (off + j) below)
      | inr above ↦ le-ltb place (off + (j + 1)) (omega arith) ∙ sym (le-ltb place (off + j) above)
    ])

-- the next byte of a field was added
pub added_more : (old mid : List ℕ) (off j bits spot datum : ℕ) → length mid ≡ 256 → spot < 256 → spot ≡ off + j → datum ≡ bits / 256 ^ j % 256
    → AddsField old mid record { offset = off; width = j; bits = bits }
    → AddsField old (slice_set mid spot (bit_or (byte_at mid spot) datum)) record { offset = off; width = j + 1; bits = bits }
added_more old mid off j bits spot datum full within at is so_far place i inside small = elim (cases_eq place spot) [
  | inl here ↦
      let byte = ap (byte_at (slice_set mid spot (bit_or (byte_at mid spot) datum))) here ∙ get_or-set_same mid spot (bit_or (byte_at mid spot) datum) 0 (omega (arith, full, within)) in
      let before : has_bit (byte_at mid spot) i ≡ has_bit (byte_at old spot) i =
      so_far spot i within small ∙ ap (λ b. has_bit (byte_at old spot) i || b) (ap (λ n. field_has n i record { offset = off; width = j; bits = bits }) at ∙ narrow_here off j bits i)
      ∙ or_false (has_bit (byte_at old spot) i) in
      let new : has_bit datum i ≡ field_has place i record { offset = off; width = j + 1; bits = bits } =
      ap (λ n. has_bit n i) is ∙ ap (λ n. n == 1) (bit_at-datum bits j i small) ∙ sym (wider_here off j bits i)
      ∙ ap (λ n. field_has n i record { offset = off; width = j + 1; bits = bits }) (sym (here ∙ at)) in
      ap (λ n. has_bit n i) byte ∙ has_bit-or (byte_at mid spot) datum i ∙ ap (λ b. b || has_bit datum i) before
      ∙ ap (λ b. has_bit (byte_at old spot) i || b) new ∙ ap (λ n. has_bit (byte_at old n) i || field_has place i record { offset = off; width = j + 1; bits = bits }) (sym here)
  | inr other ↦
      ap (λ n. has_bit n i) (get_or-set_other mid spot place (bit_or (byte_at mid spot) datum) 0 other) ∙ so_far place i inside small
      ∙ ap (λ b. has_bit (byte_at old place) i || b) (sym (same_elsewhere off j bits place i (λ e. other (e ∙ sym at))))
]

-- they are bytes still
pub IsImage-or : (mid : List ℕ) (spot datum : ℕ) → IsImage mid → spot < 256 → datum < 256 → IsImage (slice_set mid spot (bit_or (byte_at mid spot) datum))
IsImage-or mid spot datum image within small = record {
  full = length-set mid spot (bit_or (byte_at mid spot) datum) ∙ image.full;
  bytes = λ place. elim (cases_eq place spot) [
    | inl here ↦
        let full = image.full in
        let e = ap (byte_at (slice_set mid spot (bit_or (byte_at mid spot) datum))) here ∙ get_or-set_same mid spot (bit_or (byte_at mid spot) datum) 0 (omega (arith, full, within)) in
        let fits = or_of_8 (byte_at mid spot) datum (image.bytes spot) small in
        omega (arith, e, fits)
    | inr other ↦ let e = get_or-set_other mid spot place (bit_or (byte_at mid spot) datum) 0 other in let fits = image.bytes place in omega (arith, e, fits)
  ];
}

-- 256 zeros are bytes
pub IsImage-zeros : IsImage (replicate 256 0)
IsImage-zeros = record {
  full = refl;
  bytes = λ place. elim (cases_lt place 256) [
    | inl inside ↦ let e = get_or-replicate {A = ℕ} 256 place 0 0 inside in omega (arith, e)
    | inr past ↦ let e : byte_at (replicate 256 0) place ≡ 0 = get_or_past (replicate 256 0) place 0 past in omega (arith, e)
  ];
}

-- a field without bytes adds nothing
pub added_none : (bytes : List ℕ) (off bits : ℕ) → AddsField bytes bytes record { offset = off; width = 0; bits = bits }
added_none bytes off bits place i inside small =
    let none : field_has place i record { offset = off; width = 0; bits = bits } ≡ false =
    and_left (nat_le off place && nat_lt place (off + 0)) (has_bit bits (8 * (place - off) + i)) (elim (cases_lt place off) [
      | inl below ↦ and_left (nat_le off place) (nat_lt place (off + 0)) (lt-leb off place below)
      | inr above ↦ and_right (nat_le off place) (nat_lt place (off + 0)) (le-ltb place (off + 0) (omega arith))
    ]) in
    sym (or_false (has_bit (byte_at bytes place) i)) ∙ ap (λ b. has_bit (byte_at bytes place) i || b) (sym none)

-- ---- the registers of a table, one after another

-- zeros have the bits of no register
pub no_bits : HasBits (replicate 256 0) (in_fields [])
no_bits place i inside small = ap (λ b. has_bit b i) (get_or-replicate 256 place 0 0 inside) ∙ has_bit-zero i

-- the bits of one register more
pub bits_more : (fields : Register → List Field) (items : List Register) (k : ℕ) (d : Register) (old new : List ℕ) → k < length items
    → HasBits old (in_fields (flat_map fields (take k items))) → AddsFields old new (fields (get_or items k d)) → HasBits new (in_fields (flat_map fields (take (k + 1) items)))
bits_more fields items k d old new below so_far adds place i inside small =
    let here = fields (get_or items k d) in
    adds place i inside small ∙ ap (λ b. b || in_fields here place i) (so_far place i inside small)
    ∙ sym (list_any-append (field_has place i) (flat_map fields (take k items)) here)
    ∙ ap (λ fs. in_fields fs place i) (flat_map_more fields [] (take k items) (get_or items k d) ∙ ap (flat_map fields) (sym (take_more items k d below)))

-- the bits of all registers
pub bits_of_all : (fields : table.Register → List Field) (items : List Register) (header : List table.Register) (n : ℕ) (bytes : List ℕ) → map register_value items ≡ header → length items ≤ n
    → HasBits bytes (in_fields (flat_map (λ r. fields (register_value r)) (take n items))) → HasBits bytes (in_fields (flat_map fields header))
bits_of_all fields items header n bytes is all has place i inside small =
    has place i inside small
    ∙ ap (λ fs. in_fields fs place i) (ap (flat_map (λ r. fields (register_value r))) (take_all n items all) ∙ sym (flat_map-map fields register_value items) ∙ ap (flat_map fields) is)

-- ---- the bits of a function

-- 256 bytes are those of their bits
same_bytes : (bytes : List ℕ) (test : ℕ → ℕ → Bool) → length bytes ≡ 256 → ((place : ℕ) → byte_at bytes place < 256) → HasBits bytes test → bytes ≡ bytes_of_bits test
same_bytes bytes test full fits has =
    fill_by_all (λ place. byte_of_bits (test place)) bytes 256 0 full (λ place inside. sym (byte_by_bits (byte_at bytes place) (test place) (fits place) (λ i small. sym (has place i inside small))))

-- so they are the writable bits of a function
pub are_writable_bits : (image probe bytes : List ℕ) → length bytes ≡ 256 → ((place : ℕ) → byte_at bytes place < 256) → HasBits bytes (in_fields (writable_by (layout image == 1) probe))
    → bytes ≡ writable_bits image probe
unfolding writable_bits
are_writable_bits image probe bytes full fits has = same_bytes bytes (in_fields (writable_fields image probe)) full fits has

-- and the bits that a one clears
pub are_clearing_bits : (image bytes : List ℕ) → length bytes ≡ 256 → ((place : ℕ) → byte_at bytes place < 256) → HasBits bytes (in_fields (clearing_by (layout image == 1)))
    → bytes ≡ clearing_bits image
unfolding clearing_bits
are_clearing_bits image bytes full fits has = same_bytes bytes (in_fields (clearing_fields image)) full fits has
