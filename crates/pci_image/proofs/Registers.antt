-- The bits of a BAR register, as the code tests them.
use Rattle.std.proofs.Common.{◌≡◌, ℕ, ◌*◌, ◌%◌, ◌^◌, ◌<◌, refl, true, false, not, inl, inr, arith, sym, ◌∙◌, ap, bit_and, Some, None}
use Rattle.std.specs.Bool.{nat_eq}
use Rattle.std.specs.Int.{bit_at}
use Rattle.std.proofs.lemmas.Bool.{eq-eqb, ne_eqb, cases_lt, cases_eq}
use Rattle.std.proofs.lemmas.Nat.{and_mask, pow_pos}
use Rattle.std.proofs.lemmas.Nat.Bits.{bit_at-lt, and_pow, and_high}
use Rattle.pci_spec.specs.Number.{has_bit}
use Rattle.pci_spec.specs.Bar.{IoBar, Memory32, Memory64, BarMask, BarType, is_io, type_bits, is_prefetchable, bar_kind}
use Rattle.pci_image.specs.Bars.{broken_encoding}

-- one bit, tested by a mask
pub bit-set : (n k : ℕ) → (bit_and n (2 ^ k) ≡ 0 → ⊥) → has_bit n k ≡ true
bit-set n k h =
    let product = and_pow n k in
    let less = bit_at-lt n k in
    eq-eqb (bit_at n k) 1 (elim (cases_lt (bit_at n k) 1) [
      | inl none ↦
          let e : bit_at n k ≡ 0 = omega arith in
          let nothing = ap (λ b. b * 2 ^ k) e in
          absurd (h (omega (arith, product, nothing)))
      | inr some ↦ omega arith
    ])

-- one bit that is not set
pub bit-clear : (n k : ℕ) → bit_and n (2 ^ k) ≡ 0 → 0 < 2 ^ k → has_bit n k ≡ false
bit-clear n k h positive = ne_eqb (bit_at n k) 1 (λ one.
    let product = and_pow n k in
    let e = ap (λ b. b * 2 ^ k) one in
    omega (arith, product, e, h, positive))

-- the type bits, tested by a mask
pub type-read : (n : ℕ) → bit_and n 6 ≡ type_bits n * 2
type-read n = and_high n 2 1

-- ---- what the rules on encoding bits say

-- an I/O register that keeps the rules
pub io_kept : (value mask : ℕ) → is_io mask ≡ true → bit_and value 3 ≡ bit_and mask 3 → bit_and mask 2 ≡ 0
    → (broken_encoding value mask ≡ None) × (IoBar ≡ bar_kind mask)
io_kept value mask io same plain =
    let e : value % 4 ≡ mask % 4 = sym (and_mask value 2) ∙ same ∙ and_mask mask 2 in
    let test = eq-eqb (value % 4) (mask % 4) e in
    let bit = bit-clear mask 1 plain (omega arith) in
    (rw (io, test, bit) refl, rw io refl)

-- an I/O register whose value has another encoding
pub io_broken : (value mask : ℕ) → is_io mask ≡ true → (bit_and value 3 ≡ bit_and mask 3 → ⊥) → broken_encoding value mask ≡ Some BarMask
io_broken value mask io differ =
    let test = ne_eqb (value % 4) (mask % 4) (λ e. differ (and_mask value 2 ∙ e ∙ sym (and_mask mask 2))) in
    rw (io, test) refl

-- an I/O register with its reserved bit
pub io_reserved : (value mask : ℕ) → is_io mask ≡ true → bit_and value 3 ≡ bit_and mask 3 → (bit_and mask 2 ≡ 0 → ⊥) → broken_encoding value mask ≡ Some BarMask
io_reserved value mask io same reserved =
    let e : value % 4 ≡ mask % 4 = sym (and_mask value 2) ∙ same ∙ and_mask mask 2 in
    let test = eq-eqb (value % 4) (mask % 4) e in
    let bit = bit-set mask 1 reserved in
    rw (io, test, bit) refl

-- a memory register whose value has another encoding
pub memory_broken : (value mask : ℕ) → is_io mask ≡ false → (bit_and value 15 ≡ bit_and mask 15 → ⊥) → broken_encoding value mask ≡ Some BarMask
memory_broken value mask memory differ =
    let test = ne_eqb (value % 16) (mask % 16) (λ e. differ (and_mask value 4 ∙ e ∙ sym (and_mask mask 4))) in
    rw (memory, test) refl

module _ (value mask : ℕ) (memory : is_io mask ≡ false) (same : bit_and value 15 ≡ bit_and mask 15) where
  -- value and read back have one encoding
  memory_test : nat_eq (value % 16) (mask % 16) ≡ true
  memory_test = eq-eqb (value % 16) (mask % 16) (sym (and_mask value 4) ∙ same ∙ and_mask mask 4)

  pub memory_32 : bit_and mask 6 ≡ 0 → (broken_encoding value mask ≡ None) × (Memory32 ≡ bar_kind mask)
  memory_32 is =
      let read = type-read mask in
      let type : type_bits mask ≡ 0 = omega (arith, read, is) in
      let zero_type = eq-eqb (type_bits mask) 0 type in
      let two_type = ne_eqb (type_bits mask) 2 (λ e. omega (arith, e, type)) in
      let bit : has_bit mask 1 ≡ false = ne_eqb (bit_at mask 1) 1 (λ e. omega (arith, e, type)) in
      (rw (memory, memory_test, bit) refl, rw (memory, two_type, zero_type) refl)

  pub memory_64 : bit_and mask 6 ≡ 4 → (broken_encoding value mask ≡ None) × (Memory64 ≡ bar_kind mask)
  memory_64 is =
      let read = type-read mask in
      let type : type_bits mask ≡ 2 = omega (arith, read, is) in
      let two_type = eq-eqb (type_bits mask) 2 type in
      let bit : has_bit mask 1 ≡ false = ne_eqb (bit_at mask 1) 1 (λ e. omega (arith, e, type)) in
      (rw (memory, memory_test, bit) refl, rw (memory, two_type) refl)

  pub memory_reserved : (bit_and mask 6 ≡ 0 → ⊥) → (bit_and mask 6 ≡ 4 → ⊥) → broken_encoding value mask ≡ Some BarType
  memory_reserved narrow wide =
      let read = type-read mask in
      let bit : has_bit mask 1 ≡ true = eq-eqb (bit_at mask 1) 1 (omega (arith, read, narrow, wide)) in
      rw (memory, memory_test, bit) refl

-- the prefetchable bit of a memory register
pub prefetchable-read : (mask : ℕ) → is_io mask ≡ false → not (nat_eq (bit_and mask 8) 0) ≡ is_prefetchable mask
prefetchable-read mask io =
    elim (cases_eq (bit_and mask 8) 0) [
      | inl none ↦ let test = eq-eqb _ 0 none in let bit = bit-clear mask 3 none (omega arith) in rw (io, test, bit) refl
      | inr some ↦ let test = ne_eqb _ 0 some in let bit = bit-set mask 3 some in rw (io, test, bit) refl
    ]

-- a test of one bit
pub bit-test : (n k : ℕ) → not (nat_eq (bit_and n (2 ^ k)) 0) ≡ has_bit n k
bit-test n k = elim (cases_eq (bit_and n (2 ^ k)) 0) [
  | inl none ↦ let test = eq-eqb _ 0 none in let bit = bit-clear n k none (pow_pos k) in rw (test, bit) refl
  | inr some ↦ let test = ne_eqb _ 0 some in let bit = bit-set n k some in rw (test, bit) refl
]
