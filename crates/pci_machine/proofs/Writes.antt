-- The bytes of a function after a write.
use Rattle.std.proofs.Common.{◌≡◌, ◌≢◌, ℕ, ◌+◌, ◌-◌, ◌/◌, ◌%◌, ◌^◌, ◌<◌, ◌≤◌, nat_lt, nat_le, inl, inr, arith, sym, ◌∙◌, ap}
use Rattle.std.proofs.lemmas.Bool.{cases_lt, and_from, and_left, and_right, le-leb, lt-ltb, le-ltb, lt-leb, cond-true, cond-false}
use Rattle.pci_spec.specs.Number.{byte_at}
use Rattle.pci_spec.specs.Machine.{Target, written_byte, byte_of_bits, written_bit}
pub use Rattle.pci_spec.proofs.WrittenBits.{byte_at-written, length-written}

-- what a byte inside a write becomes
abbrev pub byte_inside : Target → ℕ → ℕ → ℕ → ℕ
byte_inside t place part value = byte_of_bits (written_bit (byte_at t.writable place) (byte_at t.clearing place) (byte_at t.image place) (value / 256 ^ part % 256))

-- a byte inside a write
pub written_byte-inside : (t : Target) (offset width value place : ℕ) → offset ≤ place → place < offset + width
    → written_byte t offset width value place ≡ byte_inside t place (place - offset) value
written_byte-inside t offset width value place low high =
    cond-true _ _ _ (and_from (nat_le offset place) (nat_lt place (offset + width)) (le-leb offset place low) (lt-ltb place (offset + width) high))

-- a byte before it stays
pub written_byte-below : (t : Target) (offset width value place : ℕ) → place < offset → written_byte t offset width value place ≡ byte_at t.image place
written_byte-below t offset width value place h =
    cond-false _ _ _ (and_left (nat_le offset place) (nat_lt place (offset + width)) (lt-leb offset place h))

-- a byte behind it stays
pub written_byte-above : (t : Target) (offset width value place : ℕ) → offset + width ≤ place → written_byte t offset width value place ≡ byte_at t.image place
written_byte-above t offset width value place h =
    cond-false _ _ _ (and_right (nat_le offset place) (nat_lt place (offset + width)) (le-ltb place (offset + width) h))

-- one byte more
pub written_byte-more : (t : Target) (offset width value place : ℕ) → place ≢ offset + width
    → written_byte t offset (width + 1) value place ≡ written_byte t offset width value place
written_byte-more t offset width value place other = elim (cases_lt place offset) [
  | inl below ↦ written_byte-below t offset (width + 1) value place below ∙ sym (written_byte-below t offset width value place below)
  | inr low ↦ elim (cases_lt place (offset + width)) [
    | inl inside ↦
        written_byte-inside t offset (width + 1) value place low (omega arith) ∙ sym (written_byte-inside t offset width value place low inside)
    | inr above ↦
        written_byte-above t offset (width + 1) value place (omega arith) ∙ sym (written_byte-above t offset width value place above)
  ]
]

-- the last byte of a write
pub written_byte-last : (t : Target) (offset width value : ℕ)
    → written_byte t offset (width + 1) value (offset + width) ≡ byte_inside t (offset + width) width value
written_byte-last t offset width value =
    let e : offset + width - offset ≡ width = omega arith in
    written_byte-inside t offset (width + 1) value (offset + width) (omega arith) (omega arith) ∙ ap (λ part. byte_inside t (offset + width) part value) e

-- a write of no bytes
pub written_byte-none : (t : Target) (offset value place : ℕ) → written_byte t offset 0 value place ≡ byte_at t.image place
written_byte-none t offset value place = elim (cases_lt place offset) [
  | inl below ↦ written_byte-below t offset 0 value place below
  | inr above ↦ written_byte-above t offset 0 value place (omega arith)
]

-- the last byte of a write, from the bytes that it is made of
pub written_byte-made : (t : Target) (offset width value place w c b d x : ℕ) → place ≡ offset + width
    → w ≡ byte_at t.writable place → c ≡ byte_at t.clearing place → b ≡ byte_at t.image place → d ≡ value / 256 ^ width % 256
    → x ≡ byte_of_bits (written_bit w c b d) → x ≡ written_byte t offset (width + 1) value place
written_byte-made t offset width value place w c b d x at ew ec eb ed ex =
    ex ∙ ap (λ n. byte_of_bits (written_bit n c b d)) ew ∙ ap (λ n. byte_of_bits (written_bit (byte_at t.writable place) n b d)) ec
    ∙ ap (λ n. byte_of_bits (written_bit (byte_at t.writable place) (byte_at t.clearing place) n d)) eb
    ∙ ap (λ n. byte_of_bits (written_bit (byte_at t.writable place) (byte_at t.clearing place) (byte_at t.image place) n)) ed
    ∙ ap (λ n. byte_inside t n width value) at ∙ sym (written_byte-last t offset width value) ∙ ap (λ n. written_byte t offset (width + 1) value n) (sym at)
