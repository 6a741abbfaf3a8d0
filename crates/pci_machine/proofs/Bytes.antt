-- A byte under writes, bit by bit.
use Rattle.std.proofs.Common.{◌≡◌, ℕ, not, bit_and, ◌+◌, ◌<◌, ◌^◌, refl, Bool, false, cond, ◌&&◌, ◌||◌, ◌==◌, ◌%◌, ◌/◌, ◌-◌, List, sym, ◌∙◌, ap, inl, inr, arith, lit<}
use Rattle.std.proofs.lemmas.Bool.{cases_lt, cases_Bool, and_left, and_from, and_cases, not_from_true, not_from_false, ne_eqb, eq-eqb, cases_eq, and_right, cond-true, cond-false}
use Rattle.std.proofs.lemmas.List.{get_or_past, get_or-set_same, get_or-set_other, length-set, set_past}
use Rattle.std.proofs.lemmas.Nat.Bits.{same_from_bits_below, bit_at-zero, bit_at_above, bit_at_and, bit_at_not, bit_at-lt}
use Rattle.std.specs.Int.{bit_at, w8}
use Rattle.std.specs.Prelude.{◌⊎◌}
use Rattle.std.proofs.lemmas.Nat.{and_le_l}
use Rattle.pci_spec.specs.Number.{has_bit, byte_at, IsImage}
use Rattle.pci_spec.specs.Header.{layout}
use Rattle.pci_spec.specs.Machine.{Target, byte_of_bits, written_bit, written, written_byte}
use Rattle.pci_spec.proofs.Bits.{digit, digit_of_bit, bit_of_true, bit_of_false, bit_at-number_of_bits, number_of_bits-lt}
use Rattle.pci_spec.specs.Port.{IsTarget}
use Rattle.pci_machine.specs.Memory.{without_bits, pinned}
use Rattle.pci_machine.proofs.Writes.{written_byte-inside, written_byte-below, written_byte-above, byte_at-written, length-written}
pub use Rattle.pci_spec.proofs.WrittenBits.{has_bit-byte_of_bits}

-- eight bits make a byte
pub byte_of_bits-lt : (test : ℕ → Bool) → byte_of_bits test < 256
byte_of_bits-lt test = number_of_bits-lt 8 test

-- a byte is made of its bits
pub byte_by_bits : (b : ℕ) (test : ℕ → Bool) → b < 256 → ((i : ℕ) → i < 8 → test i ≡ has_bit b i) → byte_of_bits test ≡ b
byte_by_bits b test fits same =
    same_from_bits_below 8 (byte_of_bits test) b (byte_of_bits-lt test) fits
    (λ i below. bit_at-number_of_bits 8 test i below ∙ ap digit (same i below) ∙ digit_of_bit b i)

-- 0 has no bit
pub has_bit-zero : (i : ℕ) → has_bit 0 i ≡ false
has_bit-zero i = let e = bit_at-zero i in grind arith

-- where no bit is cleared by a one, a written bit is the datum's or the old one
pub written_bit-plain : (w b d i : ℕ) → written_bit w 0 b d i ≡ cond (has_bit w i) (has_bit d i) (has_bit b i)
written_bit-plain w b d i = let e = has_bit-zero i in elim (cases_Bool (has_bit w i)) [
  | inl one ↦ cond-true (has_bit w i) _ _ one ∙ sym (cond-true (has_bit w i) (has_bit d i) (has_bit b i) one)
  | inr none ↦
      cond-false (has_bit w i) _ _ none ∙ cond-false (has_bit 0 i && has_bit d i) false (has_bit b i) (and_left (has_bit 0 i) (has_bit d i) e)
      ∙ sym (cond-false (has_bit w i) (has_bit d i) (has_bit b i) none)
]

-- a byte without writable bits and bits that are cleared by a one stays
pub byte-kept : (b d : ℕ) → b < 256 → byte_of_bits (written_bit 0 0 b d) ≡ b
byte-kept b d fits = byte_by_bits b (written_bit 0 0 b d) fits (λ i below. written_bit-plain 0 b d i ∙ cond-false (has_bit 0 i) (has_bit d i) (has_bit b i) (has_bit-zero i))

-- a byte is as it was when its old value is written back
pub byte-put_back : (w b d : ℕ) → b < 256 → byte_of_bits (written_bit w 0 (byte_of_bits (written_bit w 0 b d)) b) ≡ b
byte-put_back w b d fits = byte_by_bits b (written_bit w 0 (byte_of_bits (written_bit w 0 b d)) b) fits (λ i below.
    written_bit-plain w (byte_of_bits (written_bit w 0 b d)) b i ∙ elim (cases_Bool (has_bit w i)) [
      | inl one ↦ cond-true (has_bit w i) (has_bit b i) (has_bit (byte_of_bits (written_bit w 0 b d)) i) one
      | inr none ↦
          cond-false (has_bit w i) (has_bit b i) (has_bit (byte_of_bits (written_bit w 0 b d)) i) none
          ∙ has_bit-byte_of_bits (written_bit w 0 b d) i below ∙ written_bit-plain w b d i ∙ cond-false (has_bit w i) (has_bit d i) (has_bit b i) none
    ])

-- a written byte is a byte
pub written_byte-lt : (t : Target) (offset width value place : ℕ) → IsImage t.image → written_byte t offset width value place < 256
written_byte-lt t offset width value place image = elim (cases_lt place offset) [
  | inl below ↦ let e = written_byte-below t offset width value place below in let fits = image.bytes place in omega (arith, e, fits)
  | inr low ↦ elim (cases_lt place (offset + width)) [
    | inl inside ↦
        let e = written_byte-inside t offset width value place low inside in
        let fits = byte_of_bits-lt (written_bit (byte_at t.writable place) (byte_at t.clearing place) (byte_at t.image place) (value / 256 ^ (place - offset) % 256)) in
        omega (arith, e, fits)
    | inr above ↦ let e = written_byte-above t offset width value place above in let fits = image.bytes place in omega (arith, e, fits)
  ]
]

-- a written configuration space is one
pub IsImage-written : (t : Target) (offset width value : ℕ) → IsImage t.image → IsImage (written t offset width value)
IsImage-written t offset width value image = record {
  full = length-written t offset width value;
  bytes = λ place. elim (cases_lt place 256) [
    | inl below ↦ let e = byte_at-written t offset width value place below in let fits = written_byte-lt t offset width value place image in omega (arith, e, fits)
    | inr past ↦
        let all = length-written t offset width value in
        let e : byte_at (written t offset width value) place ≡ 0 = get_or_past (written t offset width value) place 0 (omega (arith, all)) in
        omega (arith, e)
  ];
}

-- a byte that can't change stays under a write
pub written_byte-kept : (t : Target) (offset width value place : ℕ) → IsImage t.image → byte_at t.writable place ≡ 0 → byte_at t.clearing place ≡ 0
    → written_byte t offset width value place ≡ byte_at t.image place
written_byte-kept t offset width value place image no_write no_clear = elim (cases_lt place offset) [
  | inl below ↦ written_byte-below t offset width value place below
  | inr low ↦ elim (cases_lt place (offset + width)) [
    | inl inside ↦
        written_byte-inside t offset width value place low inside
        ∙ ap (λ w. byte_of_bits (written_bit w (byte_at t.clearing place) (byte_at t.image place) (value / 256 ^ (place - offset) % 256))) no_write
        ∙ ap (λ c. byte_of_bits (written_bit 0 c (byte_at t.image place) (value / 256 ^ (place - offset) % 256))) no_clear
        ∙ byte-kept (byte_at t.image place) (value / 256 ^ (place - offset) % 256) (image.bytes place)
    | inr above ↦ written_byte-above t offset width value place above
  ]
]

-- no bit of the header type is cleared by a one
pub header_unclear : (t : Target) → IsTarget t → byte_at t.clearing 0x0e ≡ 0
header_unclear t target = target.status 0x0e (and_right (layout t.image == 1) false refl)

-- a function stays lawful under a write that leaves its header type
pub IsTarget-with_layout : (t : Target) (image : List ℕ) → IsTarget t → IsImage image → byte_at image 0x0e ≡ byte_at t.image 0x0e → IsTarget (record t { image = image })
IsTarget-with_layout t image target good same = record {
  image = good;
  writable = target.writable;
  clearing = target.clearing;
  apart = target.apart;
  status = λ place h. target.status place (ap (λ n. place == 0x06 || place == 0x07 || (n % 128 == 1 && (place == 0x1e || place == 0x1f))) (sym same) ∙ h);
}

-- ---- bytes whose bits are pinned

-- bits of a byte in memory without those of a mask
pub without_bits-and : (b m : ℕ) → b < 256 → m < 256 → bit_and b (255 - m) ≡ without_bits b m
without_bits-and b m b_fits m_fits =
    let left = and_le_l b (255 - m) in
    sym (byte_by_bits (bit_and b (255 - m)) (λ i. has_bit b i && not (has_bit m i)) (omega (arith, left)) (λ i below.
    let not_m = bit_at_not w8 m i m_fits below in
    let both = bit_at_and b (255 - m) i in
    let b_lt = bit_at-lt b i in
    let m_lt = bit_at-lt m i in
    elim (cases_Bool (has_bit b i)) [
      | inl b_one ↦ elim (cases_Bool (has_bit m i)) [
        | inl m_one ↦
            let b_is = bit_of_true b i b_one in let m_is = bit_of_true m i m_one in
            and_right (has_bit b i) (not (has_bit m i)) (not_from_true (has_bit m i) m_one)
            ∙ sym (ne_eqb (bit_at (bit_and b (255 - m)) i) 1 (λ e. omega (arith, e, both, not_m, m_is)))
        | inr m_none ↦
            let b_is = bit_of_true b i b_one in let m_is = bit_of_false m i m_none in
            and_from (has_bit b i) (not (has_bit m i)) b_one (not_from_false (has_bit m i) m_none)
            ∙ sym (eq-eqb (bit_at (bit_and b (255 - m)) i) 1 (omega (arith, both, not_m, m_is, b_is)))
      ]
      | inr b_none ↦
          let b_is = bit_of_false b i b_none in
          and_left (has_bit b i) (not (has_bit m i)) b_none ∙ sym (ne_eqb (bit_at (bit_and b (255 - m)) i) 1 (λ e. omega (arith, e, both, b_is)))
    ]))

-- what is pinned is not writable, where the byte is one of the 256, and nothing becomes writable
byte_at-pinned : (t : Target) (place mask other : ℕ) → IsImage t.writable
    → (byte_at (pinned t place mask).writable other ≡ byte_at t.writable other) ⊎ ((other ≡ place) × (byte_at (pinned t place mask).writable other ≡ without_bits (byte_at t.writable other) mask))
byte_at-pinned t place mask other writable = elim (cases_eq other place) [
  | inl here ↦ elim (cases_lt place 256) [
    | inl within ↦
        let full = writable.full in
        inr (
          here,
          ap (λ k. byte_at (pinned t place mask).writable k) here
              ∙ get_or-set_same t.writable place (without_bits (byte_at t.writable place) mask) 0 (omega (arith, within, full))
              ∙ ap (λ k. without_bits (byte_at t.writable k) mask) (sym here),
        )
    | inr past ↦
        let full = writable.full in
        inl (ap (λ xs. byte_at xs other) (set_past t.writable place (without_bits (byte_at t.writable place) mask) (omega (arith, past, full))))
  ]
  | inr apart ↦ inl (get_or-set_other t.writable place other (without_bits (byte_at t.writable place) mask) 0 apart)
]

-- pinning makes no bit of the header type writable
pub header-pinned : (t : Target) (place mask : ℕ) → IsImage t.writable → byte_at t.writable 0x0e ≡ 0 → byte_at (pinned t place mask).writable 0x0e ≡ 0
header-pinned t place mask writable header = elim (byte_at-pinned t place mask 0x0e writable) [
  | inl same ↦ same ∙ header
  | inr here ↦
      here.1 ∙ byte_by_bits 0 (λ i. has_bit (byte_at t.writable 0x0e) i && not (has_bit mask i)) (lit< tt)
      (λ i below. and_left (has_bit (byte_at t.writable 0x0e) i) (not (has_bit mask i)) (ap (λ b. has_bit b i) header ∙ has_bit-zero i) ∙ sym (has_bit-zero i))
]

-- bit i of a byte of pinned bits is writable only where it was
still_apart : (t : Target) (place mask other i : ℕ) → IsTarget t → (has_bit (byte_at (pinned t place mask).writable other) i && has_bit (byte_at t.clearing other) i) ≡ false
still_apart t place mask other i target = elim (byte_at-pinned t place mask other target.writable) [
  | inl same ↦ ap (λ b. has_bit b i && has_bit (byte_at t.clearing other) i) same ∙ target.apart other i
  | inr here ↦ elim (cases_lt i 8) [
    | inl below ↦
        ap (λ b. has_bit b i && has_bit (byte_at t.clearing other) i) here.1
        ∙ ap (λ b. b && has_bit (byte_at t.clearing other) i) (has_bit-byte_of_bits (λ j. has_bit (byte_at t.writable other) j && not (has_bit mask j)) i below)
        ∙ elim (and_cases (has_bit (byte_at t.writable other) i) (has_bit (byte_at t.clearing other) i) (target.apart other i)) [
          | inl no_write ↦
              and_left (has_bit (byte_at t.writable other) i && not (has_bit mask i)) (has_bit (byte_at t.clearing other) i)
              (and_left (has_bit (byte_at t.writable other) i) (not (has_bit mask i)) no_write)
          | inr no_clear ↦ and_right (has_bit (byte_at t.writable other) i && not (has_bit mask i)) (has_bit (byte_at t.clearing other) i) no_clear
        ]
    | inr past ↦
        let small = target.clearing.bytes other in
        let none = bit_at_above (byte_at t.clearing other) 8 i small past in
        and_right (has_bit (byte_at (pinned t place mask).writable other) i) (has_bit (byte_at t.clearing other) i)
        (ne_eqb (bit_at (byte_at t.clearing other) i) 1 (λ e. omega (arith, e, none)))
  ]
]

-- a function stays lawful when bits are pinned
pub IsTarget-pinned : (t : Target) (place mask : ℕ) → IsTarget t → IsTarget (pinned t place mask)
IsTarget-pinned t place mask target = record {
  image = target.image;
  writable = record {
    full = length-set t.writable place (without_bits (byte_at t.writable place) mask) ∙ target.writable.full;
    bytes = λ other. elim (byte_at-pinned t place mask other target.writable) [
      | inl same ↦ let fits = target.writable.bytes other in omega (arith, same, fits)
      | inr here ↦
          let is = here.1 in
          let fits = byte_of_bits-lt (λ i. has_bit (byte_at t.writable other) i && not (has_bit mask i)) in
          omega (arith, is, fits)
    ];
  };
  clearing = target.clearing;
  apart = λ other i. still_apart t place mask other i target;
  status = target.status;
}
