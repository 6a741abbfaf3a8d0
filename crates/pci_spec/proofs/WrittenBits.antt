-- A register's bits are those of its bytes, and a write's are those of its value.
use Rattle.std.proofs.Common.{[], ◌∷◌, ◌≡◌, ℕ, zero, suc, ◌+◌, ◌-◌, ◌*◌, ◌/◌, ◌%◌, ◌^◌, ◌<◌, ◌≤◌, inl, inr, List, refl, Bool, true, false, cond, ◌&&◌, arith, sym, ◌∙◌, ap, subst, length}
use Rattle.std.specs.Prelude.{◌==◌}
use Rattle.std.specs.Bool.{nat_le, nat_lt}
use Rattle.std.specs.Int.{bit_at}
use Rattle.std.proofs.lemmas.Bool.{cases_lt, cases_Bool, and_from, and_left, and_right, le-leb, lt-leb, lt-ltb, le-ltb, eq-eqb, ne_eqb}
use Rattle.std.proofs.lemmas.Nat.{shr-shr, pow-add}
use Rattle.std.proofs.lemmas.Nat.Bits.{bit_at_cat_low, bit_at_cat_high}
use Rattle.std.proofs.lemmas.List.FromFn.{get_or-map-range_with_len, length-map-range_with_len}
use Rattle.std.proofs.Math.Nat.{mul-le-mul_right, pow-succ'}
use Rattle.pci_spec.specs.Number.{byte_at, number_at, has_bit, IsImage}
use Rattle.pci_spec.specs.Machine.{Target, byte_of_bits, bytes_of_bits, written_bit, written_byte, written}
use Rattle.pci_spec.specs.MachineLaws.{WriteKeepsOtherBits, WriteKeepsOtherBytes, WriteSetsWritableBits, OneClears, ZeroClearsNothing, WriteLeavesImage}
use Rattle.pci_spec.proofs.Bits.{bit_at-mod, digit, digit_of_bit, bit_at-number_of_bits, number_of_bits-lt}

-- ---- numbers and their bytes

bytes_as_bits : (width : ℕ) → 256 ^ width ≡ 2 ^ (8 * width)
bytes_as_bits zero = refl
bytes_as_bits (suc width) =
    let e : 8 * suc width ≡ 8 + 8 * width = omega arith in
    pow-succ' 256 width ∙ ap (λ n. 256 * n) (bytes_as_bits width) ∙ sym (pow-add 2 8 (8 * width)) ∙ ap (λ k. 2 ^ k) (sym e)

pub number_at-below : (image : List ℕ) (offset : ℕ) → IsImage image → (width : ℕ) → number_at image offset width < 256 ^ width
number_at-below image offset is zero = omega arith
number_at-below image offset is (suc width) =
    let low = number_at-below image offset is width in
    let b = is.bytes (offset + width) in
    let m : suc (byte_at image (offset + width)) * 256 ^ width ≤ 256 * 256 ^ width = mul-le-mul_right (256 ^ width) b in
    let p = pow-succ' 256 width in
    omega (arith, low, m, p)

-- a bit of a register is a bit of one of its bytes
pub bit_at-number_at : (image : List ℕ) (offset : ℕ) → IsImage image → (width j i : ℕ) → j < width → i < 8 → bit_at (number_at image offset width) (8 * j + i) ≡ bit_at (byte_at image (offset + j)) i
bit_at-number_at image offset is zero j i inside small = absurd (let no : ⊥ = omega (arith, inside) in no)
bit_at-number_at image offset is (suc width) j i inside small =
    let low : number_at image offset width < 2 ^ (8 * width) = subst (λ n. number_at image offset width < n) (bytes_as_bits width) (number_at-below image offset is width) in
    let b = byte_at image (offset + width) in
    let order : number_at image offset width + b * 256 ^ width ≡ b * 2 ^ (8 * width) + number_at image offset width = (let e = ap (λ n. b * n) (bytes_as_bits width) in omega (arith, e)) in
    elim (cases_lt j width) [
      | inl before ↦
          ap (λ n. bit_at n (8 * j + i)) order
          ∙ bit_at_cat_low b (8 * width) (number_at image offset width) (8 * j + i) (omega (arith, before, small))
          ∙ bit_at-number_at image offset is width j i before small
      | inr after ↦
          let same : j ≡ width = omega (arith, inside, after) in
          ap (λ n. bit_at n (8 * j + i)) order
          ∙ ap (λ k. bit_at (b * 2 ^ (8 * width) + number_at image offset width) (8 * k + i)) same
          ∙ bit_at_cat_high b (8 * width) (number_at image offset width) (8 * width + i) low (omega arith)
          ∙ ap (λ k. bit_at b k) (let z : 8 * width + i - 8 * width ≡ i = omega arith in z)
          ∙ ap (λ k. bit_at (byte_at image (offset + k)) i) (sym same)
    ]

-- and so is a bit of what is written
pub bit_at-datum : (value j i : ℕ) → i < 8 → bit_at (value / 256 ^ j % 256) i ≡ bit_at value (8 * j + i)
bit_at-datum value j i small =
    bit_at-mod (value / 256 ^ j) 8 i small
    ∙ ap (λ n. value / n / 2 ^ i % 2) (bytes_as_bits j)
    ∙ ap (λ n. n % 2) (shr-shr value (8 * j) i)

-- a bit of bytes that are made by their bits
pub byte_at-bytes_of_bits : (test : ℕ → ℕ → Bool) (place : ℕ) → place < 256 → byte_at (bytes_of_bits test) place ≡ byte_of_bits (test place)
byte_at-bytes_of_bits test place inside = get_or-map-range_with_len (λ offset. byte_of_bits (test offset)) 0 256 place place 0 inside (omega arith)

pub has_bit-byte_of_bits : (test : ℕ → Bool) (i : ℕ) → i < 8 → has_bit (byte_of_bits test) i ≡ test i
has_bit-byte_of_bits test i small = elim (cases_Bool (test i)) [
  | inl one ↦ ap (λ n. n == 1) (bit_at-number_of_bits 8 test i small ∙ ap digit one) ∙ sym one
  | inr none ↦ ap (λ n. n == 1) (bit_at-number_of_bits 8 test i small ∙ ap digit none) ∙ sym none
]

-- ---- bytes after a write

pub byte_at-written : (t : Target) (offset width value place : ℕ) → place < 256 → byte_at (written t offset width value) place ≡ written_byte t offset width value place
unfolding written
byte_at-written t offset width value place inside = get_or-map-range_with_len (written_byte t offset width value) 0 256 place place 0 inside (omega arith)

-- a byte of the write's target that takes the datum
abbrev pub taken_byte : Target → ℕ → ℕ → ℕ → ℕ
taken_byte t offset value place = byte_of_bits (written_bit (byte_at t.writable place) (byte_at t.clearing place) (byte_at t.image place) (value / 256 ^ (place - offset) % 256))

pub write_keeps_other_bytes : WriteKeepsOtherBytes
write_keeps_other_bytes t offset width value place inside apart =
    let test : (nat_le offset place && nat_lt place (offset + width)) ≡ false = elim apart [
      | inl before ↦ and_left (nat_le offset place) (nat_lt place (offset + width)) (lt-leb offset place before)
      | inr after ↦ and_right (nat_le offset place) (nat_lt place (offset + width)) (le-ltb place (offset + width) after)
    ] in
    byte_at-written t offset width value place inside
    ∙ ap (λ b. cond b (taken_byte t offset value place) (byte_at t.image place)) test

pub byte_at-written_inside : (t : Target) (offset width value place : ℕ) → place < 256 → offset ≤ place → place < offset + width
    → byte_at (written t offset width value) place ≡ taken_byte t offset value place
byte_at-written_inside t offset width value place inside from to =
    let test : (nat_le offset place && nat_lt place (offset + width)) ≡ true = and_from (nat_le offset place) (nat_lt place (offset + width)) (le-leb offset place from) (lt-ltb place (offset + width) to) in
    byte_at-written t offset width value place inside
    ∙ ap (λ b. cond b (taken_byte t offset value place) (byte_at t.image place)) test

-- ---- bits after a write

-- by the three tests on a bit
abbrev bit_by : Bool → Bool → Bool → Bool → Bool
bit_by writable clearing datum old = cond writable datum (cond (clearing && datum) false old)

bit_of_taken : (t : Target) (offset value place i : ℕ) → i < 8
    → bit_at (taken_byte t offset value place) i
    ≡ digit (bit_by (has_bit (byte_at t.writable place) i) (has_bit (byte_at t.clearing place) i) (has_bit (value / 256 ^ (place - offset) % 256) i) (has_bit (byte_at t.image place) i))
bit_of_taken t offset value place i small = bit_at-number_of_bits 8 (written_bit (byte_at t.writable place) (byte_at t.clearing place) (byte_at t.image place) (value / 256 ^ (place - offset) % 256)) i small

pub bit_taken : (t : Target) (offset value place i : ℕ) → i < 8 → has_bit (byte_at t.writable place) i ≡ true → bit_at (taken_byte t offset value place) i ≡ bit_at value (8 * (place - offset) + i)
bit_taken t offset value place i small writable =
    let datum = value / 256 ^ (place - offset) % 256 in
    bit_of_taken t offset value place i small
    ∙ ap (λ b. digit (bit_by b (has_bit (byte_at t.clearing place) i) (has_bit datum i) (has_bit (byte_at t.image place) i))) writable
    ∙ digit_of_bit datum i ∙ bit_at-datum value (place - offset) i small

kept_by : (clearing datum old : Bool) → clearing ≡ false → bit_by false clearing datum old ≡ old
kept_by clearing datum old none = ap (λ c. cond (c && datum) false old) none

kept_by_zero : (clearing datum old : Bool) → datum ≡ false → bit_by false clearing datum old ≡ old
kept_by_zero clearing datum old none = ap (λ c. cond c false old) (and_right clearing datum none)

cleared_by_one : (clearing datum old : Bool) → clearing ≡ true → datum ≡ true → bit_by false clearing datum old ≡ false
cleared_by_one clearing datum old one one_too = ap (λ c. cond c false old) (and_from clearing datum one one_too)

pub bit_kept : (t : Target) (offset value place i : ℕ) → i < 8 → has_bit (byte_at t.writable place) i ≡ false → has_bit (byte_at t.clearing place) i ≡ false
    → bit_at (taken_byte t offset value place) i ≡ bit_at (byte_at t.image place) i
bit_kept t offset value place i small writable clearing =
    let datum = value / 256 ^ (place - offset) % 256 in
    bit_of_taken t offset value place i small
    ∙ ap (λ b. digit (bit_by b (has_bit (byte_at t.clearing place) i) (has_bit datum i) (has_bit (byte_at t.image place) i))) writable
    ∙ ap digit (kept_by (has_bit (byte_at t.clearing place) i) (has_bit datum i) (has_bit (byte_at t.image place) i) clearing)
    ∙ digit_of_bit (byte_at t.image place) i

pub write_keeps_other_bits : WriteKeepsOtherBits
write_keeps_other_bits t offset width value place i inside small writable clearing = elim (cases_lt place offset) [
  | inl before ↦ ap (λ n. bit_at n i) (write_keeps_other_bytes t offset width value place inside (inl before))
  | inr from ↦ elim (cases_lt place (offset + width)) [
    | inr after ↦ ap (λ n. bit_at n i) (write_keeps_other_bytes t offset width value place inside (inr after))
    | inl to ↦ ap (λ n. bit_at n i) (byte_at-written_inside t offset width value place inside from to) ∙ bit_kept t offset value place i small writable clearing
  ]
]

pub write_sets_writable_bits : WriteSetsWritableBits
write_sets_writable_bits t offset width value place i inside small from to writable =
    ap (λ n. bit_at n i) (byte_at-written_inside t offset width value place inside from to) ∙ bit_taken t offset value place i small writable

pub one_clears : OneClears
one_clears t offset width value place i inside small from to writable clearing one =
    let datum = value / 256 ^ (place - offset) % 256 in
    let set : has_bit datum i ≡ true = eq-eqb (bit_at datum i) 1 (bit_at-datum value (place - offset) i small ∙ one) in
    ap (λ n. bit_at n i) (byte_at-written_inside t offset width value place inside from to)
    ∙ bit_of_taken t offset value place i small
    ∙ ap (λ b. digit (bit_by b (has_bit (byte_at t.clearing place) i) (has_bit datum i) (has_bit (byte_at t.image place) i))) writable
    ∙ ap digit (cleared_by_one (has_bit (byte_at t.clearing place) i) (has_bit datum i) (has_bit (byte_at t.image place) i) clearing set)

pub zero_clears_nothing : ZeroClearsNothing
zero_clears_nothing t offset width value place i inside small from to writable none =
    let datum = value / 256 ^ (place - offset) % 256 in
    let off : has_bit datum i ≡ false = ne_eqb (bit_at datum i) 1 (λ one. let e = bit_at-datum value (place - offset) i small in omega (arith, one, e, none)) in
    ap (λ n. bit_at n i) (byte_at-written_inside t offset width value place inside from to)
    ∙ bit_of_taken t offset value place i small
    ∙ ap (λ b. digit (bit_by b (has_bit (byte_at t.clearing place) i) (has_bit datum i) (has_bit (byte_at t.image place) i))) writable
    ∙ ap digit (kept_by_zero (has_bit (byte_at t.clearing place) i) (has_bit datum i) (has_bit (byte_at t.image place) i) off)
    ∙ digit_of_bit (byte_at t.image place) i

-- ---- an image again

small_by : (b : Bool) (x y : ℕ) → x < 256 → y < 256 → cond b x y < 256
small_by true x y h k = h
small_by false x y h k = k

written_byte_small : (t : Target) (offset width value place : ℕ) → IsImage t.image → written_byte t offset width value place < 256
written_byte_small t offset width value place is = small_by (nat_le offset place && nat_lt place (offset + width)) (taken_byte t offset value place) (byte_at t.image place) (number_of_bits-lt 8 _) (is.bytes place)

past_end : (bytes : List ℕ) (place : ℕ) → length bytes ≤ place → byte_at bytes place ≡ 0
past_end [] place h = refl
past_end (b ∷ bytes) zero h = absurd (let no : ⊥ = omega (arith, h) in no)
past_end (b ∷ bytes) (suc place) h = past_end bytes place (omega (arith, h))

pub length-written : (t : Target) (offset width value : ℕ) → length (written t offset width value) ≡ 256
unfolding written
length-written t offset width value = length-map-range_with_len (written_byte t offset width value) 0 256

pub write_leaves_image : WriteLeavesImage
write_leaves_image t offset width value is = record {
  full = length-written t offset width value;
  bytes = (λ place. elim (cases_lt place 256) [
    | inl inside ↦ let e = byte_at-written t offset width value place inside in let s = written_byte_small t offset width value place is in omega (arith, e, s)
    | inr outside ↦ let many = length-written t offset width value in let e = past_end (written t offset width value) place (omega (arith, many, outside)) in omega (arith, e)
  ]);
}
