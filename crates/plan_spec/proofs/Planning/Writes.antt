-- What writes do to a system, and to what is on in it.
use Rattle.std.proofs.Common.{◌≡◌, ℕ, ◌+◌, ◌-◌, ◌*◌, ◌/◌, ◌%◌, ◌^◌, ◌<◌, ◌≤◌, ◌⊎◌, inl, inr, List, true, false, cond, ◌&&◌, ◌||◌, arith, sym, ◌∙◌, ap, length, get_or}
use Rattle.std.specs.Bool.{nat_le, nat_lt, ◌==◌}
use Rattle.std.specs.List.{Contains}
use Rattle.std.specs.Int.{bit_at}
use Rattle.std.proofs.lemmas.Bool.{and_parts, and_from, and_left, and_right, le-leb, lt-leb, lt-ltb, le-ltb, eqb-true, cases_Bool}
use Rattle.std.proofs.lemmas.List.{get_or-map, length-map}
use Rattle.std.proofs.lemmas.List.FromFn.{get_or-map-range_with_len}
use Rattle.std.proofs.lemmas.List.Elements.{Contains-get_or}
use Rattle.pci_spec.specs.Number.{byte_at, has_bit}
use Rattle.pci_spec.specs.Slot.{Slot, same_slot, slot_number}
use Rattle.pci_spec.specs.Header.{layout, command}
use Rattle.pci_spec.specs.System.{System, Function}
use Rattle.pci_spec.specs.Machine.{Target, Write, in_fields, writable_fields, writable_bits, byte_of_bits, written_bit, written_byte, written, target_of, write_function, write_system}
use Rattle.pci_spec.proofs.Bits.{digit, digit_of_bit, bit_at-number_of_bits, bit_at-mod}
use Rattle.plan_spec.specs.Planning.Safety.{is_on}
use Rattle.pci_spec.proofs.WritableBits.{enables_are_fields}

-- ---- functions at other slots stay

pub write_elsewhere : (w : Write) (f : Function) → same_slot f.slot w.slot ≡ false → write_function w f ≡ f
write_elsewhere w f e = ap (λ b. record f { image = (cond b (record (target_of f) { image = written (target_of f) w.offset w.width w.value }) (target_of f)).image }) e

pub write_here : (w : Write) (f : Function) → same_slot f.slot w.slot ≡ true → write_function w f ≡ record f { image = written (target_of f) w.offset w.width w.value }
write_here w f e = ap (λ b. record f { image = (cond b (record (target_of f) { image = written (target_of f) w.offset w.width w.value }) (target_of f)).image }) e

pub same_number : (s t : Slot) → same_slot s t ≡ true → slot_number s ≡ slot_number t
same_number s t e =
    let two = and_parts (s.bus == t.bus && s.device == t.device) (s.function == t.function) e in
    let one = and_parts (s.bus == t.bus) (s.device == t.device) two.0 in
    let b = eqb-true s.bus t.bus one.0 in
    let d = eqb-true s.device t.device one.1 in
    let n = eqb-true s.function t.function two.1 in
    omega (arith, b, d, n)

pub other_number : (s t : Slot) → (slot_number s ≡ slot_number t → ⊥) → same_slot s t ≡ false
other_number s t differ = elim (cases_Bool (same_slot s t)) [ inl same ↦ absurd (differ (same_number s t same)) | inr other ↦ other ]

-- ---- members before and after a write

pub listed_before : (s : System) (w : Write) (g : Function) → Contains (write_system s w) g → (f : Function) × Contains s f × (write_function w f ≡ g)
listed_before s w g (k, less, is) =
    let inside : k < length s = (let l = length-map s (write_function w) in omega (arith, l, less)) in
    (get_or s k g, Contains-get_or s k g inside, sym (get_or-map (write_function w) s k g g inside) ∙ is)

pub listed_after : (s : System) (w : Write) (f : Function) → Contains s f → Contains (write_system s w) (write_function w f)
listed_after s w f (k, less, is) = (
  k,
  (let l = length-map s (write_function w) in omega (arith, l, less)),
  get_or-map (write_function w) s k f (write_function w f) less ∙ ap (write_function w) is,
)

-- ---- bytes

pub byte-written : (t : Target) (offset width value place : ℕ) → place < 256 → byte_at (written t offset width value) place ≡ written_byte t offset width value place
unfolding written
byte-written t offset width value place inside = get_or-map-range_with_len (written_byte t offset width value) 0 256 place place 0 inside (omega arith)

pub byte_outside : (t : Target) (offset width value place : ℕ) → place < 256 → (place < offset) ⊎ (offset + width ≤ place) → byte_at (written t offset width value) place ≡ byte_at t.image place
byte_outside t offset width value place inside apart =
    let test : (nat_le offset place && nat_lt place (offset + width)) ≡ false = elim apart [
      | inl before ↦ and_left (nat_le offset place) (nat_lt place (offset + width)) (lt-leb offset place before)
      | inr after ↦ and_right (nat_le offset place) (nat_lt place (offset + width)) (le-ltb place (offset + width) after)
    ] in
    byte-written t offset width value place inside
    ∙ ap (λ b. cond b (byte_of_bits (written_bit (byte_at t.writable place) (byte_at t.clearing place) (byte_at t.image place) (value / 256 ^ (place - offset) % 256))) (byte_at t.image place)) test

pub byte_inside : (t : Target) (offset width value place : ℕ) → place < 256 → offset ≤ place → place < offset + width
    → byte_at (written t offset width value) place ≡ byte_of_bits (written_bit (byte_at t.writable place) (byte_at t.clearing place) (byte_at t.image place) (value / 256 ^ (place - offset) % 256))
byte_inside t offset width value place inside from to =
    let test : (nat_le offset place && nat_lt place (offset + width)) ≡ true = and_from (nat_le offset place) (nat_lt place (offset + width)) (le-leb offset place from) (lt-ltb place (offset + width) to) in
    byte-written t offset width value place inside
    ∙ ap (λ b. cond b (byte_of_bits (written_bit (byte_at t.writable place) (byte_at t.clearing place) (byte_at t.image place) (value / 256 ^ (place - offset) % 256))) (byte_at t.image place)) test

-- ---- Command

-- a write that touches no byte of Command keeps it
pub command_kept : (t : Target) (offset width value : ℕ) → (offset + width ≤ 4) ⊎ (6 ≤ offset) → command (written t offset width value) ≡ command t.image
command_kept t offset width value apart =
    let four = byte_outside t offset width value 4 (omega arith) (elim apart [ inl low ↦ inr (omega (arith, low)) | inr high ↦ inl (omega (arith, high)) ]) in
    let five = byte_outside t offset width value 5 (omega arith) (elim apart [ inl low ↦ inr (omega (arith, low)) | inr high ↦ inl (omega (arith, high)) ]) in
    ap (λ a. 0 + a * 256 ^ 0 + byte_at (written t offset width value) 5 * 256 ^ 1) four ∙ ap (λ b. 0 + byte_at t.image 4 * 256 ^ 0 + b * 256 ^ 1) five

low_bit : (a b i : ℕ) → i < 8 → bit_at (0 + a * 256 ^ 0 + b * 256 ^ 1) i ≡ bit_at a i
low_bit a b i h =
    let e : (0 + a * 256 ^ 0 + b * 256 ^ 1) % 2 ^ 8 ≡ a % 2 ^ 8 = omega arith in
    sym (bit_at-mod (0 + a * 256 ^ 0 + b * 256 ^ 1) 8 i h) ∙ ap (λ n. bit_at n i) e ∙ bit_at-mod a 8 i h

-- bit i of Command is that of its first byte
pub command_bit : (image : List ℕ) (i : ℕ) → i < 8 → bit_at (command image) i ≡ bit_at (byte_at image 4) i
command_bit image i h = low_bit (byte_at image 4) (byte_at image 5) i h

-- bits 0 and 1 of Command can be written
writable_byte : (image probe : List ℕ) → byte_at (writable_bits image probe) 4 ≡ byte_of_bits (in_fields (writable_fields image probe) 4)
unfolding writable_bits
writable_byte image probe = get_or-map-range_with_len (λ offset. byte_of_bits (in_fields (writable_fields image probe) offset)) 0 256 4 4 0 (omega arith) (omega arith)

pub enables_are_writable : (image probe : List ℕ) (i : ℕ) → i < 2 → has_bit (byte_at (writable_bits image probe) 4) i ≡ true
enables_are_writable image probe i h =
    ap (λ n. has_bit n i) (writable_byte image probe)
    ∙ ap (λ n. n == 1) (bit_at-number_of_bits 8 (in_fields (writable_fields image probe) 4) i (omega (arith, h)) ∙ ap digit (enables_are_fields (layout image == 1) probe i h))

bit_written : (writable clearing old datum i : ℕ) → i < 8 → has_bit writable i ≡ true → bit_at (byte_of_bits (written_bit writable clearing old datum)) i ≡ bit_at datum i
bit_written writable clearing old datum i h e =
    bit_at-number_of_bits 8 (written_bit writable clearing old datum) i h
    ∙ ap (λ b. digit (cond b (has_bit datum i) (cond (has_bit clearing i && has_bit datum i) false (has_bit old i)))) e
    ∙ digit_of_bit datum i

datum_bit : (value i : ℕ) → i < 8 → bit_at (value / 256 ^ (4 - 4) % 256) i ≡ bit_at value i
datum_bit value i h = let e : value / 256 ^ (4 - 4) % 256 ≡ value % 2 ^ 8 = omega arith in ap (λ n. bit_at n i) e ∙ bit_at-mod value 8 i h

-- after a write to Command its bits 0 and 1 are those that were written
pub command_written : (f : Function) (value i : ℕ) → i < 2 → has_bit (command (written (target_of f) 4 2 value)) i ≡ has_bit value i
command_written f value i h =
    let t = target_of f in
    let small : i < 8 = omega (arith, h) in
    ap (λ n. n == 1) (
    command_bit (written t 4 2 value) i small
    ∙ ap (λ n. bit_at n i) (byte_inside t 4 2 value 4 (omega arith) (omega arith) (omega arith))
    ∙ bit_written (byte_at t.writable 4) (byte_at t.clearing 4) (byte_at t.image 4) (value / 256 ^ (4 - 4) % 256) i small (enables_are_writable f.image f.probe i h)
    ∙ datum_bit value i small
    )

-- ---- what is on

-- a write that clears them turns the function off
pub off_by_write : (w : Write) (f : Function) → same_slot f.slot w.slot ≡ true → w.offset ≡ 4 → w.width ≡ 2 → has_bit w.value 0 ≡ false → has_bit w.value 1 ≡ false → is_on (write_function w f) ≡ false
off_by_write w f here at wide zero_clear one_clear =
    let e : write_function w f ≡ record f { image = written (target_of f) 4 2 w.value } =
    write_here w f here ∙ ap (λ o. record f { image = written (target_of f) o w.width w.value }) at ∙ ap (λ n. record f { image = written (target_of f) 4 n w.value }) wide in
    ap is_on e
    ∙ ap (λ b. b || has_bit (command (written (target_of f) 4 2 w.value)) 1) (command_written f w.value 0 (omega arith) ∙ zero_clear)
    ∙ command_written f w.value 1 (omega arith) ∙ one_clear

-- a write elsewhere keeps it
pub on_kept : (w : Write) (f : Function) → (w.offset + w.width ≤ 4) ⊎ (6 ≤ w.offset) → is_on (write_function w f) ≡ is_on f
on_kept w f apart = elim (cases_Bool (same_slot f.slot w.slot)) [
  | inl here ↦
      let e = write_here w f here in
      let c = command_kept (target_of f) w.offset w.width w.value apart in
      ap is_on e ∙ ap (λ n. has_bit n 0 || has_bit n 1) c
  | inr other ↦ ap is_on (write_elsewhere w f other)
]
