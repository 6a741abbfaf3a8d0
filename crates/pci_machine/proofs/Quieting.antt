-- A function whose decode bits were cleared.
use Rattle.std.proofs.Common.{◌≡◌, ◌≢◌, ℕ, zero, suc, ◌+◌, ◌-◌, ◌*◌, ◌/◌, ◌%◌, ◌^◌, ◌<◌, ◌≤◌, ◌==◌, ◌&&◌, ◌||◌, nat_lt, nat_le, cond, refl, Bool, true, false, List, [], ◌∷◌, map, Option, Some, None, inl, inr, arith, sym, ◌∙◌, ap, subst, lit<, lit≤}
use Rattle.std.specs.Int.{bit_at}
use Rattle.std.specs.List.{range_with_len, list_any, find}
use Rattle.std.proofs.lemmas.Bool.{cases_lt, cases_eq, cases_Bool, or_parts, both_ways, eqb-true, eqb-false, eq-eqb, ne_eqb, cond-true, cond-false, false_from_ne_true}
use Rattle.std.proofs.lemmas.List.{get_or_past}
use Rattle.std.proofs.lemmas.Nat.Bits.{bit_at_above, bit_at-zero}
use Rattle.pci_spec.specs.Number.{byte_at, has_bit}
use Rattle.pci_spec.specs.Header.{command, layout, address_registers}
use Rattle.pci_spec.specs.Fault.{is_in_address_register}
use Rattle.pci_spec.specs.Machine.{Target, written, byte_of_bits, written_bit, sized, read_back, register_at, sizing_ones}
use Rattle.pci_spec.proofs.Bits.{bit_of_true, bit_of_false, bit_at-without_low, bit_at-without_low_below, agree-quotients, quotients-agree}
use Rattle.pci_spec.specs.Port.{IsTarget}
use Rattle.pci_spec.specs.Sizing.{quieted, IsPlain, IsStuck, IsPartlySized, DiffersInRegisters}
use Rattle.pci_machine.proofs.Writes.{written_byte-inside, byte_at-written, length-written}
use Rattle.pci_machine.proofs.Bytes.{has_bit-byte_of_bits, byte_by_bits, written_bit-plain, IsImage-written}
use Rattle.pci_machine.proofs.Sizing.{differs-written}

-- no bit of Command is cleared by a one
no_status : (bridge : Bool) → (false || (bridge && false)) ≡ false
no_status true = refl
no_status false = refl

-- no bit of Command is cleared by a one, in either layout
pub command_plain : (t : Target) → IsTarget t → IsPlain t 0x04 2
command_plain t target place from inside = elim (cases_eq place 0x04) [
  | inl four ↦ ap (byte_at t.clearing) four ∙ target.status 0x04 (no_status (layout t.image == 1))
  | inr other ↦ let five : place ≡ 0x05 = omega (arith, from, inside, other) in ap (byte_at t.clearing) five ∙ target.status 0x05 (no_status (layout t.image == 1))
]

-- Command is in no address register
by_layout : (P : List (ℕ × ℕ) → Type 0) → P (address_registers 0) → P (address_registers 1) → (kind : ℕ) → P (address_registers kind)
by_layout P device bridge kind = elim (cases_Bool (kind == 1)) [
  | inl one ↦ subst P (ap address_registers (sym (eqb-true kind 1 one))) bridge
  | inr other ↦ subst P (sym (cond-false (kind == 1) (address_registers 1) (address_registers 0) other)) device
]

-- the two bytes of Command lie in no address register
pub command_apart : (kind : ℕ) → (is_in_address_register kind 0x04 ≡ false) × (is_in_address_register kind 0x05 ≡ false)
command_apart kind =
    by_layout (λ rs. (list_any (λ r. nat_le r.0 0x04 && nat_lt 0x04 (r.0 + r.1)) rs ≡ false) × (list_any (λ r. nat_le r.0 0x05 && nat_lt 0x05 (r.0 + r.1)) rs ≡ false))
    (refl, refl) (refl, refl) kind

-- no address register is found at them
no_register : (kind : ℕ) → (register_at kind 0x04 ≡ None) × (register_at kind 0x05 ≡ None)
no_register kind =
    by_layout (λ rs. (find (λ r. nat_le r.0 0x04 && nat_lt 0x04 (r.0 + r.1)) rs ≡ None) × (find (λ r. nat_le r.0 0x05 && nat_lt 0x05 (r.0 + r.1)) rs ≡ None))
    (refl, refl) (refl, refl) kind

-- a choice between two equal tests
same_either : (w a b : Bool) → a ≡ b → cond w a b ≡ b
same_either true a b h = h
same_either false a b h = refl

-- numbers with the same test of a bit have the same bit
bit_of_test : (n m i : ℕ) → has_bit n i ≡ has_bit m i → bit_at n i ≡ bit_at m i
bit_of_test n m i same = elim (cases_Bool (has_bit m i)) [
  | inl one ↦ bit_of_true n i (same ∙ one) ∙ sym (bit_of_true m i one)
  | inr none ↦ bit_of_false n i (same ∙ none) ∙ sym (bit_of_false m i none)
]

-- bit 0 of Command is that of its low byte
low_0 : (image : List ℕ) → bit_at (command image) 0 ≡ bit_at (byte_at image 0x04) 0
low_0 image = omega arith

-- and so is bit 1
low_1 : (image : List ℕ) → bit_at (command image) 1 ≡ bit_at (byte_at image 0x04) 1
low_1 image = omega arith

-- a number without its two low bits is a multiple of four
low_two : (n : ℕ) → bit_at n 0 ≡ 0 → bit_at n 1 ≡ 0 → n % 4 ≡ 0
low_two n a b = omega arith

-- a multiple of four has neither of its two low bits
low_bits_clear : (n : ℕ) → n % 4 ≡ 0 → (i : ℕ) → i < 2 → bit_at n i ≡ 0
low_bits_clear n h zero below = omega arith
low_bits_clear n h (suc zero) below = omega arith
low_bits_clear n h (suc (suc i)) below = absurd (let no : ⊥ = omega (arith, below) in no)

-- two bytes that agree from bit 2 on make numbers that do
quotient : (a b c d n m : ℕ) → n ≡ a + b * 256 → m ≡ c + d * 256 → a / 4 ≡ c / 4 → b ≡ d → n / 2 ^ 2 ≡ m / 2 ^ 2
quotient a b c d n m hn hm low high = omega arith

-- functions that agree make the same list
map-ext : {X Y : Type 0} (f g : X → Y) → ((x : X) → f x ≡ g x) → (xs : List X) → map f xs ≡ map g xs
map-ext f g same [] = refl
map-ext f g same (x ∷ xs) = let one = same x in let rest = map-ext f g same xs in cc

module _ (t : Target) (target : IsTarget t) where
  -- a byte outside Command stays
  other_byte : (place : ℕ) → place ≢ 0x04 → place ≢ 0x05 → byte_at (quieted t) place ≡ byte_at t.image place
  other_byte place four five =
      (differs-written t 0x04 2 (command t.image / 4 * 4) target.image).outside place
      (elim (cases_lt place 0x04) [ inl below ↦ inl below | inr from ↦ inr (omega (arith, from, four, five)) ])

  -- the layout stays
  pub same_layout : layout (quieted t) ≡ layout t.image
  same_layout = ap (λ b. b % 128) (other_byte 0x0e (λ e. both_ways (0x0e == 0x04) refl (eq-eqb 0x0e 0x04 e)) (λ e. both_ways (0x0e == 0x05) refl (eq-eqb 0x0e 0x05 e)))

  -- a byte of Command, after the write
  command_byte : (place part : ℕ) → 0x04 ≤ place → place < 0x06 → place - 0x04 ≡ part
      → byte_at (quieted t) place ≡ byte_of_bits (written_bit (byte_at t.writable place) 0 (byte_at t.image place) (command t.image / 4 * 4 / 256 ^ part % 256))
  command_byte place part from below is =
      byte_at-written t 0x04 2 (command t.image / 4 * 4) place (omega arith) ∙ written_byte-inside t 0x04 2 (command t.image / 4 * 4) place from below
      ∙ ap (λ c. byte_of_bits (written_bit (byte_at t.writable place) c (byte_at t.image place) (command t.image / 4 * 4 / 256 ^ (place - 0x04) % 256))) (command_plain t target place from below)
      ∙ ap (λ n. byte_of_bits (written_bit (byte_at t.writable place) 0 (byte_at t.image place) (command t.image / 4 * 4 / 256 ^ n % 256))) is

  -- the low byte of Command: a bit of the decode bits is clear where it can be written, and stays where it can't
  low_bit : (i : ℕ) → i < 8 → has_bit (byte_at (quieted t) 0x04) i ≡ cond (has_bit (byte_at t.writable 0x04) i) (has_bit (byte_at t.image 0x04 / 2 ^ 2 * 2 ^ 2) i) (has_bit (byte_at t.image 0x04) i)
  low_bit i below =
      let fits = target.image.bytes 0x04 in
      let fits_high = target.image.bytes 0x05 in
      let datum : command t.image / 4 * 4 / 256 ^ 0 % 256 ≡ byte_at t.image 0x04 / 4 * 4 = omega (arith, fits, fits_high) in
      ap (λ b. has_bit b i) (command_byte 0x04 0 (lit≤ tt) (lit< tt) refl ∙ ap (λ d. byte_of_bits (written_bit (byte_at t.writable 0x04) 0 (byte_at t.image 0x04) d)) datum)
      ∙ has_bit-byte_of_bits (written_bit (byte_at t.writable 0x04) 0 (byte_at t.image 0x04) (byte_at t.image 0x04 / 4 * 4)) i below
      ∙ written_bit-plain (byte_at t.writable 0x04) (byte_at t.image 0x04) (byte_at t.image 0x04 / 4 * 4) i

  -- a decode bit that can be written is clear
  decode_bit_cleared : (i : ℕ) → i < 2 → has_bit (byte_at t.writable 0x04) i ≡ true → has_bit (byte_at (quieted t) 0x04) i ≡ false
  decode_bit_cleared i below can =
      low_bit i (omega arith) ∙ cond-true (has_bit (byte_at t.writable 0x04) i) _ _ can
      ∙ ne_eqb _ 1 (λ e. let z = bit_at-without_low_below (byte_at t.image 0x04) 2 i below in let n = bit_at-zero i in omega (arith, e, z, n))

  -- one that can't be written stays
  decode_bit_kept : (i : ℕ) → i < 2 → has_bit (byte_at t.writable 0x04) i ≡ false → has_bit (byte_at (quieted t) 0x04) i ≡ has_bit (byte_at t.image 0x04) i
  decode_bit_kept i below stuck = low_bit i (omega arith) ∙ cond-false (has_bit (byte_at t.writable 0x04) i) _ _ stuck

  -- the other bits of the low byte stay
  low_kept : byte_at (quieted t) 0x04 / 4 ≡ byte_at t.image 0x04 / 4
  low_kept = agree-quotients 2 (byte_at (quieted t) 0x04) (byte_at t.image 0x04) (λ i from. elim (cases_lt i 8) [
    | inr far ↦
        let fits = target.image.bytes 0x04 in
        let fits_new = (IsImage-written t 0x04 2 (command t.image / 4 * 4) target.image).bytes 0x04 in
        bit_at_above (byte_at (quieted t) 0x04) 8 i fits_new far ∙ sym (bit_at_above (byte_at t.image 0x04) 8 i fits far)
    | inl near ↦
        let same : has_bit (byte_at (quieted t) 0x04) i ≡ has_bit (byte_at t.image 0x04) i =
        low_bit i near ∙ same_either (has_bit (byte_at t.writable 0x04) i) (has_bit (byte_at t.image 0x04 / 2 ^ 2 * 2 ^ 2) i) (has_bit (byte_at t.image 0x04) i)
        (ap (λ b. b == 1) (bit_at-without_low (byte_at t.image 0x04) 2 i from)) in
        bit_of_test (byte_at (quieted t) 0x04) (byte_at t.image 0x04) i same
  ])

  -- the high byte stays
  high_kept : byte_at (quieted t) 0x05 ≡ byte_at t.image 0x05
  high_kept =
      let fits = target.image.bytes 0x04 in
      let fits_high = target.image.bytes 0x05 in
      let w = byte_at t.writable 0x05 in
      let b = byte_at t.image 0x05 in
      let datum : command t.image / 4 * 4 / 256 ^ 1 % 256 ≡ byte_at t.image 0x05 = omega (arith, fits, fits_high) in
      command_byte 0x05 1 (lit≤ tt) (lit< tt) refl ∙ ap (λ d. byte_of_bits (written_bit w 0 b d)) datum
      ∙ byte_by_bits b (written_bit w 0 b b) fits_high (λ i below. written_bit-plain w b b i ∙ same_either (has_bit w i) (has_bit b i) (has_bit b i) refl)

  -- a decode bit of Command is one of its low byte
  pub decode_bit : (image : List ℕ) → byte_at image 0x04 < 256 → (i : ℕ) → i < 2 → has_bit (command image) i ≡ has_bit (byte_at image 0x04) i
  decode_bit image fits i below = elim (cases_lt i 1) [
    | inl lowest ↦ let e : i ≡ 0 = omega arith in ap (has_bit (command image)) e ∙ ap (λ n. n == 1) (low_0 image) ∙ sym (ap (has_bit (byte_at image 0x04)) e)
    | inr first ↦ let e : i ≡ 1 = omega arith in ap (has_bit (command image)) e ∙ ap (λ n. n == 1) (low_1 image) ∙ sym (ap (has_bit (byte_at image 0x04)) e)
  ]

  -- the quiet function's bytes are bytes
  new_fits : (place : ℕ) → byte_at (quieted t) place < 256
  new_fits = (IsImage-written t 0x04 2 (command t.image / 4 * 4) target.image).bytes

  -- a decode bit that is still shown is stuck
  stuck_at : (i : ℕ) → i < 2 → has_bit (command (quieted t)) i ≡ true → IsStuck t
  stuck_at i below set =
      let shown : has_bit (byte_at (quieted t) 0x04) i ≡ true = sym (decode_bit (quieted t) (new_fits 0x04) i below) ∙ set in
      let cannot : has_bit (byte_at t.writable 0x04) i ≡ false = false_from_ne_true _ (λ can. both_ways _ (decode_bit_cleared i below can) shown) in
      (i, below, decode_bit t.image (target.image.bytes 0x04) i below ∙ sym (decode_bit_kept i below cannot) ∙ shown, cannot)

  -- where Command still shows a decode bit, one of them is stuck
  pub stuck_by : (command (quieted t) % 4 ≡ 0 → ⊥) → IsStuck t
  stuck_by loud =
      elim (cases_Bool (has_bit (command (quieted t)) 0)) [
        | inl set ↦ stuck_at 0 (lit< tt) set
        | inr clear ↦ elim (cases_Bool (has_bit (command (quieted t)) 1)) [
          | inl set ↦ stuck_at 1 (lit< tt) set
          | inr clear_too ↦
              let zero_bit = bit_of_false (command (quieted t)) 0 clear in
              let one_bit = bit_of_false (command (quieted t)) 1 clear_too in
              absurd (loud (low_two (command (quieted t)) zero_bit one_bit))
        ]
      ]

  -- where Command shows none, none was stuck
  pub free_by : command (quieted t) % 4 ≡ 0 → IsStuck t → ⊥
  free_by quiet (i, below, set, cannot) =
      let shown = decode_bit (quieted t) (new_fits 0x04) i below ∙ decode_bit_kept i below cannot ∙ sym (decode_bit t.image (target.image.bytes 0x04) i below) ∙ set in
      let one = bit_of_true (command (quieted t)) i shown in
      let none = low_bits_clear (command (quieted t)) quiet i below in
      omega (arith, one, none)

  -- what differs from the quiet function in address registers alone is partly sized
  pub partly_sized : (image : List ℕ) → DiffersInRegisters (quieted t) image → IsPartlySized t image
  partly_sized image differs =
      let apart = command_apart (layout (quieted t)) in
      let same_low : byte_at image 0x04 ≡ byte_at (quieted t) 0x04 = differs.outside 0x04 apart.0 in
      let same_high : byte_at image 0x05 ≡ byte_at (quieted t) 0x05 = differs.outside 0x05 apart.1 in
      record {
        full = differs.full ∙ length-written t 0x04 2 (command t.image / 4 * 4);
        rest_of_command = quotients-agree 2 (command image) (command t.image) (quotient (byte_at image 0x04) (byte_at image 0x05) (byte_at t.image 0x04) (byte_at t.image 0x05)
            (command image) (command t.image) (omega arith) (omega arith) (ap (λ n. n / 4) same_low ∙ low_kept) (same_high ∙ high_kept));
        quiet = λ i below can.
            let fits : byte_at image 0x04 < 256 = subst (λ n. n < 256) (sym same_low) (new_fits 0x04) in
            decode_bit image fits i below ∙ ap (λ b. has_bit b i) same_low ∙ decode_bit_cleared i below can;
        others = λ place none.
            let first = or_parts (place == 0x04 || place == 0x05) (is_in_address_register (layout t.image) place) none in
            let second = or_parts (place == 0x04) (place == 0x05) first.0 in
            differs.outside place (ap (λ kind. is_in_address_register kind place) same_layout ∙ first.1)
            ∙ other_byte place (eqb-false place 0x04 second.0) (eqb-false place 0x05 second.1);
      }

  -- a write to an address register leaves the same in a byte that is the same
  same_written : (register width value place : ℕ) → byte_at (quieted t) place ≡ byte_at t.image place
      → byte_at (written (record t { image = quieted t }) register width value) place ≡ byte_at (written t register width value) place
  same_written register width value place same = elim (cases_lt place 256) [
    | inl below ↦
        byte_at-written (record t { image = quieted t }) register width value place below
        ∙ ap (λ b. cond (nat_le register place && nat_lt place (register + width))
        (byte_of_bits (written_bit (byte_at t.writable place) (byte_at t.clearing place) b (value / 256 ^ (place - register) % 256))) b) same
        ∙ sym (byte_at-written t register width value place below)
    | inr past ↦
        let first = length-written (record t { image = quieted t }) register width value in
        let second = length-written t register width value in
        get_or_past (written (record t { image = quieted t }) register width value) place 0 (omega (arith, past, first))
        ∙ sym (get_or_past (written t register width value) place 0 (omega (arith, past, second)))
  ]

  -- so the read back there is the same
  same_at : (place : ℕ) (o : Option (ℕ × ℕ)) → byte_at (quieted t) place ≡ byte_at t.image place → read_back (record t { image = quieted t }) place o ≡ read_back t place o
  same_at place None same = refl
  same_at place (Some (register, width)) same =
      same_written register width (sizing_ones (layout (quieted t)) register) place same
      ∙ ap (λ kind. byte_at (written t register width (sizing_ones kind register)) place) same_layout

  -- there is none in Command
  in_command : (place : ℕ) → register_at (layout (quieted t)) place ≡ None → register_at (layout t.image) place ≡ None
      → read_back (record t { image = quieted t }) place (register_at (layout (quieted t)) place) ≡ read_back t place (register_at (layout t.image) place)
  in_command place first second = ap (read_back (record t { image = quieted t }) place) first ∙ sym (ap (read_back t place) second)

  -- each byte reads back the same
  same_read_back : (place : ℕ) → read_back (record t { image = quieted t }) place (register_at (layout (quieted t)) place) ≡ read_back t place (register_at (layout t.image) place)
  same_read_back place = elim (cases_eq place 0x04) [
    | inl four ↦
        in_command place (ap (register_at (layout (quieted t))) four ∙ (no_register (layout (quieted t))).0) (ap (register_at (layout t.image)) four ∙ (no_register (layout t.image)).0)
    | inr not_four ↦ elim (cases_eq place 0x05) [
      | inl five ↦
          in_command place (ap (register_at (layout (quieted t))) five ∙ (no_register (layout (quieted t))).1) (ap (register_at (layout t.image)) five ∙ (no_register (layout t.image)).1)
      | inr not_five ↦
          same_at place (register_at (layout (quieted t)) place) (other_byte place not_four not_five)
          ∙ ap (λ kind. read_back t place (register_at kind place)) same_layout
    ]
  ]

  -- sizing a quiet function finds what sizing the function does
  pub sized-quieted : sized (record t { image = quieted t }) ≡ sized t
  unfolding sized
  sized-quieted = map-ext (λ place. read_back (record t { image = quieted t }) place (register_at (layout (quieted t)) place)) (λ place. read_back t place (register_at (layout t.image) place)) same_read_back (range_with_len 0 256)
