-- Where writable bits are, and which bits of registers no write changes.
use Rattle.std.proofs.Common.{◌≡◌, ℕ, zero, suc, ◌+◌, ◌-◌, ◌*◌, ◌/◌, ◌%◌, ◌^◌, ◌<◌, ◌≤◌, inl, inr, List, [], ◌∷◌, refl, Bool, true, false, ◌&&◌, ◌||◌, not, arith, sym, ◌∙◌, ap, subst}
use Rattle.std.specs.Prelude.{◌==◌, if◌then◌else◌}
use Rattle.std.specs.Bool.{nat_le, nat_lt}
use Rattle.std.specs.Int.{bit_at}
use Rattle.std.specs.List.{list_all, list_any, range_with_len}
use Rattle.std.proofs.lemmas.Bool.{cases_lt, and_parts, or_cases, both_ways, leb-true, ltb-true, eq-eqb, ne_eqb, cond_both}
use Rattle.std.proofs.lemmas.Nat.{pow_pos, mod_below}
use Rattle.std.proofs.lemmas.Nat.Bits.{bit_at-zero, bit_at_above, same_from_bits}
use Rattle.pci_spec.specs.Number.{byte_at, number_at, has_bit, IsImage}
use Rattle.pci_spec.specs.Header.{layout, bar_register, rom_place, registers_by, is_in_register}
use Rattle.pci_spec.specs.Bar.{bar_at, is_io, encodings}
use Rattle.pci_spec.specs.Window.{IoWindow, MemoryWindow, PrefetchWindow}
use Rattle.pci_spec.specs.Rom.{rom_at}
use Rattle.pci_spec.specs.System.{Function}
use Rattle.pci_spec.specs.Machine.{Field, field_has, in_fields, without_low, bar_field, writable_by, clearing_by, written, target_of}
use Rattle.pci_spec.specs.MachineLaws.{WritableBitsAreOfRegisters, ClearingBitsAreOfStatus, CommandIsWritable, RomEnableIsWritable, BarKeepsEncoding, WindowKeepsNibbles}
use Rattle.pci_spec.proofs.Bits.{bit_at-mod, bit_at-without_low_below}
use Rattle.pci_spec.proofs.WrittenBits.{bit_at-number_at, write_keeps_other_bits, write_leaves_image}
use Rattle.pci_spec.proofs.WritableBits.{has_bit-writable_bits, has_bit-clearing_bits}
use Rattle.pci_spec.proofs.ReadBacks.{encoding_width, encodings-power, RomRules, rom_rules}
use Rattle.pci_spec.proofs.Sizing.{rom_bytes, rom_in_image, FieldByte, bar_bytes, few_bars, one_byte, or_none}

-- ---- where the fields are

-- each place that a field covers passes a test
abbrev pub are_within : (ℕ → Bool) → List Field → Bool
are_within test fields = list_all (λ (f : Field). list_all test (range_with_len f.offset f.width)) fields

in_range_passes : (test : ℕ → Bool) (low count place : ℕ) → list_all test (range_with_len low count) ≡ true → low ≤ place → place < low + count → test place ≡ true
in_range_passes test low zero place h from to = absurd (let no : ⊥ = omega (arith, from, to) in no)
in_range_passes test low (suc count) place h from to =
    let both = and_parts (test low) (list_all test (range_with_len (low + 1) count)) h in
    elim (cases_lt low place) [
      | inl above ↦ in_range_passes test (low + 1) count place both.1 (omega (arith, above)) (omega (arith, to))
      | inr least ↦ let e : low ≡ place = omega (arith, from, least) in subst (λ p. test p ≡ true) e both.0
    ]

pub field_passes : (test : ℕ → Bool) (fields : List Field) (place i : ℕ) → are_within test fields ≡ true → in_fields fields place i ≡ true → test place ≡ true
field_passes test [] place i h there = absurd (both_ways false refl there)
field_passes test (f ∷ fields) place i h there =
    let both = and_parts (list_all test (range_with_len f.offset f.width)) (are_within test fields) h in
    elim (or_cases (field_has place i f) (in_fields fields place i) there) [
      | inl here ↦
          let outer = and_parts (nat_le f.offset place && nat_lt place (f.offset + f.width)) (has_bit f.bits (8 * (place - f.offset) + i)) here in
          let inner = and_parts (nat_le f.offset place) (nat_lt place (f.offset + f.width)) outer.0 in
          in_range_passes test f.offset f.width place both.0 (leb-true f.offset place inner.0) (ltb-true place (f.offset + f.width) inner.1)
      | inr later ↦ field_passes test fields place i both.1 later
    ]

abbrev may_be_writable : Bool → ℕ → Bool
may_be_writable bridge place =
    (nat_le 0x04 place && nat_lt place 0x06) || list_any (is_in_register place) (registers_by bridge) || place == 0x3c
    || (bridge && nat_le 0x18 place && nat_lt place 0x1b)

writable_within : (bridge : Bool) (probe : List ℕ) → are_within (may_be_writable bridge) (writable_by bridge probe) ≡ true
writable_within true probe = refl
writable_within false probe = refl

pub writable_bits_are_of_registers : WritableBitsAreOfRegisters
writable_bits_are_of_registers image probe place i inside small h =
    field_passes (may_be_writable (layout image == 1)) (writable_by (layout image == 1) probe) place i (writable_within (layout image == 1) probe)
    (sym (has_bit-writable_bits image probe place i inside small) ∙ h)

abbrev may_be_clearing : Bool → ℕ → Bool
may_be_clearing bridge place = (nat_le 0x06 place && nat_lt place 0x08) || (bridge && nat_le 0x1e place && nat_lt place 0x20)

clearing_within : (bridge : Bool) → are_within (may_be_clearing bridge) (clearing_by bridge) ≡ true
clearing_within true = refl
clearing_within false = refl

pub clearing_bits_are_of_status : ClearingBitsAreOfStatus
clearing_bits_are_of_status image place i inside small h =
    field_passes (may_be_clearing (layout image == 1)) (clearing_by (layout image == 1)) place i (clearing_within (layout image == 1))
    (sym (has_bit-clearing_bits image place i inside small) ∙ h)

-- ---- Command

of_eight : (P : ℕ → Type 0) → P 0 → P 1 → P 2 → P 3 → P 4 → P 5 → P 6 → P 7 → (i : ℕ) → i < 8 → P i
of_eight P a b c d e f g h zero l = a
of_eight P a b c d e f g h (suc zero) l = b
of_eight P a b c d e f g h (suc (suc zero)) l = c
of_eight P a b c d e f g h (suc (suc (suc zero))) l = d
of_eight P a b c d e f g h (suc (suc (suc (suc zero)))) l = e
of_eight P a b c d e f g h (suc (suc (suc (suc (suc zero))))) l = f
of_eight P a b c d e f g h (suc (suc (suc (suc (suc (suc zero)))))) l = g
of_eight P a b c d e f g h (suc (suc (suc (suc (suc (suc (suc zero))))))) l = h
of_eight P a b c d e f g h (suc (suc (suc (suc (suc (suc (suc (suc i)))))))) l = absurd (let no : ⊥ = omega (arith, l) in no)

abbrev CommandBit : Bool → List ℕ → ℕ → Type 0
CommandBit bridge probe i =
    (in_fields (writable_by bridge probe) 0x04 i ≡ (i == 0 || i == 1 || i == 2 || i == 6)) × (in_fields (writable_by bridge probe) 0x05 i ≡ (i == 0 || i == 2))

command_bits : (bridge : Bool) (probe : List ℕ) (i : ℕ) → i < 8 → CommandBit bridge probe i
command_bits true probe = of_eight (CommandBit true probe) (refl, refl) (refl, refl) (refl, refl) (refl, refl) (refl, refl) (refl, refl) (refl, refl) (refl, refl)
command_bits false probe = of_eight (CommandBit false probe) (refl, refl) (refl, refl) (refl, refl) (refl, refl) (refl, refl) (refl, refl) (refl, refl) (refl, refl)

pub command_is_writable : CommandIsWritable
command_is_writable image probe i small =
    let bits = command_bits (layout image == 1) probe i small in
    (has_bit-writable_bits image probe 4 i (omega arith) small ∙ bits.0, has_bit-writable_bits image probe 5 i (omega arith) small ∙ bits.1)

-- ---- the ROM's enable bit

no_low_bit : (value mask b : ℕ) → RomRules value mask → b < 11 → has_bit mask b ≡ false
no_low_bit value mask b (inl absent) below = ap (λ m. has_bit m b) absent.0 ∙ ne_eqb (bit_at 0 b) 1 (λ e. let z = bit_at-zero b in omega (arith, e, z))
no_low_bit value mask b (inr rom) below = ne_eqb (bit_at mask b) 1 (λ e. let z = rom.low b below in omega (arith, e, z))

pub rom_enable_is_writable : RomEnableIsWritable
rom_enable_is_writable image probe j i rule inside small below =
    let bridge = layout image == 1 in
    let fits = rom_in_image bridge in
    has_bit-writable_bits image probe (rom_place bridge + j) i (omega (arith, fits, inside)) small
    ∙ (rom_bytes bridge probe j inside i).0
    ∙ ap (λ b. b || (8 * j + i == 0 && not (rom_at image probe == 0))) (no_low_bit (rom_at image image) (rom_at image probe) (8 * j + i) (rom_rules image probe rule) below)

-- ---- low bits that stay

-- the low bits of a byte where none is writable or cleared by a one
low_bits_stay : (f : Function) (place low offset width value : ℕ) → place < 256 → low ≤ 8
    → ((i : ℕ) → i < low → (in_fields (writable_by (layout f.image == 1) f.probe) place i ≡ false) × (in_fields (clearing_by (layout f.image == 1)) place i ≡ false))
    → byte_at (written (target_of f) offset width value) place % 2 ^ low ≡ byte_at f.image place % 2 ^ low
low_bits_stay f place low offset width value inside few none =
    let after = byte_at (written (target_of f) offset width value) place in
    let before = byte_at f.image place in
    same_from_bits (after % 2 ^ low) (before % 2 ^ low) (λ i. elim (cases_lt i low) [
      | inr above ↦ bit_at_above (after % 2 ^ low) low i (mod_below after (2 ^ low) (pow_pos low)) above ∙ sym (bit_at_above (before % 2 ^ low) low i (mod_below before (2 ^ low) (pow_pos low)) above)
      | inl below ↦
          let small : i < 8 = omega (arith, below, few) in
          let clear = none i below in
          bit_at-mod after low i below
          ∙ write_keeps_other_bits (target_of f) offset width value place i inside small (has_bit-writable_bits f.image f.probe place i inside small ∙ clear.0) (has_bit-clearing_bits f.image place i inside small ∙ clear.1)
          ∙ sym (bit_at-mod before low i below)
    ])

-- the low bits of a number are those of its first byte
low_of_number : (image : List ℕ) (offset width low : ℕ) → IsImage image → low ≤ 8 → 0 < width → number_at image offset width % 2 ^ low ≡ byte_at image offset % 2 ^ low
low_of_number image offset width low is few some =
    let n = number_at image offset width in
    let b = byte_at image offset in
    same_from_bits (n % 2 ^ low) (b % 2 ^ low) (λ i. elim (cases_lt i low) [
      | inr above ↦ bit_at_above (n % 2 ^ low) low i (mod_below n (2 ^ low) (pow_pos low)) above ∙ sym (bit_at_above (b % 2 ^ low) low i (mod_below b (2 ^ low) (pow_pos low)) above)
      | inl below ↦
          let at : i ≡ 8 * 0 + i = omega arith in
          let first : offset + 0 ≡ offset = omega arith in
          bit_at-mod n low i below ∙ ap (λ k. bit_at n k) at
          ∙ bit_at-number_at image offset is width 0 i some (omega (arith, below, few))
          ∙ ap (λ o. bit_at (byte_at image o) i) first ∙ sym (bit_at-mod b low i below)
    ])

-- a field without its low bits has none of them
none_below : (bridge : Bool) (probe : List ℕ) (place mask low i : ℕ) → i < low → FieldByte bridge probe place (mask / 2 ^ low * 2 ^ low) 0
    → (in_fields (writable_by bridge probe) (place + 0) i ≡ false) × (in_fields (clearing_by bridge) (place + 0) i ≡ false)
none_below bridge probe place mask low i below byte =
    let bits = mask / 2 ^ low * 2 ^ low in
    let at : 8 * 0 + i ≡ i = omega arith in
    let clear : has_bit bits i ≡ false = ne_eqb (bit_at bits i) 1 (λ e. let z = bit_at-without_low_below mask low i below in let n = bit_at-zero i in omega (arith, e, z, n)) in
    ((byte i).0 ∙ or_none (has_bit bits (8 * 0 + i)) ∙ ap (has_bit bits) at ∙ clear, (byte i).1)

-- the low bits of a register where its field has none of them
low_of_register_stays : (f : Function) (bridge : Bool) → (layout f.image == 1) ≡ bridge → IsImage f.image → (place many mask low offset width value : ℕ) → place < 256 → low ≤ 8 → 0 < many
    → FieldByte bridge f.probe place (mask / 2 ^ low * 2 ^ low) 0
    → number_at (written (target_of f) offset width value) place many % 2 ^ low ≡ number_at f.image place many % 2 ^ low
low_of_register_stays f bridge kind is place many mask low offset width value inside few some byte =
    let at : place + 0 ≡ place = omega arith in
    low_of_number (written (target_of f) offset width value) place many low (write_leaves_image (target_of f) offset width value is) few some
    ∙ low_bits_stay f place low offset width value inside few (λ i below.
    let none = none_below bridge f.probe place mask low i below byte in (
      ap (λ b. in_fields (writable_by b f.probe) place i) kind ∙ ap (λ p. in_fields (writable_by bridge f.probe) p i) (sym at) ∙ none.0,
      ap (λ b. in_fields (clearing_by b) place i) kind ∙ ap (λ p. in_fields (clearing_by bridge) p i) (sym at) ∙ none.1,
    ))
    ∙ sym (low_of_number f.image place many low is few some)

few_encodings : (mask : ℕ) → encoding_width mask ≤ 8
few_encodings mask = cond_both (is_io mask) 2 4 (λ n. n ≤ 8) (λ _. omega arith) (λ _. omega arith)

pub bar_keeps_encoding : BarKeepsEncoding
bar_keeps_encoding f n offset width value is inside starts =
    let bridge = layout f.image == 1 in
    let mask = bar_at f.probe n in
    let low = encoding_width mask in
    let bits : (bar_field f.probe n).bits ≡ mask / 2 ^ low * 2 ^ low =
    ap (λ b. if b then without_low (encodings mask) mask else mask) starts ∙ ap (λ e. mask / e * e) (encodings-power mask) in
    let byte : FieldByte bridge f.probe (bar_register n) (mask / 2 ^ low * 2 ^ low) 0 =
    subst (λ x. FieldByte bridge f.probe (bar_register n) x 0) bits (bar_bytes bridge f.probe n inside 0 (omega arith)) in
    let few : n < 6 = few_bars bridge n inside in
    ap (λ e. bar_at (written (target_of f) offset width value) n % e) (encodings-power mask)
    ∙ low_of_register_stays f bridge refl is (bar_register n) 4 mask low offset width value (omega (arith, few)) (few_encodings mask) (omega arith) byte
    ∙ sym (ap (λ e. bar_at f.image n % e) (encodings-power mask))

-- one byte, as a number
byte_nibble : (image after : List ℕ) (place : ℕ) → number_at after place 1 % 2 ^ 4 ≡ number_at image place 1 % 2 ^ 4 → byte_at after place % 16 ≡ byte_at image place % 16
byte_nibble image after place h = let a = one_byte after place in let b = one_byte image place in omega (arith, h, a, b)

nibble_stays : (f : Function) → (layout f.image == 1) ≡ true → IsImage f.image → (place many offset width value : ℕ) → place < 256 → 0 < many
    → FieldByte true f.probe place (number_at f.probe place many / 2 ^ 4 * 2 ^ 4) 0
    → number_at (written (target_of f) offset width value) place many % 2 ^ 4 ≡ number_at f.image place many % 2 ^ 4
nibble_stays f kind is place many offset width value inside some byte = low_of_register_stays f true kind is place many (number_at f.probe place many) 4 offset width value inside (omega arith) some byte

pub window_keeps_nibbles : WindowKeepsNibbles
window_keeps_nibbles f IoWindow offset width value is bridge =
    let kind = eq-eqb (layout f.image) 1 bridge in
    let after = written (target_of f) offset width value in (
      byte_nibble f.image after 0x1c (nibble_stays f kind is 0x1c 1 offset width value (omega arith) (omega arith) (λ i. (refl, refl))),
      byte_nibble f.image after 0x1d (nibble_stays f kind is 0x1d 1 offset width value (omega arith) (omega arith) (λ i. (refl, refl))),
    )
window_keeps_nibbles f MemoryWindow offset width value is bridge =
    let kind = eq-eqb (layout f.image) 1 bridge in (
      nibble_stays f kind is 0x20 2 offset width value (omega arith) (omega arith) (λ i. (refl, refl)),
      nibble_stays f kind is 0x22 2 offset width value (omega arith) (omega arith) (λ i. (refl, refl)),
    )
window_keeps_nibbles f PrefetchWindow offset width value is bridge =
    let kind = eq-eqb (layout f.image) 1 bridge in (
      nibble_stays f kind is 0x24 2 offset width value (omega arith) (omega arith) (λ i. (refl, refl)),
      nibble_stays f kind is 0x26 2 offset width value (omega arith) (omega arith) (λ i. (refl, refl)),
    )
