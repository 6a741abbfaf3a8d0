-- Sizing a function finds its read backs.
use Rattle.std.proofs.Common.{◌≡◌, ℕ, zero, suc, ◌+◌, ◌-◌, ◌*◌, ◌/◌, ◌^◌, ◌<◌, ◌≤◌, inl, inr, List, [], ◌∷◌, refl, Bool, true, false, ◌&&◌, ◌||◌, not, Option, None, Some, arith, sym, ◌∙◌, ap, subst, length, lit<}
use Rattle.std.specs.Prelude.{◌==◌, if◌then◌else◌}
use Rattle.std.specs.Bool.{nat_le, nat_lt}
use Rattle.std.specs.Int.{bit_at}
use Rattle.std.specs.Option.{unwrap_or}
use Rattle.std.specs.List.{find, list_any}
use Rattle.std.proofs.lemmas.Bool.{cases_lt, cases_Bool, and_parts, and_cases, or_cases, or_parts, both_ways, leb-true, ltb-true, lt-ltb, eqb-true, eqb-false, ne_eqb, not-false, not_from_false, cond-true, cond-false}
use Rattle.std.proofs.lemmas.Option.{none-some}
use Rattle.std.proofs.lemmas.List.{ext_get_or}
use Rattle.std.proofs.lemmas.List.FromFn.{get_or-map-range_with_len, length-map-range_with_len}
use Rattle.std.proofs.lemmas.Nat.Bits.{bit_at-zero, bit_at_ones, bit_at_above, bit_at_mask_inside, bit_at_mask_below, same_from_bits_below}
use Rattle.pci_spec.specs.Number.{byte_at, number_at, has_bit, IsImage}
use Rattle.pci_spec.specs.Header.{layout, bar_register, rom_place, registers_by, address_registers, is_in_register}
use Rattle.pci_spec.specs.Bar.{bar_at, starts_bar, encodings, bar_fault}
use Rattle.pci_spec.specs.Window.{WindowKind, IoWindow, MemoryWindow, PrefetchWindow, bounds_at}
use Rattle.pci_spec.specs.System.{Function, IsFunction}
use Rattle.pci_spec.specs.Fault.{is_stray}
use Rattle.pci_spec.specs.Decoded.{IsDecodable}
use Rattle.pci_spec.specs.Machine.{in_fields, without_low, bar_field, writable_by, clearing_by, written, target_of, read_back, register_at, sized}
use Rattle.pci_spec.specs.MachineLaws.{SizingFindsProbe}
use Rattle.pci_spec.proofs.Bits.{number_of_bits-lt, bit_at-without_low, bit_at-without_low_below, bit_at-mod, bit_of_true, bit_of_false}
use Rattle.pci_spec.proofs.WrittenBits.{bit_at-number_at, byte_at-written_inside, taken_byte, bit_taken, bit_kept}
use Rattle.pci_spec.proofs.WritableBits.{has_bit-writable_bits, has_bit-clearing_bits}
use Rattle.pci_spec.proofs.ReadBacks.{Agrees, encoding_width, encodings-power, bar_agrees, upper_half_agrees, RomRules, rom_rules, WindowAgrees, window_agrees}

-- ---- a field after ones

-- A bit that the field has shows what was written as the read back does, another the value's bit, as the read back does.
pub record Settles (bits value mask : ℕ) (has : ℕ → Bool) (written_there : ℕ → ℕ) : Type 0 where
  pub on : (b : ℕ) → b < bits → has b ≡ true → bit_at mask b ≡ written_there b
  pub off : (b : ℕ) → b < bits → has b ≡ false → bit_at value b ≡ bit_at mask b

-- a field that has the read back's bits from bit `low` up, after ones
pub settles_by_ones : (low bits value mask : ℕ) (there : ℕ → ℕ) → Agrees low bits value mask → ((b : ℕ) → b < bits → there b ≡ 1) → Settles bits value mask (has_bit (mask / 2 ^ low * 2 ^ low)) there
settles_by_ones low bits value mask there h ones = record {
  on = (λ b below one. elim (cases_lt b low) [
    | inl under ↦ let o = bit_of_true (mask / 2 ^ low * 2 ^ low) b one in let z = bit_at-without_low_below mask low b under in let n = bit_at-zero b in absurd (omega (arith, o, z, n))
    | inr from ↦ sym (bit_at-without_low mask low b from) ∙ bit_of_true (mask / 2 ^ low * 2 ^ low) b one ∙ sym (ones b below)
  ]);
  off = (λ b below none. elim (cases_lt b low) [
    | inl under ↦ sym (bit_at-mod value low b under) ∙ ap (λ n. bit_at n b) h.same ∙ bit_at-mod mask low b under
    | inr from ↦
        let z = sym (bit_at-without_low mask low b from) ∙ bit_of_false (mask / 2 ^ low * 2 ^ low) b none in
        let u = h.under b from below in
        omega (arith, z, u)
  ]);
}

-- the field of the bytes from an offset on is all that is writable in them, and none of their bits is cleared by a one
pub record Covers (bridge : Bool) (probe : List ℕ) (offset width : ℕ) (has : ℕ → Bool) : Type 0 where
  pub writable : (j : ℕ) → j < width → (i : ℕ) → i < 8 → in_fields (writable_by bridge probe) (offset + j) i ≡ has (8 * j + i)
  pub clearing : (j : ℕ) → j < width → (i : ℕ) → i < 8 → in_fields (clearing_by bridge) (offset + j) i ≡ false

-- such a field in a register that was written reads back as the probe has it
pub field_reads_back : (f : Function) (bridge : Bool) → (layout f.image == 1) ≡ bridge → IsImage f.image → IsImage f.probe → (register length_of value offset width : ℕ) (has : ℕ → Bool)
    → register ≤ offset → offset + width ≤ register + length_of → register + length_of ≤ 256 → Covers bridge f.probe offset width has
    → Settles (8 * width) (number_at f.image offset width) (number_at f.probe offset width) has (λ b. bit_at value (8 * (offset - register) + b))
    → (j : ℕ) → j < width → byte_at (written (target_of f) register length_of value) (offset + j) ≡ byte_at f.probe (offset + j)
field_reads_back f bridge kind is back register length_of value offset width has from to fits covers settles j inside =
    let t = target_of f in
    let place = offset + j in
    let near : place < 256 = omega arith in
    byte_at-written_inside t register length_of value place near (omega arith) (omega arith)
    ∙ same_from_bits_below 8 (taken_byte t register value place) (byte_at f.probe place) (number_of_bits-lt 8 _) (back.bytes place) (λ i small.
    let writable : has_bit (byte_at t.writable place) i ≡ has (8 * j + i) =
    has_bit-writable_bits f.image f.probe place i near small ∙ ap (λ b. in_fields (writable_by b f.probe) place i) kind ∙ covers.writable j inside i small in
    let clearing : has_bit (byte_at t.clearing place) i ≡ false =
    has_bit-clearing_bits f.image place i near small ∙ ap (λ b. in_fields (clearing_by b) place i) kind ∙ covers.clearing j inside i small in
    let bit : 8 * j + i < 8 * width = omega arith in
    let probed = bit_at-number_at f.probe offset back width j i inside small in
    let shown = bit_at-number_at f.image offset is width j i inside small in
    elim (cases_Bool (has (8 * j + i))) [
      | inl one ↦
          let at : 8 * (place - register) + i ≡ 8 * (offset - register) + (8 * j + i) = omega arith in
          bit_taken t register value place i small (writable ∙ one)
          ∙ ap (λ k. bit_at value k) at
          ∙ sym (settles.on (8 * j + i) bit one) ∙ probed
      | inr none ↦ bit_kept t register value place i small (writable ∙ none) clearing ∙ sym shown ∙ settles.off (8 * j + i) bit none ∙ probed
    ])

-- ---- bytes of registers, one by one

of_one : (P : ℕ → Type 0) → P 0 → (j : ℕ) → j < 1 → P j
of_one P a zero h = a
of_one P a (suc j) h = absurd (let no : ⊥ = omega (arith, h) in no)

of_two : (P : ℕ → Type 0) → P 0 → P 1 → (j : ℕ) → j < 2 → P j
of_two P a b zero h = a
of_two P a b (suc zero) h = b
of_two P a b (suc (suc j)) h = absurd (let no : ⊥ = omega (arith, h) in no)

of_four : (P : ℕ → Type 0) → P 0 → P 1 → P 2 → P 3 → (j : ℕ) → j < 4 → P j
of_four P a b c d zero h = a
of_four P a b c d (suc zero) h = b
of_four P a b c d (suc (suc zero)) h = c
of_four P a b c d (suc (suc (suc zero))) h = d
of_four P a b c d (suc (suc (suc (suc j)))) h = absurd (let no : ⊥ = omega (arith, h) in no)

of_six : (P : ℕ → Type 0) → P 0 → P 1 → P 2 → P 3 → P 4 → P 5 → (j : ℕ) → j < 6 → P j
of_six P a b c d e f zero h = a
of_six P a b c d e f (suc zero) h = b
of_six P a b c d e f (suc (suc zero)) h = c
of_six P a b c d e f (suc (suc (suc zero))) h = d
of_six P a b c d e f (suc (suc (suc (suc zero)))) h = e
of_six P a b c d e f (suc (suc (suc (suc (suc zero))))) h = f
of_six P a b c d e f (suc (suc (suc (suc (suc (suc j)))))) h = absurd (let no : ⊥ = omega (arith, h) in no)

pub or_none : (b : Bool) → (b || false) ≡ b
or_none true = refl
or_none false = refl

-- one byte of a field: its bits are all that is writable there, and none is cleared by a one
abbrev pub FieldByte : Bool → List ℕ → ℕ → ℕ → ℕ → Type 0
FieldByte bridge probe offset bits j =
    (i : ℕ) → (in_fields (writable_by bridge probe) (offset + j) i ≡ (has_bit bits (8 * j + i) || false)) × (in_fields (clearing_by bridge) (offset + j) i ≡ false)

covers_by : (bridge : Bool) (probe : List ℕ) (offset width bits : ℕ) → ((j : ℕ) → j < width → FieldByte bridge probe offset bits j) → Covers bridge probe offset width (has_bit bits)
covers_by bridge probe offset width bits each = record {
  writable = (λ j inside i small. (each j inside i).0 ∙ or_none _);
  clearing = (λ j inside i small. (each j inside i).1);
}

one_shown : (top shift bits b : ℕ) → shift + bits ≤ top → b < bits → bit_at (2 ^ top - 1) (shift + b) ≡ 1
one_shown top shift bits b fits inside = bit_at_ones top (shift + b) (omega arith)

-- ---- BARs

abbrev pub BarByte : Bool → List ℕ → ℕ → ℕ → Type 0
BarByte bridge probe n j = FieldByte bridge probe (bar_register n) (bar_field probe n).bits j

bar_bytes_of_device : (probe : List ℕ) (n : ℕ) → n < 6 → (j : ℕ) → j < 4 → BarByte false probe n j
bar_bytes_of_device probe = of_six (λ n. (j : ℕ) → j < 4 → BarByte false probe n j)
    (of_four (BarByte false probe 0) (λ i. (refl, refl)) (λ i. (refl, refl)) (λ i. (refl, refl)) (λ i. (refl, refl)))
    (of_four (BarByte false probe 1) (λ i. (refl, refl)) (λ i. (refl, refl)) (λ i. (refl, refl)) (λ i. (refl, refl)))
    (of_four (BarByte false probe 2) (λ i. (refl, refl)) (λ i. (refl, refl)) (λ i. (refl, refl)) (λ i. (refl, refl)))
    (of_four (BarByte false probe 3) (λ i. (refl, refl)) (λ i. (refl, refl)) (λ i. (refl, refl)) (λ i. (refl, refl)))
    (of_four (BarByte false probe 4) (λ i. (refl, refl)) (λ i. (refl, refl)) (λ i. (refl, refl)) (λ i. (refl, refl)))
    (of_four (BarByte false probe 5) (λ i. (refl, refl)) (λ i. (refl, refl)) (λ i. (refl, refl)) (λ i. (refl, refl)))

bar_bytes_of_bridge : (probe : List ℕ) (n : ℕ) → n < 2 → (j : ℕ) → j < 4 → BarByte true probe n j
bar_bytes_of_bridge probe = of_two (λ n. (j : ℕ) → j < 4 → BarByte true probe n j)
    (of_four (BarByte true probe 0) (λ i. (refl, refl)) (λ i. (refl, refl)) (λ i. (refl, refl)) (λ i. (refl, refl)))
    (of_four (BarByte true probe 1) (λ i. (refl, refl)) (λ i. (refl, refl)) (λ i. (refl, refl)) (λ i. (refl, refl)))

pub bar_bytes : (bridge : Bool) (probe : List ℕ) (n : ℕ) → n < (if bridge then 2 else 6) → (j : ℕ) → j < 4 → BarByte bridge probe n j
bar_bytes true probe n h = bar_bytes_of_bridge probe n h
bar_bytes false probe n h = bar_bytes_of_device probe n h

-- what ones leave in a BAR register
abbrev BarSettles : List ℕ → List ℕ → ℕ → ℕ → Type 0
BarSettles image probe n bits = Settles 32 (bar_at image n) (bar_at probe n) (has_bit bits) (λ b. bit_at 0xffff_ffff (8 * (bar_register n - bar_register n) + b))

ones_at_start : (register b : ℕ) → b < 32 → bit_at 0xffff_ffff (8 * (register - register) + b) ≡ 1
ones_at_start register b inside = one_shown 32 (8 * (register - register)) 32 b (omega arith) inside

settled_start : (image probe : List ℕ) (n : ℕ) → starts_bar probe n ≡ true → bar_fault image probe n ≡ None → BarSettles image probe n (bar_field probe n).bits
settled_start image probe n starts none =
    let low = encoding_width (bar_at probe n) in
    let bits : bar_at probe n / 2 ^ low * 2 ^ low ≡ (bar_field probe n).bits =
    ap (λ e. bar_at probe n / e * e) (sym (encodings-power (bar_at probe n))) ∙ ap (λ b. if b then without_low (encodings (bar_at probe n)) (bar_at probe n) else bar_at probe n) (sym starts) in
    subst (BarSettles image probe n) bits (settles_by_ones low 32 (bar_at image n) (bar_at probe n) _ (bar_agrees image probe n starts none) (ones_at_start (bar_register n)))

settled_upper : (image probe : List ℕ) (n : ℕ) → IsImage image → IsImage probe → starts_bar probe (suc n) ≡ false → bar_fault image probe n ≡ None → BarSettles image probe (suc n) (bar_field probe (suc n)).bits
settled_upper image probe n is back upper none =
    let whole : bar_at probe (suc n) / 2 ^ 0 * 2 ^ 0 ≡ bar_at probe (suc n) = omega arith in
    let bits : bar_at probe (suc n) / 2 ^ 0 * 2 ^ 0 ≡ (bar_field probe (suc n)).bits =
    whole ∙ ap (λ b. if b then without_low (encodings (bar_at probe (suc n))) (bar_at probe (suc n)) else bar_at probe (suc n)) (sym upper) in
    subst (BarSettles image probe (suc n)) bits (settles_by_ones 0 32 (bar_at image (suc n)) (bar_at probe (suc n)) _ (upper_half_agrees image probe n is back upper none) (ones_at_start (bar_register (suc n))))

settled_bar : (image probe : List ℕ) (count n : ℕ) → IsImage image → IsImage probe → ((n : ℕ) → n < count → bar_fault image probe n ≡ None) → n < count → BarSettles image probe n (bar_field probe n).bits
settled_bar image probe count zero is back none inside = settled_start image probe 0 refl (none 0 inside)
settled_bar image probe count (suc n) is back none inside = elim (cases_Bool (starts_bar probe (suc n))) [
  | inl starts ↦ settled_start image probe (suc n) starts (none (suc n) inside)
  | inr upper ↦ settled_upper image probe n is back upper (none n (omega arith))
]

-- ---- what is known of a function that is sized

pub record IsSizable (f : Function) (bridge : Bool) : Type 0 where
  pub kind : (layout f.image == 1) ≡ bridge
  pub image : IsImage f.image
  pub probe : IsImage f.probe
  pub bars : (n : ℕ) → n < (if bridge then 2 else 6) → bar_fault f.image f.probe n ≡ None
  pub rom : RomRules (number_at f.image (rom_place bridge) 4) (number_at f.probe (rom_place bridge) 4)

pub sizable : (f : Function) → IsFunction f → IsDecodable f → IsSizable f (layout f.image == 1)
sizable f h d = record { kind = refl; image = h.image; probe = h.probe; bars = d.bars; rom = rom_rules f.image f.probe d.rom }

abbrev pub ones_by : Bool → ℕ → ℕ
ones_by bridge register = if register == rom_place bridge then 0xffff_f800 else if bridge && register == 0x1c then 0xffff else 0xffff_ffff

-- an address register reads back as the probe has it
abbrev pub ReadsBack : Function → ℕ → ℕ → ℕ → Type 0
ReadsBack f register width value = (j : ℕ) → j < width → byte_at (written (target_of f) register width value) (register + j) ≡ byte_at f.probe (register + j)

-- the number of BARs is at most six
pub few_bars : (bridge : Bool) (n : ℕ) → n < (if bridge then 2 else 6) → n < 6
few_bars true n h = omega (arith, h)
few_bars false n h = h

bar_reads_back : (f : Function) (bridge : Bool) → IsSizable f bridge → (n : ℕ) → n < (if bridge then 2 else 6) → ReadsBack f (bar_register n) 4 0xffff_ffff
bar_reads_back f bridge s n inside =
    let few = few_bars bridge n inside in
    field_reads_back f bridge s.kind s.image s.probe (bar_register n) 4 0xffff_ffff (bar_register n) 4 (has_bit (bar_field f.probe n).bits) (omega arith) (omega arith) (omega (arith, few))
    (covers_by bridge f.probe (bar_register n) 4 (bar_field f.probe n).bits (bar_bytes bridge f.probe n inside))
    (settled_bar f.image f.probe (if bridge then 2 else 6) n s.image s.probe s.bars inside)

-- ---- the ROM

-- its bits are those of the read back, and bit 0 where there are any
abbrev pub rom_has : ℕ → ℕ → Bool
rom_has mask b = has_bit mask b || (b == 0 && not (mask == 0))

not_enable : (b : Bool) → (b && false) ≡ false
not_enable true = refl
not_enable false = refl

enable_bit : (none : Bool) (i : ℕ) → has_bit (if none then 0 else 1) i ≡ (i == 0 && not none)
enable_bit true i = ne_eqb (bit_at 0 i) 1 (λ e. let z = bit_at-zero i in omega (arith, e, z)) ∙ sym (not_enable (i == 0))
enable_bit false zero = refl
enable_bit false (suc i) = ne_eqb (bit_at 1 (suc i)) 1 (λ e. let z = bit_at_above 1 1 (suc i) (lit< tt) (omega arith) in omega (arith, e, z)) ∙ sym (ap (λ b. b && true) (ne_eqb (suc i) 0 (λ e. omega (arith, e))))

either_order : (a b : Bool) → (b || (a || false)) ≡ (a || b)
either_order true true = refl
either_order true false = refl
either_order false true = refl
either_order false false = refl

first_rom_byte : (mask i : ℕ) → (has_bit (if mask == 0 then 0 else 1) (8 * 0 + i) || (has_bit mask (8 * 0 + i) || false)) ≡ rom_has mask (8 * 0 + i)
first_rom_byte mask i =
    ap (λ b. b || (has_bit mask (8 * 0 + i) || false)) (enable_bit (mask == 0) (8 * 0 + i)) ∙ either_order (has_bit mask (8 * 0 + i)) (8 * 0 + i == 0 && not (mask == 0))

later_rom_byte : (mask b : ℕ) → 0 < b → (has_bit mask b || false) ≡ rom_has mask b
later_rom_byte mask b some = ap (λ x. has_bit mask b || (x && not (mask == 0))) (sym (ne_eqb b 0 (λ e. omega (arith, e, some))))

abbrev pub RomByte : Bool → List ℕ → ℕ → Type 0
RomByte bridge probe j =
    (i : ℕ) → (in_fields (writable_by bridge probe) (rom_place bridge + j) i ≡ rom_has (number_at probe (rom_place bridge) 4) (8 * j + i)) × (in_fields (clearing_by bridge) (rom_place bridge + j) i ≡ false)

pub rom_bytes : (bridge : Bool) (probe : List ℕ) (j : ℕ) → j < 4 → RomByte bridge probe j
rom_bytes true probe = of_four (RomByte true probe)
    (λ i. (first_rom_byte (number_at probe 0x38 4) i, refl)) (λ i. (later_rom_byte (number_at probe 0x38 4) (8 * 1 + i) (omega arith), refl))
    (λ i. (later_rom_byte (number_at probe 0x38 4) (8 * 2 + i) (omega arith), refl)) (λ i. (later_rom_byte (number_at probe 0x38 4) (8 * 3 + i) (omega arith), refl))
rom_bytes false probe = of_four (RomByte false probe)
    (λ i. (first_rom_byte (number_at probe 0x30 4) i, refl)) (λ i. (later_rom_byte (number_at probe 0x30 4) (8 * 1 + i) (omega arith), refl))
    (λ i. (later_rom_byte (number_at probe 0x30 4) (8 * 2 + i) (omega arith), refl)) (λ i. (later_rom_byte (number_at probe 0x30 4) (8 * 3 + i) (omega arith), refl))

-- what FFFFF800h shows
high_shown : (register b : ℕ) → 11 ≤ b → b < 32 → bit_at 0xffff_f800 (8 * (register - register) + b) ≡ 1
high_shown register b from to = bit_at_mask_inside 11 32 (8 * (register - register) + b) (omega arith) (omega arith)

low_shown : (register b : ℕ) → b < 11 → bit_at 0xffff_f800 (8 * (register - register) + b) ≡ 0
low_shown register b below = bit_at_mask_below 11 32 (8 * (register - register) + b) (omega arith)

abbrev RomSettles : ℕ → ℕ → ℕ → Type 0
RomSettles register value mask = Settles 32 value mask (rom_has mask) (λ b. bit_at 0xffff_f800 (8 * (register - register) + b))

rom_has_none : (mask b : ℕ) → mask ≡ 0 → rom_has mask b ≡ false
rom_has_none mask b none =
    ap (λ m. rom_has m b) none ∙ ap (λ x. x || (b == 0 && false)) (ne_eqb (bit_at 0 b) 1 (λ e. let z = bit_at-zero b in omega (arith, e, z))) ∙ not_enable (b == 0)

settled_rom : (register value mask : ℕ) → RomRules value mask → RomSettles register value mask
settled_rom register value mask (inl absent) = record {
  on = (λ b inside one. absurd (both_ways (rom_has mask b) (rom_has_none mask b absent.0) one));
  off = (λ b inside none. ap (λ n. bit_at n b) (absent.1 ∙ sym absent.0));
}
settled_rom register value mask (inr rom) = record {
  on = (λ b inside one. elim (cases_lt b 11) [
    | inl below ↦ rom.low b below ∙ sym (low_shown register b below)
    | inr from ↦ elim (or_cases (has_bit mask b) (b == 0 && not (mask == 0)) one) [
      | inl set ↦ bit_of_true mask b set ∙ sym (high_shown register b from inside)
      | inr first ↦ absurd (let z = eqb-true b 0 (and_parts (b == 0) (not (mask == 0)) first).0 in omega (arith, z, from))
    ]
  ]);
  off = (λ b inside none.
      let both = or_parts (has_bit mask b) (b == 0 && not (mask == 0)) none in
      let clear = bit_of_false mask b both.0 in
      elim (and_cases (b == 0) (not (mask == 0)) both.1) [
        | inl later ↦ let u = rom.under b (let n = eqb-false b 0 later in omega (arith, n)) inside in omega (arith, u, clear)
        | inr nothing ↦ absurd (rom.some (eqb-true mask 0 (not-false (mask == 0) nothing)))
      ]);
}

pub rom_in_image : (bridge : Bool) → rom_place bridge + 4 ≤ 256
rom_in_image true = omega arith
rom_in_image false = omega arith

rom_reads_back : (f : Function) (bridge : Bool) → IsSizable f bridge → ReadsBack f (rom_place bridge) 4 0xffff_f800
rom_reads_back f bridge s =
    field_reads_back f bridge s.kind s.image s.probe (rom_place bridge) 4 0xffff_f800 (rom_place bridge) 4 (rom_has (number_at f.probe (rom_place bridge) 4)) (omega arith) (omega arith) (rom_in_image bridge)
    record {
      writable = (λ j inside i small. (rom_bytes bridge f.probe j inside i).0);
      clearing = (λ j inside i small. (rom_bytes bridge f.probe j inside i).1);
    }
    (settled_rom (rom_place bridge) (number_at f.image (rom_place bridge) 4) (number_at f.probe (rom_place bridge) 4) s.rom)

-- ---- windows

-- a field of a window, whose read back has the page's or the upper half's bits
abbrev PageSettles : List ℕ → List ℕ → ℕ → ℕ → ℕ → ℕ → ℕ → Type 0
PageSettles image probe register value offset width low =
    Settles (8 * width) (number_at image offset width) (number_at probe offset width) (has_bit (number_at probe offset width / 2 ^ low * 2 ^ low)) (λ b. bit_at value (8 * (offset - register) + b))

settled_page : (image probe : List ℕ) (register top offset width low : ℕ) → 8 * (offset - register) + 8 * width ≤ top → Agrees low (8 * width) (number_at image offset width) (number_at probe offset width)
    → PageSettles image probe register (2 ^ top - 1) offset width low
settled_page image probe register top offset width low fits h =
    settles_by_ones low (8 * width) (number_at image offset width) (number_at probe offset width) _ h (λ b inside. one_shown top (8 * (offset - register)) (8 * width) b fits inside)

-- such a field in a register to which ones were written
page_reads_back : (f : Function) → IsSizable f true → (register length_of top offset width low : ℕ) → register ≤ offset → offset + width ≤ register + length_of → register + length_of ≤ 256 → 8 * (offset - register) + 8 * width ≤ top
    → ((j : ℕ) → j < width → FieldByte true f.probe offset (number_at f.probe offset width / 2 ^ low * 2 ^ low) j)
    → Agrees low (8 * width) (number_at f.image offset width) (number_at f.probe offset width)
    → (j : ℕ) → j < width → byte_at (written (target_of f) register length_of (2 ^ top - 1)) (offset + j) ≡ byte_at f.probe (offset + j)
page_reads_back f s register length_of top offset width low from to near fits bytes h =
    field_reads_back f true s.kind s.image s.probe register length_of (2 ^ top - 1) offset width (has_bit (number_at f.probe offset width / 2 ^ low * 2 ^ low)) from to near
    (covers_by true f.probe offset width (number_at f.probe offset width / 2 ^ low * 2 ^ low) bytes) (settled_page f.image f.probe register top offset width low fits h)

-- a register of two fields
of_both : (P : ℕ → Type 0) (offset first second : ℕ) → ((j : ℕ) → j < first → P (offset + j)) → ((j : ℕ) → j < second → P (offset + first + j)) → (j : ℕ) → j < first + second → P (offset + j)
of_both P offset first second low high j inside = elim (cases_lt j first) [
  | inl below ↦ low j below
  | inr above ↦ let e : offset + first + (j - first) ≡ offset + j = omega arith in subst P e (high (j - first) (omega arith))
]

pub one_byte : (image : List ℕ) (offset : ℕ) → byte_at image offset ≡ number_at image offset 1
one_byte image offset =
    let e : offset ≡ offset + 0 = omega arith in
    ap (byte_at image) e ∙ (let n : byte_at image (offset + 0) ≡ number_at image offset 1 = omega arith in n)

byte_agrees : (image probe : List ℕ) (offset : ℕ) → Agrees 4 8 (byte_at image offset) (byte_at probe offset) → Agrees 4 8 (number_at image offset 1) (number_at probe offset 1)
byte_agrees image probe offset h = subst (λ v. Agrees 4 8 v (number_at probe offset 1)) (one_byte image offset) (subst (λ m. Agrees 4 8 (byte_at image offset) m) (one_byte probe offset) h)

io_window_reads_back : (f : Function) → IsSizable f true → WindowAgrees IoWindow (bounds_at IoWindow f.image) (bounds_at IoWindow f.probe) → ReadsBack f 0x1c 2 0xffff × ReadsBack f 0x30 4 0xffff_ffff
io_window_reads_back f s h = (
  of_both (λ p. byte_at (written (target_of f) 0x1c 2 0xffff) p ≡ byte_at f.probe p) 0x1c 1 1
      (page_reads_back f s 0x1c 2 16 0x1c 1 4 (omega arith) (omega arith) (omega arith) (omega arith)
      (of_one (FieldByte true f.probe 0x1c (number_at f.probe 0x1c 1 / 2 ^ 4 * 2 ^ 4)) (λ i. (refl, refl))) (byte_agrees f.image f.probe 0x1c h.base))
      (page_reads_back f s 0x1c 2 16 0x1d 1 4 (omega arith) (omega arith) (omega arith) (omega arith)
      (of_one (FieldByte true f.probe 0x1d (number_at f.probe 0x1d 1 / 2 ^ 4 * 2 ^ 4)) (λ i. (refl, refl))) (byte_agrees f.image f.probe 0x1d h.limit)),
  of_both (λ p. byte_at (written (target_of f) 0x30 4 0xffff_ffff) p ≡ byte_at f.probe p) 0x30 2 2
      (page_reads_back f s 0x30 4 32 0x30 2 0 (omega arith) (omega arith) (omega arith) (omega arith)
      (of_two (FieldByte true f.probe 0x30 (number_at f.probe 0x30 2 / 2 ^ 0 * 2 ^ 0)) (λ i. (refl, refl)) (λ i. (refl, refl))) h.base_upper)
      (page_reads_back f s 0x30 4 32 0x32 2 0 (omega arith) (omega arith) (omega arith) (omega arith)
      (of_two (FieldByte true f.probe 0x32 (number_at f.probe 0x32 2 / 2 ^ 0 * 2 ^ 0)) (λ i. (refl, refl)) (λ i. (refl, refl))) h.limit_upper),
)

memory_window_reads_back : (f : Function) → IsSizable f true → WindowAgrees MemoryWindow (bounds_at MemoryWindow f.image) (bounds_at MemoryWindow f.probe) → ReadsBack f 0x20 4 0xffff_ffff
memory_window_reads_back f s h =
    of_both (λ p. byte_at (written (target_of f) 0x20 4 0xffff_ffff) p ≡ byte_at f.probe p) 0x20 2 2
    (page_reads_back f s 0x20 4 32 0x20 2 4 (omega arith) (omega arith) (omega arith) (omega arith)
    (of_two (FieldByte true f.probe 0x20 (number_at f.probe 0x20 2 / 2 ^ 4 * 2 ^ 4)) (λ i. (refl, refl)) (λ i. (refl, refl))) h.base)
    (page_reads_back f s 0x20 4 32 0x22 2 4 (omega arith) (omega arith) (omega arith) (omega arith)
    (of_two (FieldByte true f.probe 0x22 (number_at f.probe 0x22 2 / 2 ^ 4 * 2 ^ 4)) (λ i. (refl, refl)) (λ i. (refl, refl))) h.limit)

prefetch_window_reads_back : (f : Function) → IsSizable f true → WindowAgrees PrefetchWindow (bounds_at PrefetchWindow f.image) (bounds_at PrefetchWindow f.probe)
    → ReadsBack f 0x24 4 0xffff_ffff × ReadsBack f 0x28 4 0xffff_ffff × ReadsBack f 0x2c 4 0xffff_ffff
prefetch_window_reads_back f s h = (
  of_both (λ p. byte_at (written (target_of f) 0x24 4 0xffff_ffff) p ≡ byte_at f.probe p) 0x24 2 2
      (page_reads_back f s 0x24 4 32 0x24 2 4 (omega arith) (omega arith) (omega arith) (omega arith)
      (of_two (FieldByte true f.probe 0x24 (number_at f.probe 0x24 2 / 2 ^ 4 * 2 ^ 4)) (λ i. (refl, refl)) (λ i. (refl, refl))) h.base)
      (page_reads_back f s 0x24 4 32 0x26 2 4 (omega arith) (omega arith) (omega arith) (omega arith)
      (of_two (FieldByte true f.probe 0x26 (number_at f.probe 0x26 2 / 2 ^ 4 * 2 ^ 4)) (λ i. (refl, refl)) (λ i. (refl, refl))) h.limit),
  page_reads_back f s 0x28 4 32 0x28 4 0 (omega arith) (omega arith) (omega arith) (omega arith)
      (of_four (FieldByte true f.probe 0x28 (number_at f.probe 0x28 4 / 2 ^ 0 * 2 ^ 0)) (λ i. (refl, refl)) (λ i. (refl, refl)) (λ i. (refl, refl)) (λ i. (refl, refl))) h.base_upper,
  page_reads_back f s 0x2c 4 32 0x2c 4 0 (omega arith) (omega arith) (omega arith) (omega arith)
      (of_four (FieldByte true f.probe 0x2c (number_at f.probe 0x2c 4 / 2 ^ 0 * 2 ^ 0)) (λ i. (refl, refl)) (λ i. (refl, refl)) (λ i. (refl, refl)) (λ i. (refl, refl))) h.limit_upper,
)

-- ---- all registers

-- P holds of each element, one by one
abbrev pub Each : (ℕ × ℕ → Type 0) → List (ℕ × ℕ) → Type 0
Each P [] = Unit {0}
Each P (x ∷ xs) = P x × Each P xs

abbrev pub RegisterReadsBack : Function → Bool → ℕ × ℕ → Type 0
RegisterReadsBack f bridge r = ReadsBack f r.0 r.1 (ones_by bridge r.0)

device_reads_back : (f : Function) → IsSizable f false → Each (RegisterReadsBack f false) (registers_by false)
device_reads_back f s =
    let bar = bar_reads_back f false s in
    (bar 0 (omega arith), (bar 1 (omega arith), (bar 2 (omega arith), (bar 3 (omega arith), (bar 4 (omega arith), (bar 5 (omega arith), (rom_reads_back f false s, tt)))))))

bridge_reads_back : (f : Function) → IsSizable f true → ((kind : WindowKind) → WindowAgrees kind (bounds_at kind f.image) (bounds_at kind f.probe)) → Each (RegisterReadsBack f true) (registers_by true)
bridge_reads_back f s windows =
    let bar = bar_reads_back f true s in
    let io = io_window_reads_back f s (windows IoWindow) in
    let memory = memory_window_reads_back f s (windows MemoryWindow) in
    let prefetch = prefetch_window_reads_back f s (windows PrefetchWindow) in
    (bar 0 (omega arith), (bar 1 (omega arith), (io.0, (memory, (prefetch.0, (prefetch.1, (prefetch.2, (io.1, (rom_reads_back f true s, tt)))))))))

registers_read_back : (f : Function) (bridge : Bool) → IsSizable f bridge → (bridge ≡ true → (kind : WindowKind) → WindowAgrees kind (bounds_at kind f.image) (bounds_at kind f.probe)) → Each (RegisterReadsBack f bridge) (registers_by bridge)
registers_read_back f true s windows = bridge_reads_back f s (windows refl)
registers_read_back f false s windows = device_reads_back f s

-- ---- the register of a place

some_same : (x y : ℕ × ℕ) → Some x ≡ Some y → x ≡ y
some_same x y e = ap (λ (o : Option (ℕ × ℕ)). unwrap_or o x) e

of_found : (P : ℕ × ℕ → Type 0) (test : ℕ × ℕ → Bool) (rs : List (ℕ × ℕ)) (r : ℕ × ℕ) → Each P rs → find test rs ≡ Some r → P r × (test r ≡ true)
of_found P test [] r h e = absurd (none-some r e)
of_found P test (x ∷ rs) r h e = elim (cases_Bool (test x)) [
  | inl yes_here ↦
      let same : x ≡ r = some_same x r (sym (cond-true (test x) (Some x) (find test rs) yes_here) ∙ e) in
      (subst P same h.0, subst (λ (y : ℕ × ℕ). test y ≡ true) same yes_here)
  | inr not_here ↦ of_found P test rs r h.1 (sym (cond-false (test x) (Some x) (find test rs) not_here) ∙ e)
]

none_found : (test : ℕ × ℕ → Bool) (rs : List (ℕ × ℕ)) → find test rs ≡ None → list_any test rs ≡ false
none_found test [] e = refl
none_found test (x ∷ rs) e = elim (cases_Bool (test x)) [
  | inl yes_here ↦ absurd (none-some x (sym e ∙ cond-true (test x) (Some x) (find test rs) yes_here))
  | inr not_here ↦ ap (λ b. b || list_any test rs) not_here ∙ none_found test rs (sym (cond-false (test x) (Some x) (find test rs) not_here) ∙ e)
]

-- a byte outside the address registers
byte_elsewhere : (image probe : List ℕ) (place : ℕ) → place < 256 → is_stray image probe place ≡ false → list_any (is_in_register place) (address_registers (layout image)) ≡ false → byte_at probe place ≡ 0
byte_elsewhere image probe place inside clean none =
    let there : not (list_any (is_in_register place) (address_registers (layout image))) ≡ true = not_from_false _ none in
    elim (and_cases (nat_lt place 256 && not (byte_at probe place == 0)) (not (list_any (is_in_register place) (address_registers (layout image)))) clean) [
      | inr covered ↦ absurd (both_ways _ covered there)
      | inl first ↦ elim (and_cases (nat_lt place 256) (not (byte_at probe place == 0)) first) [
        | inl far ↦ absurd (both_ways _ far (lt-ltb place 256 inside))
        | inr clear ↦ eqb-true (byte_at probe place) 0 (not-false (byte_at probe place == 0) clear)
      ]
    ]

sized_place : (f : Function) (place : ℕ) → place < 256 → is_stray f.image f.probe place ≡ false → Each (RegisterReadsBack f (layout f.image == 1)) (registers_by (layout f.image == 1))
    → (o : Option (ℕ × ℕ)) → register_at (layout f.image) place ≡ o → read_back (target_of f) place o ≡ byte_at f.probe place
sized_place f place inside clean all None e = sym (byte_elsewhere f.image f.probe place inside clean (none_found (is_in_register place) (address_registers (layout f.image)) e))
sized_place f place inside clean all (Some r) e =
    let found = of_found (RegisterReadsBack f (layout f.image == 1)) (is_in_register place) (registers_by (layout f.image == 1)) r all e in
    let both = and_parts (nat_le r.0 place) (nat_lt place (r.0 + r.1)) found.1 in
    let from = leb-true r.0 place both.0 in
    let to = ltb-true place (r.0 + r.1) both.1 in
    let at : r.0 + (place - r.0) ≡ place = omega (arith, from) in
    subst (λ p. byte_at (written (target_of f) r.0 r.1 (ones_by (layout f.image == 1) r.0)) p ≡ byte_at f.probe p) at (found.0 (place - r.0) (omega (arith, from, to)))

length-sized : (f : Function) → length (sized (target_of f)) ≡ 256
unfolding sized
length-sized f = length-map-range_with_len (λ place. read_back (target_of f) place (register_at (layout f.image) place)) 0 256

byte_at-sized : (f : Function) (place : ℕ) → place < 256 → byte_at (sized (target_of f)) place ≡ read_back (target_of f) place (register_at (layout f.image) place)
unfolding sized
byte_at-sized f place inside = get_or-map-range_with_len (λ place. read_back (target_of f) place (register_at (layout f.image) place)) 0 256 place place 0 inside (omega arith)

pub sizing_finds_probe : SizingFindsProbe
sizing_finds_probe f h d clean =
    let bridge = layout f.image == 1 in
    let all = registers_read_back f bridge (sizable f h d) (λ is kind. window_agrees kind f.image f.probe (d.windows kind (eqb-true (layout f.image) 1 is))) in
    let many = length-sized f in
    ext_get_or 0 (sized (target_of f)) f.probe (many ∙ sym h.probe.full) (λ place below.
    let inside : place < 256 = omega (arith, below, many) in
    byte_at-sized f place inside ∙ sized_place f place inside (clean place) all (register_at (layout f.image) place) refl)
