-- CardBus bridges that are taken as devices without address registers.
use Rattle.std.specs.Prelude.{◌⊎◌}
use Rattle.std.proofs.Common.{◌≡◌, ℕ, zero, suc, ◌+◌, ◌*◌, ◌/◌, ◌%◌, ◌==◌, ◌<◌, ◌≤◌, List, [], ◌∷◌, length, set, map, Bool, false, ◌&&◌, ◌||◌, not, Some, None, inl, inr, refl, ◌∙◌, ap, sym, arith, lit<}
use Rattle.std.specs.Bool.{if◌then◌else◌}
use Rattle.std.specs.Int.{bit_at}
use Rattle.std.specs.List.{filter, range_with_len}
use Rattle.std.proofs.lemmas.Bool.{and_left, cases_lt, cond_both, ne_eqb}
use Rattle.std.proofs.Math.Bool.{and-false}
use Rattle.std.proofs.lemmas.List.{get_or-set_same, get_or-set_other, get_or_past, length-set}
use Rattle.pci_spec.specs.Number.{byte_at, number_at, has_bit}
use Rattle.pci_spec.specs.Registers.{STATUS, HEADER_TYPE, BASE_ADDRESS, EXPANSION_ROM}
use Rattle.pci_spec.specs.Header.{bar_count, bar_register, layout, rom_register, status, vendor_id}
use Rattle.pci_spec.specs.Bar.{BarReading, bar_at, bar_fault, bar_reading, first_broken, has_bar, starts_bar}
use Rattle.pci_spec.specs.Rom.{has_rom, rom_at}
use Rattle.pci_spec.specs.Decoded.{bridge_of, decoded_bar, decoded_bars}
use Rattle.judge_spec.specs.Bytes.{as_bare_device, cleared, without_list, without_registers}
use Rattle.judge_spec.specs.WordsLaws.{IsBare, SocketIsBare, SocketShowsNoState}
use Rattle.judge_spec.proofs.Changes.{bare_is_device, length_cleared, no_pointer}

-- ---- bytes that are cleared

set_zero : (image : List ℕ) (i k : ℕ) → k ≡ i → byte_at (set image i 0) k ≡ 0
set_zero image i k same = elim (cases_lt i (length image)) [
  | inl within ↦ ap (λ j. byte_at (set image i 0) j) same ∙ get_or-set_same image i 0 0 within
  | inr past ↦ get_or_past (set image i 0) k 0 (let long = length-set image i 0 in omega (arith, past, same, long))
]

cleared_zero : (offset count : ℕ) (image : List ℕ) (k : ℕ) → offset ≤ k → k < offset + count → byte_at (cleared offset count image) k ≡ 0
cleared_zero offset zero image k from to = absurd (omega (arith, from, to))
cleared_zero offset (suc count) image k from to = elim (cases_lt k (offset + count)) [
  | inl before ↦ get_or-set_other (cleared offset count image) (offset + count) k 0 0 (λ e. omega (arith, before, e)) ∙ cleared_zero offset count image k from before
  | inr last ↦ set_zero (cleared offset count image) (offset + count) k (omega (arith, last, to))
]

cleared_other : (offset count : ℕ) (image : List ℕ) (k : ℕ) → (k < offset) ⊎ (offset + count ≤ k) → byte_at (cleared offset count image) k ≡ byte_at image k
cleared_other offset zero image k apart = refl
cleared_other offset (suc count) image k apart =
    get_or-set_other (cleared offset count image) (offset + count) k 0 0 (λ e. elim apart [ inl low ↦ omega (arith, low, e) | inr high ↦ omega (arith, high, e) ])
    ∙ cleared_other offset count image k (elim apart [ inl low ↦ inl low | inr high ↦ inr (omega (arith, high)) ])

-- a byte of a BAR or of the ROM of a device
abbrev IsOfRegister : ℕ → Type 0
IsOfRegister k = ((16 ≤ k) × (k < 40)) ⊎ ((48 ≤ k) × (k < 52))

registers_zero : (image : List ℕ) (k : ℕ) → IsOfRegister k → byte_at (without_registers image) k ≡ 0
registers_zero image k (inl bar) =
    let to = bar.1 in
    cleared_other EXPANSION_ROM 4 (cleared BASE_ADDRESS 24 image) k (inl (omega (arith, to))) ∙ cleared_zero BASE_ADDRESS 24 image k bar.0 to
registers_zero image k (inr rom) = cleared_zero EXPANSION_ROM 4 (cleared BASE_ADDRESS 24 image) k rom.0 rom.1

-- what the other registers of the device show is what they showed
bare_by : (image : List ℕ) (k : ℕ) → (k ≡ STATUS → ⊥) → (k ≡ HEADER_TYPE → ⊥) → byte_at (as_bare_device image) k ≡ byte_at (without_registers image) k
bare_by image k status header =
    get_or-set_other (set (without_registers image) HEADER_TYPE _) STATUS k _ 0 status ∙ get_or-set_other (without_registers image) HEADER_TYPE k _ 0 header

bare_zero : (image : List ℕ) (k : ℕ) → IsOfRegister k → byte_at (as_bare_device image) k ≡ 0
bare_zero image k of = bare_by image k (λ e. off e of (lit< tt)) (λ e. off e of (lit< tt)) ∙ registers_zero image k of
  where
    off : {n : ℕ} → k ≡ n → IsOfRegister k → n < 16 → ⊥
    off e (inl bar) small = let from = bar.0 in omega (arith, from, e, small)
    off e (inr rom) small = let from = rom.0 in omega (arith, from, e, small)

number_zero : (width offset : ℕ) (image : List ℕ) → ((j : ℕ) → j < width → byte_at image (offset + j) ≡ 0) → number_at image offset width ≡ 0
number_zero zero offset image zeros = refl
number_zero (suc width) offset image zeros = rw (number_zero width offset image (λ j less. zeros j (omega (arith, less))), zeros width (omega arith)) (omega arith)

-- ---- an image or a probe without BARs and ROM

abbrev AreZero : List ℕ → Type 0
AreZero image = (k : ℕ) → IsOfRegister k → byte_at image k ≡ 0

zero_bar : (image : List ℕ) (n : ℕ) → AreZero image → n < 6 → bar_at image n ≡ 0
zero_bar image n zeros small = number_zero 4 (bar_register n) image (λ j less. zeros (bar_register n + j) (inl (omega arith, omega (arith, small, less))))

no_bar : (probe : List ℕ) (n : ℕ) → AreZero probe → n < 6 → has_bar probe n ≡ false
no_bar probe n zeros small = ap (λ m. starts_bar probe n && not (m == 0)) (zero_bar probe n zeros small) ∙ and-false _

left_out : (test : ℕ → Bool) (n : ℕ) (more : List ℕ) → test n ≡ false → filter test (n ∷ more) ≡ filter test more
left_out test n more off = rw off refl

no_bars : (image probe : List ℕ) → layout image ≡ 0 → AreZero probe → decoded_bars image probe ≡ []
no_bars image probe device zeros =
    let test = has_bar probe in
    let no = λ (n : ℕ) (small : n < 6). no_bar probe n zeros small in
    let none : filter test (range_with_len 0 6) ≡ [] = left_out test 0 (1 ∷ 2 ∷ 3 ∷ 4 ∷ 5 ∷ []) (no 0 (lit< tt)) ∙ left_out test 1 (2 ∷ 3 ∷ 4 ∷ 5 ∷ []) (no 1 (lit< tt))
    ∙ left_out test 2 (3 ∷ 4 ∷ 5 ∷ []) (no 2 (lit< tt)) ∙ left_out test 3 (4 ∷ 5 ∷ []) (no 3 (lit< tt)) ∙ left_out test 4 (5 ∷ []) (no 4 (lit< tt)) ∙ left_out test 5 [] (no 5 (lit< tt)) in
    ap (λ kind. map (decoded_bar image probe) (filter test (range_with_len 0 (bar_count kind)))) device ∙ ap (map (decoded_bar image probe)) none

none_broken : (bar : BarReading) → bar.mask ≡ 0 → bar.value ≡ 0 → first_broken bar ≡ None
none_broken bar mask value = rw (mask, value) refl

no_bar_fault : (image probe : List ℕ) (n : ℕ) → AreZero image → AreZero probe → n < 6 → bar_fault image probe n ≡ None
no_bar_fault image probe n shown zeros small =
    let reading = bar_reading (n + 1 == bar_count (layout image)) image probe n in
    cond_both (starts_bar probe n) (first_broken reading) None (λ x. x ≡ None) (λ starts. none_broken reading (zero_bar probe n zeros small) (zero_bar image n shown small)) (λ upper. refl)

zero_rom : (image bytes : List ℕ) → layout image ≡ 0 → AreZero bytes → rom_at image bytes ≡ 0
zero_rom image bytes device zeros =
    ap (λ kind. number_at bytes (rom_register kind) 4) device
    ∙ number_zero 4 EXPANSION_ROM bytes (λ j less. zeros (EXPANSION_ROM + j) (inr (omega arith, omega (arith, less))))

no_rom : (image probe : List ℕ) → layout image ≡ 0 → AreZero image → AreZero probe → has_rom image probe ≡ false
no_rom image probe device shown zeros =
    let value = zero_rom image image device shown in
    let mask = zero_rom image probe device zeros in
    λ i. not (value i == 0 && mask i == 0)

-- ---- the device

pub socket_is_bare : SocketIsBare
socket_is_bare f vendor =
    let image = as_bare_device f.image in
    let probe = without_registers f.probe in
    let device : layout image ≡ 0 = bare_is_device f.image in
    let shown : AreZero image = bare_zero f.image in
    let zeros : AreZero probe = registers_zero f.probe in
    let rom = no_rom image probe device shown zeros in
    let six : bar_count (layout image) ≡ 6 = ap bar_count device in
    let low : byte_at image 0 ≡ byte_at f.image 0 = bare_by f.image 0 (λ e. cc e) (λ e. cc e) ∙ registers_other f.image 0 (lit< tt) in
    let high : byte_at image 1 ≡ byte_at f.image 1 = bare_by f.image 1 (λ e. cc e) (λ e. cc e) ∙ registers_other f.image 1 (lit< tt) in
    let same : vendor_id image ≡ vendor_id f.image = omega (arith, low, high) in
    record {
      decodable = record {
        vendor = ap (λ n. n == 0xffff) same ∙ vendor;
        header = ap (λ n. not (n == 0 || n == 1)) device;
        bars = λ n less. no_bar_fault image probe n shown zeros (omega (arith, less, six));
        rom = and_left _ _ rom;
        windows = λ kind one. absurd (omega (arith, one, device));
      };
      bars = no_bars image probe device zeros;
      rom = rw rom refl;
      bridge = ap (λ n. if n == 1 then Some (bridge_of image probe) else None) device;
    }
  where
    registers_other : (image : List ℕ) (k : ℕ) → k < 16 → byte_at (without_registers image) k ≡ byte_at image k
    registers_other image k low = cleared_other EXPANSION_ROM 4 (cleared BASE_ADDRESS 24 image) k (inl (omega (arith, low))) ∙ cleared_other BASE_ADDRESS 24 image k (inl low)

no_list : (image : List ℕ) → length image ≡ 256 → has_bit (status (without_list image)) 4 ≡ false
no_list image full =
    let low : byte_at (without_list image) STATUS ≡ byte_at image STATUS / 32 * 32 + byte_at image STATUS % 16 = get_or-set_same image STATUS _ 0 (omega (arith, full)) in
    ne_eqb (bit_at (status (without_list image)) 4) 1 (λ one. omega (arith, one, low))

pub socket_shows_no_state : SocketShowsNoState
socket_shows_no_state f is (place, (n, at, some), shows) =
    let device = set (without_registers f.image) HEADER_TYPE (byte_at f.image HEADER_TYPE / 128 * 128) in
    let full : length device ≡ 256 = length-set (without_registers f.image) HEADER_TYPE _ ∙ length_cleared EXPANSION_ROM 4 (cleared BASE_ADDRESS 24 f.image) ∙ length_cleared BASE_ADDRESS 24 f.image ∙ is.full in
    some (sym at ∙ no_pointer (as_bare_device f.image) n (no_list device full))
