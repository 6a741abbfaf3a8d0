-- The bytes of a derived probe, and the registers that they make.
use Rattle.std.specs.Prelude.{◌⊎◌}
use Rattle.std.proofs.Common.{◌≡◌, ℕ, zero, suc, ◌+◌, ◌-◌, ◌*◌, ◌/◌, ◌%◌, ◌^◌, ◌<◌, Bool, true, false, ◌&&◌, not, List, [], ◌∷◌, map, length, get_or, Option, Some, None, inl, inr, refl, arith, sym, ◌∙◌, ap, lit<}
use Rattle.std.specs.Bool.{nat_lt, ◌==◌, if◌then◌else◌}
use Rattle.std.specs.List.{list_any, find}
use Rattle.std.specs.Option.{option_or}
use Rattle.std.proofs.lemmas.Bool.{and_parts, both_ways, cases_Bool, cases_lt, eqb-true, eq-eqb, lt-ltb, ltb-true, and_right, not_from_true, or_parts, cond-true, cond-false}
use Rattle.std.proofs.lemmas.Option.{none-some}
use Rattle.std.proofs.lemmas.List.{get_or_past}
use Rattle.std.proofs.lemmas.List.FromFn.{get_or-map-range_with_len, length-map-range_with_len}
use Rattle.pci_spec.specs.Number.{byte_at, number_at, each_from, IsImage}
use Rattle.pci_spec.specs.Header.{layout, bar_count, bar_register, rom_register, address_registers, is_in_register}
use Rattle.pci_spec.specs.Bar.{bar_at}
use Rattle.pci_spec.specs.Rom.{rom_at}
use Rattle.pci_spec.specs.Machine.{register_at}
use Rattle.pci_spec.specs.Fault.{is_in_address_register, is_stray}
use Rattle.pci_spec.specs.Resource.{ResourceLine}
use Rattle.pci_spec.specs.Derived.{Derived, read_back_of, bar_register_derived, rom_derived, window_register_derived, register_derived, register_offsets, derived_byte, derived_probe}
use Rattle.pci_spec.specs.NoProbe.{Assuming, NoProbe, register_fault, first_at, no_probe}
use Rattle.pci_spec.proofs.Bits.{each_from-at}

-- ---- bytes

byte_of : (image : List ℕ) (lines : List ResourceLine) (place : ℕ) → place < 256 → byte_at (derived_probe image lines) place ≡ derived_byte image lines place (register_at (layout image) place)
unfolding derived_probe
byte_of image lines place below = get_or-map-range_with_len (λ q. derived_byte image lines q (register_at (layout image) q)) 0 256 place place 0 below (let e : 0 + place ≡ place = omega arith in e)

byte_small : (image : List ℕ) (lines : List ResourceLine) (place : ℕ) (o : Option (ℕ × ℕ)) → derived_byte image lines place o < 256
byte_small image lines place None = lit< tt
byte_small image lines place (Some (register, width)) = omega arith

pub derived_image : (image : List ℕ) (lines : List ResourceLine) → IsImage (derived_probe image lines)
unfolding derived_probe
derived_image image lines = record {
  full = length-map-range_with_len (λ q. derived_byte image lines q (register_at (layout image) q)) 0 256;
  bytes = λ place. elim (cases_lt place 256) [
    | inl below ↦ let is = byte_of image lines place below in let small = byte_small image lines place (register_at (layout image) place) in omega (arith, is, small)
    | inr past ↦
        let long = length-map-range_with_len (λ q. derived_byte image lines q (register_at (layout image) q)) 0 256 in
        let none = get_or_past (derived_probe image lines) place 0 (omega (arith, long, past)) in
        omega (arith, none)
  ];
}

-- a byte of a register
pub read_at : (image : List ℕ) (lines : List ResourceLine) (register width j : ℕ) → register + j < 256 → register_at (layout image) (register + j) ≡ Some (register, width)
    → byte_at (derived_probe image lines) (register + j) ≡ read_back_of (register_derived image lines register) / 256 ^ j % 256
read_at image lines register width j below is =
    byte_of image lines (register + j) below ∙ ap (derived_byte image lines (register + j)) is
    ∙ ap (λ i. read_back_of (register_derived image lines register) / 256 ^ i % 256) (let e : register + j - register ≡ j = omega arith in e)

-- ---- no byte stands outside the address registers

find_none : (test : ℕ × ℕ → Bool) (rs : List (ℕ × ℕ)) → list_any test rs ≡ false → find test rs ≡ None
find_none test [] h = refl
find_none test (r ∷ rs) h =
    let parts = or_parts (test r) (list_any test rs) h in
    cond-false (test r) (Some r) (find test rs) parts.0 ∙ find_none test rs parts.1

pub none_stray : (image : List ℕ) (lines : List ResourceLine) (place : ℕ) → is_stray image (derived_probe image lines) place ≡ false
none_stray image lines place = elim (cases_Bool (nat_lt place 256)) [
  | inr past ↦ ap (λ b. b && not (byte_at (derived_probe image lines) place == 0) && not (is_in_address_register (layout image) place)) past
  | inl below ↦ elim (cases_Bool (is_in_address_register (layout image) place)) [
    | inl inside ↦ and_right (nat_lt place 256 && not (byte_at (derived_probe image lines) place == 0)) (not (is_in_address_register (layout image) place)) (not_from_true _ inside)
    | inr outside ↦
        let zero_byte : byte_at (derived_probe image lines) place ≡ 0 =
        byte_of image lines place (ltb-true place 256 below) ∙ ap (derived_byte image lines place) (find_none (is_in_register place) (address_registers (layout image)) outside) in
        ap (λ b. b && not (is_in_address_register (layout image) place))
        (and_right (nat_lt place 256) (not (byte_at (derived_probe image lines) place == 0)) (not_from_true _ (eq-eqb (byte_at (derived_probe image lines) place) 0 zero_byte)))
  ]
]

-- ---- registers of 32 bits

abbrev pub is_found : ℕ → Option (ℕ × ℕ) → Bool
is_found register None = false
is_found register (Some (offset, width)) = offset == register && width == 4

found_is : (register : ℕ) (o : Option (ℕ × ℕ)) → is_found register o ≡ true → o ≡ Some (register, 4)
found_is register None h = absurd (let no : ⊥ = both_ways false refl h in no)
found_is register (Some (offset, width)) h =
    let both = and_parts (offset == register) (width == 4) h in
    let at = eqb-true offset register both.0 in
    let wide = eqb-true width 4 both.1 in
    λ i. Some (at i, wide i)

four_bytes : (n b0 b1 b2 b3 : ℕ) → b0 ≡ n % 256 → b1 ≡ n / 256 % 256 → b2 ≡ n / 65536 % 256 → b3 ≡ n / 16777216 % 256
    → b0 + b1 * 256 + b2 * 65536 + b3 * 16777216 ≡ n % 4294967296
four_bytes n b0 b1 b2 b3 e0 e1 e2 e3 = omega (arith, e0, e1, e2, e3)

-- the table of a header, register by register: each byte is of the register that it is looked for in
abbrev pub has_bytes : ℕ → ℕ → Bool
has_bytes kind register = each_from 0 4 (λ j. nat_lt (register + j) 256 && is_found register (register_at kind (register + j)))

pub register_byte : (image : List ℕ) (lines : List ResourceLine) (register : ℕ) → has_bytes (layout image) register ≡ true → (j : ℕ) → j < 4
    → byte_at (derived_probe image lines) (register + j) ≡ read_back_of (register_derived image lines register) / 256 ^ j % 256
register_byte image lines register all j less =
    let both = and_parts (nat_lt (register + j) 256) (is_found register (register_at (layout image) (register + j)))
    (each_from-at 0 4 (λ j. nat_lt (register + j) 256 && is_found register (register_at (layout image) (register + j))) all j (omega arith) (omega (arith, less))) in
    read_at image lines register 4 j (ltb-true (register + j) 256 both.0) (found_is register (register_at (layout image) (register + j)) both.1)

pub register_number : (image : List ℕ) (lines : List ResourceLine) (register : ℕ) → has_bytes (layout image) register ≡ true
    → number_at (derived_probe image lines) register 4 ≡ read_back_of (register_derived image lines register) % 2 ^ 32
register_number image lines register all =
    let n = read_back_of (register_derived image lines register) in
    let b0 : byte_at (derived_probe image lines) (register + 0) ≡ n % 256 = let e = register_byte image lines register all 0 (lit< tt) in omega (arith, e) in
    let b1 : byte_at (derived_probe image lines) (register + 1) ≡ n / 256 % 256 = register_byte image lines register all 1 (lit< tt) in
    let b2 : byte_at (derived_probe image lines) (register + 2) ≡ n / 65536 % 256 = register_byte image lines register all 2 (lit< tt) in
    let b3 : byte_at (derived_probe image lines) (register + 3) ≡ n / 16777216 % 256 = register_byte image lines register all 3 (lit< tt) in
    let sum = four_bytes n (byte_at (derived_probe image lines) (register + 0)) (byte_at (derived_probe image lines) (register + 1)) (byte_at (derived_probe image lines) (register + 2)) (byte_at (derived_probe image lines) (register + 3)) b0 b1 b2 b3 in
    omega (arith, sum)

two_bytes : (n b0 b1 : ℕ) → b0 ≡ n % 256 → b1 ≡ n / 256 % 256 → b0 + b1 * 256 ≡ n % 65536
two_bytes n b0 b1 e0 e1 = omega (arith, e0, e1)

pub lower_number : (image : List ℕ) (lines : List ResourceLine) (register : ℕ) → has_bytes (layout image) register ≡ true
    → number_at (derived_probe image lines) register 2 ≡ read_back_of (register_derived image lines register) % 2 ^ 16
lower_number image lines register all =
    let n = read_back_of (register_derived image lines register) in
    let b0 : byte_at (derived_probe image lines) (register + 0) ≡ n % 256 = let e = register_byte image lines register all 0 (lit< tt) in omega (arith, e) in
    let b1 : byte_at (derived_probe image lines) (register + 1) ≡ n / 256 % 256 = register_byte image lines register all 1 (lit< tt) in
    let sum = two_bytes n (byte_at (derived_probe image lines) (register + 0)) (byte_at (derived_probe image lines) (register + 1)) b0 b1 in
    omega (arith, sum)

upper_bytes : (n b0 b1 : ℕ) → b0 ≡ n / 65536 % 256 → b1 ≡ n / 16777216 % 256 → b0 + b1 * 256 ≡ n / 65536 % 65536
upper_bytes n b0 b1 e0 e1 = omega (arith, e0, e1)

pub upper_number : (image : List ℕ) (lines : List ResourceLine) (register : ℕ) → has_bytes (layout image) register ≡ true
    → number_at (derived_probe image lines) (register + 2) 2 ≡ read_back_of (register_derived image lines register) / 2 ^ 16 % 2 ^ 16
upper_number image lines register all =
    let n = read_back_of (register_derived image lines register) in
    let b2 : byte_at (derived_probe image lines) (register + 2) ≡ n / 65536 % 256 = register_byte image lines register all 2 (lit< tt) in
    let b3 : byte_at (derived_probe image lines) (register + 3) ≡ n / 16777216 % 256 = register_byte image lines register all 3 (lit< tt) in
    let at2 : byte_at (derived_probe image lines) (register + 2 + 0) ≡ byte_at (derived_probe image lines) (register + 2) = ap (byte_at (derived_probe image lines)) (let e : register + 2 + 0 ≡ register + 2 = omega arith in e) in
    let at3 : byte_at (derived_probe image lines) (register + 2 + 1) ≡ byte_at (derived_probe image lines) (register + 3) = ap (byte_at (derived_probe image lines)) (let e : register + 2 + 1 ≡ register + 3 = omega arith in e) in
    let sum = upper_bytes n (byte_at (derived_probe image lines) (register + 2 + 0)) (byte_at (derived_probe image lines) (register + 2 + 1)) (at2 ∙ b2) (at3 ∙ b3) in
    omega (arith, sum)

-- ---- what the tables of both layouts have

abbrev pub IsLayout : ℕ → Type 0
IsLayout kind = (kind ≡ 0) ⊎ (kind ≡ 1)

-- BAR register n is the n-th of the table, and its bytes are found
abbrev has_bar_row : ℕ → ℕ → Bool
has_bar_row kind n =
    has_bytes kind (bar_register n) && nat_lt n (length (map (λ (r : ℕ × ℕ). r.0) (address_registers kind)))
    && get_or (map (λ (r : ℕ × ℕ). r.0) (address_registers kind)) n 0 == bar_register n

abbrev rom_row : ℕ → ℕ
rom_row kind = if kind == 1 then 8 else 6

abbrev has_rom_row : ℕ → Bool
has_rom_row kind =
    has_bytes kind (rom_register kind) && nat_lt (rom_row kind) (length (map (λ (r : ℕ × ℕ). r.0) (address_registers kind)))
    && get_or (map (λ (r : ℕ × ℕ). r.0) (address_registers kind)) (rom_row kind) 0 == rom_register kind

bar_rows : (kind : ℕ) → IsLayout kind → each_from 0 (bar_count kind) (has_bar_row kind) ≡ true
unfolding each_from
bar_rows kind (inl e) = ap (λ (kind : ℕ). each_from 0 (bar_count kind) (has_bar_row kind)) e
bar_rows kind (inr e) = ap (λ (kind : ℕ). each_from 0 (bar_count kind) (has_bar_row kind)) e

rom_rows : (kind : ℕ) → IsLayout kind → has_rom_row kind ≡ true
unfolding each_from
rom_rows kind (inl e) = ap has_rom_row e
rom_rows kind (inr e) = ap has_rom_row e

-- ---- the faults of registers

option_parts : (x y : Option NoProbe) → option_or x y ≡ None → (x ≡ None) × (y ≡ None)
option_parts None y h = (refl, h)
option_parts (Some x) y h = absurd (none-some x (sym h))

first_none : (fault : ℕ → Option NoProbe) (xs : List ℕ) (k : ℕ) → first_at fault xs ≡ None → k < length xs → fault (get_or xs k 0) ≡ None
unfolding first_at
first_none fault [] k none less = absurd (let no : ⊥ = omega (arith, less) in no)
first_none fault (x ∷ xs) zero none less = (option_parts (fault x) (first_at fault xs) none).0
first_none fault (x ∷ xs) (suc k) none less = first_none fault xs k (option_parts (fault x) (first_at fault xs) none).1 (omega (arith, less))

module _ (image : List ℕ) (lines : List ResourceLine) (kind : IsLayout (layout image)) where
  abbrev new : List ℕ
  new = derived_probe image lines

  bar_row : (n : ℕ) → n < bar_count (layout image) → has_bar_row (layout image) n ≡ true
  bar_row n less = each_from-at 0 (bar_count (layout image)) (has_bar_row (layout image)) (bar_rows (layout image) kind) n (omega arith) (omega (arith, less))

  -- ---- BAR registers

  bar_derived_at : (n : ℕ) → n < bar_count (layout image) → register_derived image lines (bar_register n) ≡ bar_register_derived image lines n
  unfolding register_derived
  bar_derived_at n less =
      let first : nat_lt (bar_register n) (bar_register (bar_count (layout image))) ≡ true = lt-ltb _ _ (omega (arith, less)) in
      let e : (bar_register n - bar_register 0) / 4 ≡ n = omega arith in
      cond-true _ (bar_register_derived image lines ((bar_register n - bar_register 0) / 4))
      (if bar_register n == rom_register (layout image) then rom_derived image lines else window_register_derived image (bar_register n)) first
      ∙ ap (bar_register_derived image lines) e

  pub bar_number : (n : ℕ) → n < bar_count (layout image) → bar_at new n ≡ read_back_of (bar_register_derived image lines n) % 2 ^ 32
  bar_number n less =
      let row = and_parts (has_bytes (layout image) (bar_register n) && nat_lt n (length (register_offsets image))) _ (bar_row n less) in
      let bytes = and_parts (has_bytes (layout image) (bar_register n)) _ row.0 in
      register_number image lines (bar_register n) bytes.0 ∙ ap (λ d. read_back_of d % 2 ^ 32) (bar_derived_at n less)

  pub bar_no_fault : (assuming : Assuming) → no_probe assuming image lines ≡ None → (n : ℕ) → n < bar_count (layout image) → register_fault assuming (bar_register n) (bar_register_derived image lines n) ≡ None
  unfolding no_probe
  bar_no_fault assuming none n less =
      let row = and_parts (has_bytes (layout image) (bar_register n) && nat_lt n (length (register_offsets image))) _ (bar_row n less) in
      let bytes = and_parts (has_bytes (layout image) (bar_register n)) (nat_lt n (length (register_offsets image))) row.0 in
      let at : get_or (register_offsets image) n 0 ≡ bar_register n = eqb-true _ _ row.1 in
      let fault = first_none (λ register. register_fault assuming register (register_derived image lines register)) (register_offsets image) n none (ltb-true n (length (register_offsets image)) bytes.1) in
      sym (ap (register_fault assuming (bar_register n)) (bar_derived_at n less))
      ∙ sym (ap (λ register. register_fault assuming register (register_derived image lines register)) at) ∙ fault

  -- ---- the ROM

  abbrev rom_by : ℕ → Derived
  rom_by kind =
      if nat_lt (rom_register kind) (bar_register (bar_count kind)) then bar_register_derived image lines ((rom_register kind - bar_register 0) / 4)
      else if rom_register kind == rom_register kind then rom_derived image lines
      else window_register_derived image (rom_register kind)

  rom_derived_by : IsLayout (layout image) → rom_by (layout image) ≡ rom_derived image lines
  rom_derived_by (inl e) = ap rom_by e
  rom_derived_by (inr e) = ap rom_by e

  rom_derived_at : register_derived image lines (rom_register (layout image)) ≡ rom_derived image lines
  unfolding register_derived
  rom_derived_at = rom_derived_by kind

  pub rom_number : rom_at image new ≡ read_back_of (rom_derived image lines) % 2 ^ 32
  rom_number =
      let row = and_parts (has_bytes (layout image) (rom_register (layout image)) && nat_lt (rom_row (layout image)) (length (register_offsets image))) _ (rom_rows (layout image) kind) in
      let bytes = and_parts (has_bytes (layout image) (rom_register (layout image))) (nat_lt (rom_row (layout image)) (length (register_offsets image))) row.0 in
      register_number image lines (rom_register (layout image)) bytes.0 ∙ ap (λ d. read_back_of d % 2 ^ 32) rom_derived_at

  pub rom_no_fault : (assuming : Assuming) → no_probe assuming image lines ≡ None → register_fault assuming (rom_register (layout image)) (rom_derived image lines) ≡ None
  unfolding no_probe
  rom_no_fault assuming none =
      let row = and_parts (has_bytes (layout image) (rom_register (layout image)) && nat_lt (rom_row (layout image)) (length (register_offsets image))) _ (rom_rows (layout image) kind) in
      let bytes = and_parts (has_bytes (layout image) (rom_register (layout image))) (nat_lt (rom_row (layout image)) (length (register_offsets image))) row.0 in
      let at : get_or (register_offsets image) (rom_row (layout image)) 0 ≡ rom_register (layout image) = eqb-true _ _ row.1 in
      let fault = first_none (λ register. register_fault assuming register (register_derived image lines register)) (register_offsets image) (rom_row (layout image)) none (ltb-true (rom_row (layout image)) (length (register_offsets image)) bytes.1) in
      sym (ap (register_fault assuming (rom_register (layout image))) rom_derived_at)
      ∙ sym (ap (λ register. register_fault assuming register (register_derived image lines register)) at) ∙ fault

  -- ---- windows

  abbrev window_by : ℕ → ℕ → Derived
  window_by register kind =
      if nat_lt register (bar_register (bar_count kind)) then bar_register_derived image lines ((register - bar_register 0) / 4)
      else if register == rom_register kind then rom_derived image lines
      else window_register_derived image register

  pub window_derived_at : layout image ≡ 1 → (register : ℕ) → nat_lt register (bar_register (bar_count 1)) ≡ false → (register == rom_register 1) ≡ false
      → register_derived image lines register ≡ window_register_derived image register
  unfolding register_derived
  window_derived_at bridge register past other =
      ap (window_by register) bridge
      ∙ ap (λ b. if b then bar_register_derived image lines ((register - bar_register 0) / 4) else if register == rom_register 1 then rom_derived image lines else window_register_derived image register) past
      ∙ ap (λ b. if b then rom_derived image lines else window_register_derived image register) other
