-- What the rules of decoding say of a register's value and its read back, bit by bit.
use Rattle.std.proofs.Common.{◌≡◌, ◌⊎◌, ℕ, suc, ◌+◌, ◌-◌, ◌*◌, ◌/◌, ◌%◌, ◌^◌, ◌<◌, ◌≤◌, inl, inr, List, refl, Bool, true, false, ◌&&◌, ◌||◌, not, None, arith, sym, ◌∙◌, ap}
use Rattle.std.specs.Prelude.{◌==◌, if◌then◌else◌}
use Rattle.std.specs.Bool.{nat_le}
use Rattle.std.specs.Int.{bit_at}
use Rattle.std.proofs.lemmas.Bool.{and_parts, and_from, and_left, cases_Bool, le-leb, lt-leb, or_cases, both_ways, leb-true, eqb-true, eqb-false, not-false}
use Rattle.std.proofs.lemmas.Nat.Bits.{bit_at-lt, bit_at-zero, bit_at_cat_low, bit_at_cat_high, bit_at_mask_inside, bit_at_ones}
use Rattle.pci_spec.specs.Number.{IsImage, some_from}
use Rattle.pci_spec.specs.Header.{layout, bar_count}
use Rattle.pci_spec.specs.Bar.{bar_at, is_io, is_wide, encodings, starts_bar, whole_bar, is_within, BarReading, bar_reading, first_broken, bar_fault}
use Rattle.pci_spec.specs.Rom.{rom_at, is_rom_size, breaks_rom_rule}
use Rattle.pci_spec.specs.Window.{WindowKind, IoWindow, MemoryWindow, PrefetchWindow, Bounds, bounds_at, page_bits, upper_bits, is_zero, is_window_read_back, is_window_value, is_lawful_window, is_optional, breaks_window_rule}
use Rattle.pci_spec.proofs.Bits.{each_from-at, some_from-gives, bit_at-without_low, bit_of_true, bit_of_false}
use Rattle.pci_spec.proofs.BarLaws.{number_at-small, rom_run, bit_of_run}
use Rattle.pci_spec.proofs.Ranges.{absent_shows_0, obeys_rules}

-- Below bit `low` value and read back agree, and from there on the value has ones only where the read back has.
pub record Agrees (low bits value mask : ℕ) : Type 0 where
  pub same : value % 2 ^ low ≡ mask % 2 ^ low
  pub under : (b : ℕ) → low ≤ b → b < bits → bit_at value b ≤ bit_at mask b

pub agrees_by_same : (low bits value mask : ℕ) → value ≡ mask → Agrees low bits value mask
agrees_by_same low bits value mask e = record { same = ap (λ n. n % 2 ^ low) e; under = (λ b from to. let s = ap (λ n. bit_at n b) e in omega (arith, s)) }

-- a value of zeros agrees with any read back from bit 0 on
agrees_with_zero : (bits value mask : ℕ) → value ≡ 0 → Agrees 0 bits value mask
agrees_with_zero bits value mask none = record {
  same = omega arith;
  under = (λ b from to. let s = ap (λ n. bit_at n b) none in let z = bit_at-zero b in omega (arith, s, z));
}

-- and any value with a read back of ones
agrees_with_ones : (low bits value mask : ℕ) → value % 2 ^ low ≡ mask % 2 ^ low → ((b : ℕ) → low ≤ b → b < bits → bit_at mask b ≡ 1) → Agrees low bits value mask
agrees_with_ones low bits value mask same ones = record { same = same; under = (λ b from to. let v = bit_at-lt value b in let m = ones b from to in omega (arith, v, m)) }

bit_under : (value mask b : ℕ) → b < 64 → is_within 0 value mask ≡ true → bit_at value b ≤ bit_at mask b
bit_under value mask b near h = leb-true _ _ (each_from-at 0 64 (λ i. nat_le (bit_at value i) (bit_at mask i)) h b (omega arith) (omega arith))

-- ---- BARs

-- whole_bar by its test
abbrev pub whole_by : Bool → ℕ → ℕ → ℕ
whole_by wide low high = if wide then low + 2 ^ 32 * high else low

swap_halves : (low high : ℕ) → low + 2 ^ 32 * high ≡ high * 2 ^ 32 + low
swap_halves low high = omega arith

lower_half : (wide : Bool) (low high b : ℕ) → b < 32 → bit_at (whole_by wide low high) b ≡ bit_at low b
lower_half true low high b h = ap (λ n. bit_at n b) (swap_halves low high) ∙ bit_at_cat_low high 32 low b h
lower_half false low high b h = refl

upper_half : (low high b : ℕ) → low < 2 ^ 32 → bit_at (low + 2 ^ 32 * high) (32 + b) ≡ bit_at high b
upper_half low high b h =
    let e : 32 + b - 32 ≡ b = omega arith in
    ap (λ n. bit_at n (32 + b)) (swap_halves low high) ∙ bit_at_cat_high high 32 low (32 + b) h (omega arith) ∙ ap (λ k. bit_at high k) e

-- what stands where no rule is broken: both are 0, or the encodings agree and the value is within the read back
abbrev pub Unbroken : BarReading → Type 0
Unbroken bar =
    ((bar.mask ≡ 0) × (bar.value ≡ 0)) ⊎ ((bar.value % encodings bar.mask ≡ bar.mask % encodings bar.mask) × (is_within 0 bar.whole_value bar.whole_mask ≡ true))

unbroken : (bar : BarReading) → first_broken bar ≡ None → Unbroken bar
unbroken bar none = elim (cases_Bool (bar.mask == 0)) [
  | inl zeros ↦ inl (eqb-true bar.mask 0 zeros, absent_shows_0 bar zeros none)
  | inr ones ↦ let kept = obeys_rules bar (eqb-false bar.mask 0 ones) none in inr (kept.encoding, kept.within)
]

pub bar_rules : (image probe : List ℕ) (n : ℕ) → starts_bar probe n ≡ true → bar_fault image probe n ≡ None → Unbroken (bar_reading (n + 1 == bar_count (layout image)) image probe n)
bar_rules image probe n starts none = unbroken (bar_reading (n + 1 == bar_count (layout image)) image probe n) (rw starts at none)

-- the encoding bits are bits 1:0 or bits 3:0
abbrev pub encoding_width : ℕ → ℕ
encoding_width mask = if is_io mask then 2 else 4

encodings_are_power : (io : Bool) → (if io then 4 else 16) ≡ 2 ^ (if io then 2 else 4)
encodings_are_power true = refl
encodings_are_power false = refl

pub encodings-power : (mask : ℕ) → encodings mask ≡ 2 ^ encoding_width mask
encodings-power mask = encodings_are_power (is_io mask)

-- a register that starts a BAR
pub bar_agrees : (image probe : List ℕ) (n : ℕ) → starts_bar probe n ≡ true → bar_fault image probe n ≡ None → Agrees (encoding_width (bar_at probe n)) 32 (bar_at image n) (bar_at probe n)
bar_agrees image probe n starts none = elim (bar_rules image probe n starts none) [
  | inl zeros ↦ agrees_by_same (encoding_width (bar_at probe n)) 32 (bar_at image n) (bar_at probe n) (zeros.1 ∙ sym zeros.0)
  | inr rest ↦ record {
    same = ap (λ e. bar_at image n % e) (sym (encodings-power (bar_at probe n))) ∙ rest.0 ∙ ap (λ e. bar_at probe n % e) (encodings-power (bar_at probe n));
    under = (λ b from to.
        let less = bit_under (whole_bar probe image n) (whole_bar probe probe n) b (omega arith) rest.1 in
        let v = lower_half (is_wide (bar_at probe n)) (bar_at image n) (bar_at image (n + 1)) b to in
        let m = lower_half (is_wide (bar_at probe n)) (bar_at probe n) (bar_at probe (n + 1)) b to in
        omega (arith, less, v, m));
  }
]

wide_is_some : (mask : ℕ) → mask ≡ 0 → is_wide mask ≡ true → ⊥
wide_is_some mask none wide = both_ways false refl (sym (ap is_wide none) ∙ wide)

-- an upper half
pub upper_half_agrees : (image probe : List ℕ) (n : ℕ) → IsImage image → IsImage probe → starts_bar probe (suc n) ≡ false → bar_fault image probe n ≡ None
    → Agrees 0 32 (bar_at image (suc n)) (bar_at probe (suc n))
upper_half_agrees image probe n is back upper none =
    let both = and_parts (starts_bar probe n) (is_wide (bar_at probe n)) (not-false (starts_bar probe n && is_wide (bar_at probe n)) upper) in
    elim (bar_rules image probe n both.0 none) [
      | inl zeros ↦ absurd (wide_is_some (bar_at probe n) zeros.0 both.1)
      | inr rest ↦ record {
        same = omega arith;
        under = (λ b from to.
            let less = bit_under (whole_bar probe image n) (whole_bar probe probe n) (32 + b) (omega arith) rest.1 in
            let next : n + 1 ≡ suc n = omega arith in
            let v : bit_at (whole_bar probe image n) (32 + b) ≡ bit_at (bar_at image (suc n)) b =
            ap (λ w. bit_at (whole_by w (bar_at image n) (bar_at image (n + 1))) (32 + b)) both.1 ∙ upper_half (bar_at image n) (bar_at image (n + 1)) b (number_at-small image (0x10 + 4 * n) is) ∙ ap (λ k. bit_at (bar_at image k) b) next in
            let m : bit_at (whole_bar probe probe n) (32 + b) ≡ bit_at (bar_at probe (suc n)) b =
            ap (λ w. bit_at (whole_by w (bar_at probe n) (bar_at probe (n + 1))) (32 + b)) both.1 ∙ upper_half (bar_at probe n) (bar_at probe (n + 1)) b (number_at-small probe (0x10 + 4 * n) back) ∙ ap (λ k. bit_at (bar_at probe k) b) next in
            omega (arith, less, v, m));
      }
    ]

-- ---- the ROM

-- there is none and its register shows 0 in both, or the read back has bits from 11 up and the value no others but bit 0
pub record IsRomRegister (value mask : ℕ) : Type 0 where
  pub some : mask ≡ 0 → ⊥
  pub low : (b : ℕ) → b < 11 → bit_at mask b ≡ 0
  pub under : (b : ℕ) → 1 ≤ b → b < 32 → bit_at value b ≤ bit_at mask b

abbrev pub RomRules : ℕ → ℕ → Type 0
RomRules value mask = ((mask ≡ 0) × (value ≡ 0)) ⊎ IsRomRegister value mask

rom_size_some : (mask k : ℕ) → is_rom_size mask k ≡ true → mask ≡ 0 → ⊥
rom_size_some mask k h none =
    let run = rom_run mask k h in
    let most = run.most in
    let at = bit_of_run 0 mask k 31 k run.run (omega arith) (omega (arith, most)) in
    let inside : (nat_le k k && nat_le k 31) ≡ true = and_from (nat_le k k) (nat_le k 31) (le-leb k k (omega arith)) (le-leb k 31 (omega (arith, most))) in
    let one = bit_of_true mask k (at ∙ inside) in
    let clear = ap (λ n. bit_at n k) none in
    let z = bit_at-zero k in
    omega (arith, one, clear, z)

rom_size_low : (mask k b : ℕ) → is_rom_size mask k ≡ true → b < 11 → bit_at mask b ≡ 0
rom_size_low mask k b h below =
    let run = rom_run mask k h in
    let least = run.least in
    let at = bit_of_run 0 mask k 31 b run.run (omega arith) (omega (arith, below)) in
    bit_of_false mask b (at ∙ and_left (nat_le k b) (nat_le b 31) (lt-leb k b (omega (arith, least, below))))

rom_found : (value mask : ℕ) → (some_from 0 64 (is_rom_size mask) && is_within 1 value mask) ≡ true → IsRomRegister value mask
rom_found value mask h =
    let both = and_parts (some_from 0 64 (is_rom_size mask)) (is_within 1 value mask) h in
    let found = some_from-gives 0 64 (is_rom_size mask) both.0 in
    record {
      some = rom_size_some mask found.0 found.3;
      low = (λ b below. rom_size_low mask found.0 b found.3 below);
      under = (λ b from to. leb-true _ _ (each_from-at 1 63 (λ i. nat_le (bit_at value i) (bit_at mask i)) both.1 b from (omega arith)));
    }

rom_by : (value mask : ℕ) (clear none : Bool) → (value == 0) ≡ clear → (mask == 0) ≡ none
    → (not (clear && none) && not (some_from 0 64 (is_rom_size mask) && is_within 1 value mask)) ≡ false → RomRules value mask
rom_by value mask true true v m h = inl (eqb-true mask 0 m, eqb-true value 0 v)
rom_by value mask true false v m h = inr (rom_found value mask (not-false (some_from 0 64 (is_rom_size mask) && is_within 1 value mask) h))
rom_by value mask false none v m h = inr (rom_found value mask (not-false (some_from 0 64 (is_rom_size mask) && is_within 1 value mask) h))

pub rom_rules : (image probe : List ℕ) → breaks_rom_rule image probe ≡ false → RomRules (rom_at image image) (rom_at image probe)
rom_rules image probe h = rom_by (rom_at image image) (rom_at image probe) (rom_at image image == 0) (rom_at image probe == 0) refl refl h

-- ---- windows

-- the base or limit of a window: the low nibbles agree, and above them the read back is of ones
page_agrees : (bits value mask : ℕ) → mask / 2 ^ 4 * 2 ^ 4 ≡ 2 ^ bits - 2 ^ 4 → value % 16 ≡ mask % 16 → Agrees 4 bits value mask
page_agrees bits value mask pages same =
    agrees_with_ones 4 bits value mask same (λ b from to. sym (bit_at-without_low mask 4 b from) ∙ ap (λ n. bit_at n b) pages ∙ bit_at_mask_inside 4 bits b from to)

-- how many bits the base and limit of a window have, and their upper halves
abbrev pub page_width : WindowKind → ℕ
page_width IoWindow = 8
page_width MemoryWindow = 16
page_width PrefetchWindow = 16

abbrev pub upper_width : WindowKind → ℕ
upper_width IoWindow = 16
upper_width MemoryWindow = 0
upper_width PrefetchWindow = 32

pub record WindowAgrees (kind : WindowKind) (value mask : Bounds) : Type 0 where
  pub base : Agrees 4 (page_width kind) value.base mask.base
  pub limit : Agrees 4 (page_width kind) value.limit mask.limit
  pub base_upper : Agrees 0 (upper_width kind) value.base_upper mask.base_upper
  pub limit_upper : Agrees 0 (upper_width kind) value.limit_upper mask.limit_upper

-- what is_lawful_window says
pub record IsLawful (kind : WindowKind) (n : ℕ) (value mask : Bounds) : Type 0 where
  pub base : mask.base ≡ page_bits kind + n
  pub limit : mask.limit ≡ page_bits kind + n
  pub base_upper : mask.base_upper ≡ n * upper_bits kind
  pub limit_upper : mask.limit_upper ≡ n * upper_bits kind
  pub base_nibble : value.base % 16 ≡ n
  pub limit_nibble : value.limit % 16 ≡ n
  pub uppers : (n == 1 || (value.base_upper == 0 && value.limit_upper == 0)) ≡ true

lawful_parts : (kind : WindowKind) (n : ℕ) (value mask : Bounds) → is_lawful_window kind n value mask ≡ true → IsLawful kind n value mask
lawful_parts kind n value mask h =
    let a = mask.base == page_bits kind + n in
    let b = mask.limit == page_bits kind + n in
    let c = mask.base_upper == n * upper_bits kind in
    let both = and_parts (is_window_read_back kind n mask) (is_window_value n value) h in
    let three = and_parts (a && b && c) (mask.limit_upper == n * upper_bits kind) both.0 in
    let two = and_parts (a && b) c three.0 in
    let one = and_parts a b two.0 in
    let values = and_parts (value.base % 16 == n && value.limit % 16 == n) (n == 1 || (value.base_upper == 0 && value.limit_upper == 0)) both.1 in
    let nibbles = and_parts (value.base % 16 == n) (value.limit % 16 == n) values.0 in
    record {
      base = eqb-true _ _ one.0;
      limit = eqb-true _ _ one.1;
      base_upper = eqb-true _ _ two.1;
      limit_upper = eqb-true _ _ three.1;
      base_nibble = eqb-true _ _ nibbles.0;
      limit_nibble = eqb-true _ _ nibbles.1;
      uppers = values.1;
    }

lawful_page : (kind : WindowKind) (n value mask : ℕ) → n ≤ 1 → mask ≡ page_bits kind + n → value % 16 ≡ n → Agrees 4 (page_width kind) value mask
lawful_page IoWindow n value mask few m v = page_agrees 8 value mask (omega (arith, few, m)) (omega (arith, few, m, v))
lawful_page MemoryWindow n value mask few m v = page_agrees 16 value mask (omega (arith, few, m)) (omega (arith, few, m, v))
lawful_page PrefetchWindow n value mask few m v = page_agrees 16 value mask (omega (arith, few, m)) (omega (arith, few, m, v))

ones_upper : (kind : WindowKind) (value mask : ℕ) → mask ≡ 1 * upper_bits kind → Agrees 0 (upper_width kind) value mask
ones_upper IoWindow value mask m = agrees_with_ones 0 16 value mask (omega arith) (λ b from to. ap (λ n. bit_at n b) m ∙ bit_at_ones 16 b to)
ones_upper MemoryWindow value mask m = agrees_with_ones 0 0 value mask (omega arith) (λ b from to. absurd (let no : ⊥ = omega (arith, to) in no))
ones_upper PrefetchWindow value mask m = agrees_with_ones 0 32 value mask (omega arith) (λ b from to. ap (λ n. bit_at n b) m ∙ bit_at_ones 32 b to)

narrow_agrees : (kind : WindowKind) (value mask : Bounds) → IsLawful kind 0 value mask → WindowAgrees kind value mask
narrow_agrees kind value mask h =
    let uppers = and_parts (value.base_upper == 0) (value.limit_upper == 0) h.uppers in
    record {
      base = lawful_page kind 0 value.base mask.base (omega arith) h.base h.base_nibble;
      limit = lawful_page kind 0 value.limit mask.limit (omega arith) h.limit h.limit_nibble;
      base_upper = agrees_with_zero (upper_width kind) value.base_upper mask.base_upper (eqb-true _ 0 uppers.0);
      limit_upper = agrees_with_zero (upper_width kind) value.limit_upper mask.limit_upper (eqb-true _ 0 uppers.1);
    }

wide_agrees : (kind : WindowKind) (value mask : Bounds) → IsLawful kind 1 value mask → WindowAgrees kind value mask
wide_agrees kind value mask h = record {
  base = lawful_page kind 1 value.base mask.base (omega arith) h.base h.base_nibble;
  limit = lawful_page kind 1 value.limit mask.limit (omega arith) h.limit h.limit_nibble;
  base_upper = ones_upper kind value.base_upper mask.base_upper h.base_upper;
  limit_upper = ones_upper kind value.limit_upper mask.limit_upper h.limit_upper;
}

pub record AreZero (b : Bounds) : Type 0 where
  pub base : b.base ≡ 0
  pub limit : b.limit ≡ 0
  pub base_upper : b.base_upper ≡ 0
  pub limit_upper : b.limit_upper ≡ 0

pub are_zero : (b : Bounds) → is_zero b ≡ true → AreZero b
are_zero b h =
    let three = and_parts (b.base == 0 && b.limit == 0 && b.base_upper == 0) (b.limit_upper == 0) h in
    let two = and_parts (b.base == 0 && b.limit == 0) (b.base_upper == 0) three.0 in
    let one = and_parts (b.base == 0) (b.limit == 0) two.0 in
    record { base = eqb-true _ 0 one.0; limit = eqb-true _ 0 one.1; base_upper = eqb-true _ 0 two.1; limit_upper = eqb-true _ 0 three.1 }

absent_agrees : (kind : WindowKind) (value mask : Bounds) → AreZero value → AreZero mask → WindowAgrees kind value mask
absent_agrees kind value mask v m = record {
  base = agrees_by_same 4 (page_width kind) value.base mask.base (v.base ∙ sym m.base);
  limit = agrees_by_same 4 (page_width kind) value.limit mask.limit (v.limit ∙ sym m.limit);
  base_upper = agrees_by_same 0 (upper_width kind) value.base_upper mask.base_upper (v.base_upper ∙ sym m.base_upper);
  limit_upper = agrees_by_same 0 (upper_width kind) value.limit_upper mask.limit_upper (v.limit_upper ∙ sym m.limit_upper);
}

-- the three ways in which a window keeps its rule
pub record IsAbsent (value mask : Bounds) : Type 0 where
  pub value_zero : AreZero value
  pub mask_zero : AreZero mask

pub window_rules : (kind : WindowKind) (image probe : List ℕ) → breaks_window_rule kind image probe ≡ false
    → IsLawful kind 0 (bounds_at kind image) (bounds_at kind probe)
    ⊎ ((is_optional kind ≡ true) × IsLawful kind 1 (bounds_at kind image) (bounds_at kind probe))
    ⊎ ((is_optional kind ≡ true) × IsAbsent (bounds_at kind image) (bounds_at kind probe))
window_rules kind image probe h =
    let value = bounds_at kind image in
    let mask = bounds_at kind probe in
    let narrow = is_lawful_window kind 0 value mask in
    let wide = is_optional kind && is_lawful_window kind 1 value mask in
    let absent = is_optional kind && is_zero value && is_zero mask in
    elim (or_cases (narrow || wide) absent (not-false (narrow || wide || absent) h)) [
      | inl lawful ↦ elim (or_cases narrow wide lawful) [
        | inl n ↦ inl (lawful_parts kind 0 value mask n)
        | inr w ↦ let both = and_parts (is_optional kind) (is_lawful_window kind 1 value mask) w in inr (inl (both.0, lawful_parts kind 1 value mask both.1))
      ]
      | inr a ↦
          let both = and_parts (is_optional kind && is_zero value) (is_zero mask) a in
          let first = and_parts (is_optional kind) (is_zero value) both.0 in
          inr (inr (first.0, record { value_zero = are_zero value first.1; mask_zero = are_zero mask both.1 }))
    ]

pub window_agrees : (kind : WindowKind) (image probe : List ℕ) → breaks_window_rule kind image probe ≡ false → WindowAgrees kind (bounds_at kind image) (bounds_at kind probe)
window_agrees kind image probe h =
    let value = bounds_at kind image in
    let mask = bounds_at kind probe in
    elim (window_rules kind image probe h) [
      | inl narrow ↦ narrow_agrees kind value mask narrow
      | inr other ↦ elim other [
        | inl wide ↦ wide_agrees kind value mask wide.1
        | inr absent ↦ absent_agrees kind value mask absent.1.value_zero absent.1.mask_zero
      ]
    ]
