-- The numbers of a window, open or closed, fit its registers.
use Rattle.std.proofs.Common.{◌≡◌, ℕ, zero, suc, ◌+◌, ◌-◌, ◌*◌, ◌/◌, ◌%◌, ◌^◌, ◌<◌, ◌≤◌, ◌⊎◌, inl, inr, List, refl, Bool, true, false, cond, ◌&&◌, ◌||◌, not, arith, sym, ◌∙◌, ap, subst}
use Rattle.std.specs.Bool.{if◌then◌else◌, ◌==◌}
use Rattle.std.specs.Int.{bit_at}
use Rattle.std.proofs.lemmas.Bool.{and_parts, and_from, cases_Bool, both_ways, eqb-true, eq-eqb, ne_eqb}
use Rattle.pci_spec.specs.Number.{number_at, IsImage}
use Rattle.pci_spec.specs.Rom.{rom_at}
use Rattle.pci_spec.specs.Window.{WindowKind, IoWindow, MemoryWindow, PrefetchWindow, Bounds, bounds_at, page_bits, upper_bits, has_window, is_wide_window, breaks_window_rule, bounds_for, closed_bounds}
use Rattle.pci_spec.specs.System.{Function, is_bridge}
use Rattle.pci_spec.specs.Machine.{without_low}
use Rattle.plan_spec.specs.Place.{nibble_of}
use Rattle.pci_spec.proofs.WindowSpace.{narrow_nibble, wide_nibble}
use Rattle.pci_spec.proofs.ReadBacks.{IsLawful, AreZero, window_rules}
use Rattle.plan_spec.proofs.Planning.Registers.{number_below, powers_same}
use Rattle.plan_spec.proofs.Planning.OtherRules.{byte_number}
use Rattle.plan_spec.proofs.Planning.AddressBits.{IsField, field_1c, field_1d, field_20, field_22, field_24, field_26, field_28, field_2c, field_30, field_32}
use Rattle.plan_spec.proofs.Planning.BitsFit.{BitsFit, fits_field, page_same, upper_same}
use Rattle.plan_spec.proofs.Planning.Reach.{IsReached, IsWindowPlace}

-- what the registers have to hold: from a place on, or closed, or as they are where there is no window
abbrev pub bounds_by : Function → WindowKind → Bool → ℕ → ℕ → Bounds
bounds_by b kind some first size =
    if not (has_window kind b.probe) then bounds_at kind b.image
    else if some then bounds_for kind (nibble_of kind b) first (first + (size - 1))
    else closed_bounds kind (nibble_of kind b)

-- ---- where the parts of a window stand, a memory window's upper halves being of no bytes

abbrev pub base_offset : WindowKind → ℕ
base_offset IoWindow = 0x1c
base_offset MemoryWindow = 0x20
base_offset PrefetchWindow = 0x24

abbrev pub page_bytes : WindowKind → ℕ
page_bytes IoWindow = 1
page_bytes MemoryWindow = 2
page_bytes PrefetchWindow = 2

abbrev pub upper_offset : WindowKind → ℕ
upper_offset IoWindow = 0x30
upper_offset MemoryWindow = 0x28
upper_offset PrefetchWindow = 0x28

abbrev pub upper_bytes : WindowKind → ℕ
upper_bytes IoWindow = 2
upper_bytes MemoryWindow = 0
upper_bytes PrefetchWindow = 4

pub record AreShown (kind : WindowKind) (image : List ℕ) (v : Bounds) : Type 0 where
  pub base : v.base ≡ number_at image (base_offset kind) (page_bytes kind)
  pub limit : v.limit ≡ number_at image (base_offset kind + page_bytes kind) (page_bytes kind)
  pub base_upper : v.base_upper ≡ number_at image (upper_offset kind) (upper_bytes kind)
  pub limit_upper : v.limit_upper ≡ number_at image (upper_offset kind + upper_bytes kind) (upper_bytes kind)

pub bounds_shown : (kind : WindowKind) (image : List ℕ) → AreShown kind image (bounds_at kind image)
bounds_shown IoWindow image = record { base = sym (byte_number image 0x1c); limit = sym (byte_number image 0x1d); base_upper = refl; limit_upper = refl }
bounds_shown MemoryWindow image = record { base = refl; limit = refl; base_upper = refl; limit_upper = refl }
bounds_shown PrefetchWindow image = record { base = refl; limit = refl; base_upper = refl; limit_upper = refl }

-- ---- the address bits of each part

abbrev IsPage : List ℕ → ℕ → ℕ → ℕ → Type 0
IsPage probe rom o w = IsField true probe rom o w (without_low 16 (number_at probe o w))

abbrev IsUpper : List ℕ → ℕ → ℕ → ℕ → Type 0
IsUpper probe rom o w = IsField true probe rom o w (without_low 1 (number_at probe o w))

no_field : (probe : List ℕ) (rom o : ℕ) → IsUpper probe rom o 0
no_field probe rom o j i short h = absurd (let impossible : ⊥ = omega (arith, short) in impossible)

base_field : (kind : WindowKind) (probe : List ℕ) (rom : ℕ) → IsPage probe rom (base_offset kind) (page_bytes kind)
base_field IoWindow probe rom = field_1c probe rom
base_field MemoryWindow probe rom = field_20 probe rom
base_field PrefetchWindow probe rom = field_24 probe rom

limit_field : (kind : WindowKind) (probe : List ℕ) (rom : ℕ) → IsPage probe rom (base_offset kind + page_bytes kind) (page_bytes kind)
limit_field IoWindow probe rom = field_1d probe rom
limit_field MemoryWindow probe rom = field_22 probe rom
limit_field PrefetchWindow probe rom = field_26 probe rom

base_upper_field : (kind : WindowKind) (probe : List ℕ) (rom : ℕ) → IsUpper probe rom (upper_offset kind) (upper_bytes kind)
base_upper_field IoWindow probe rom = field_30 probe rom
base_upper_field MemoryWindow probe rom = no_field probe rom 0x28
base_upper_field PrefetchWindow probe rom = field_28 probe rom

limit_upper_field : (kind : WindowKind) (probe : List ℕ) (rom : ℕ) → IsUpper probe rom (upper_offset kind + upper_bytes kind) (upper_bytes kind)
limit_upper_field IoWindow probe rom = field_32 probe rom
limit_upper_field MemoryWindow probe rom = no_field probe rom 0x28
limit_upper_field PrefetchWindow probe rom = field_2c probe rom

-- a lawful read back has all bits above the nibble
page_mask : (kind : WindowKind) (n mask : ℕ) → n ≤ 1 → mask ≡ page_bits kind + n → without_low 16 mask ≡ 2 ^ (8 * page_bytes kind) - 2 ^ 4
page_mask IoWindow n mask few e = omega (arith, few, e)
page_mask MemoryWindow n mask few e = omega (arith, few, e)
page_mask PrefetchWindow n mask few e = omega (arith, few, e)

upper_mask : (kind : WindowKind) (mask : ℕ) → mask ≡ 1 * upper_bits kind → without_low 1 mask ≡ 2 ^ (8 * upper_bytes kind) - 1
upper_mask IoWindow mask e = omega (arith, e)
upper_mask MemoryWindow mask e = omega (arith, e)
upper_mask PrefetchWindow mask e = omega (arith, e)

-- ---- numbers that are in keeping with low nibbles n

pub record AreKept (kind : WindowKind) (n : ℕ) (v : Bounds) : Type 0 where
  pub base_nibble : v.base % 16 ≡ n
  pub limit_nibble : v.limit % 16 ≡ n
  pub base_small : v.base < 2 ^ (8 * page_bytes kind)
  pub limit_small : v.limit < 2 ^ (8 * page_bytes kind)
  pub base_upper_small : v.base_upper ≤ n * upper_bits kind
  pub limit_upper_small : v.limit_upper ≤ n * upper_bits kind

prefetch_upper : (n a : ℕ) → a < 2 ^ 64 → (n ≡ 0 → a < 2 ^ 32) → a / 2 ^ 32 ≤ n * upper_bits PrefetchWindow
prefetch_upper zero a top low = let l = low refl in omega (arith, l)
prefetch_upper (suc n) a top low = omega (arith, top)

pub open_kept : (kind : WindowKind) (n first last : ℕ) → n ≤ 1 → first ≤ last → IsReached kind n (last + 1) → AreKept kind n (bounds_for kind n first last)
open_kept IoWindow n first last few order reached = record {
  base_nibble = omega (arith, few);
  limit_nibble = omega (arith, few);
  base_small = omega (arith, few);
  limit_small = omega (arith, few);
  base_upper_small = omega (arith, order, reached);
  limit_upper_small = omega (arith, reached);
}
open_kept MemoryWindow n first last few order reached = record {
  base_nibble = omega (arith, few);
  limit_nibble = omega (arith, few);
  base_small = omega (arith, few, order, reached);
  limit_small = omega (arith, few, reached);
  base_upper_small = omega arith;
  limit_upper_small = omega arith;
}
open_kept PrefetchWindow n first last few order (top, low) = record {
  base_nibble = omega (arith, few);
  limit_nibble = omega (arith, few);
  base_small = omega (arith, few);
  limit_small = omega (arith, few);
  base_upper_small = prefetch_upper n first (omega (arith, order, top)) (λ none. let l = low none in omega (arith, order, l));
  limit_upper_small = prefetch_upper n last (omega (arith, top)) (λ none. let l = low none in omega (arith, l));
}

-- page bits are all of a window's bytes but the low nibble
page_bits_are : (kind : WindowKind) → (page_bits kind % 16 ≡ 0) × (page_bits kind + 16 ≡ 2 ^ (8 * page_bytes kind))
page_bits_are IoWindow = (refl, refl)
page_bits_are MemoryWindow = (refl, refl)
page_bits_are PrefetchWindow = (refl, refl)

closed_kept : (kind : WindowKind) (n : ℕ) → n ≤ 1 → AreKept kind n (closed_bounds kind n)
closed_kept kind n few =
    let (high, all) = page_bits_are kind in
    record {
      base_nibble = omega (arith, few, high);
      limit_nibble = omega (arith, few);
      base_small = omega (arith, few, all);
      limit_small = omega (arith, few, all);
      base_upper_small = omega arith;
      limit_upper_small = omega arith;
    }

-- ---- they fit

-- each part of a window fits its bytes
pub record PartsFit (f : Function) (kind : WindowKind) (v : Bounds) : Type 0 where
  pub base : BitsFit f (base_offset kind) (page_bytes kind) v.base
  pub limit : BitsFit f (base_offset kind + page_bytes kind) (page_bytes kind) v.limit
  pub base_upper : BitsFit f (upper_offset kind) (upper_bytes kind) v.base_upper
  pub limit_upper : BitsFit f (upper_offset kind + upper_bytes kind) (upper_bytes kind) v.limit_upper
  pub base_small : v.base < 2 ^ (8 * page_bytes kind)
  pub limit_small : v.limit < 2 ^ (8 * page_bytes kind)
  pub base_upper_small : v.base_upper < 2 ^ (8 * upper_bytes kind)
  pub limit_upper_small : v.limit_upper < 2 ^ (8 * upper_bytes kind)

upper_below : (kind : WindowKind) (n a : ℕ) → n ≤ 1 → a ≤ n * upper_bits kind → a < 2 ^ (8 * upper_bytes kind)
upper_below IoWindow n a few h = omega (arith, few, h)
upper_below MemoryWindow n a few h = omega (arith, h)
upper_below PrefetchWindow n a few h = omega (arith, few, h)

number_small : (image : List ℕ) → IsImage image → (o w : ℕ) → number_at image o w < 2 ^ (8 * w)
number_small image is o w = subst (λ n. number_at image o w < n) (powers_same w) (number_below image o is w)

bits_kept : (f : Function) (o w v : ℕ) → v ≡ number_at f.image o w → BitsFit f o w v
bits_kept f o w v e j i short small plain = ap (λ n. bit_at n (8 * j + i)) e

-- numbers that stay as they are
pub shown_fit : (f : Function) (kind : WindowKind) (v : Bounds) → IsImage f.image → AreShown kind f.image v → PartsFit f kind v
shown_fit f kind v is shown =
    let b = shown.base in
    let l = shown.limit in
    let bu = shown.base_upper in
    let lu = shown.limit_upper in
    let p = page_bytes kind in
    let u = upper_bytes kind in
    let base_below = number_small f.image is (base_offset kind) p in
    let limit_below = number_small f.image is (base_offset kind + p) p in
    let base_upper_below = number_small f.image is (upper_offset kind) u in
    let limit_upper_below = number_small f.image is (upper_offset kind + u) u in
    record {
      base = bits_kept f (base_offset kind) p v.base b;
      limit = bits_kept f (base_offset kind + p) p v.limit l;
      base_upper = bits_kept f (upper_offset kind) u v.base_upper bu;
      limit_upper = bits_kept f (upper_offset kind + u) u v.limit_upper lu;
      base_small = omega (arith, b, base_below);
      limit_small = omega (arith, l, limit_below);
      base_upper_small = omega (arith, bu, base_upper_below);
      limit_upper_small = omega (arith, lu, limit_upper_below);
    }

absent_window : (kind : WindowKind) (probe : List ℕ) → AreZero (bounds_at kind probe) → has_window kind probe ≡ false
absent_window kind probe zero_bounds =
    let b = bounds_at kind probe in
    ap not (and_from (b.base == 0 && b.limit == 0 && b.base_upper == 0) (b.limit_upper == 0)
    (and_from (b.base == 0 && b.limit == 0) (b.base_upper == 0)
    (and_from (b.base == 0) (b.limit == 0) (eq-eqb b.base 0 zero_bounds.base) (eq-eqb b.limit 0 zero_bounds.limit)) (eq-eqb b.base_upper 0 zero_bounds.base_upper))
    (eq-eqb b.limit_upper 0 zero_bounds.limit_upper))

module _ (f : Function) (bridge : is_bridge f ≡ true) where
  on_bridge : (o w bits : ℕ) → IsField true f.probe (rom_at f.image f.probe) o w bits → IsField (is_bridge f) f.probe (rom_at f.image f.probe) o w bits
  on_bridge o w bits field = subst (λ b. IsField b f.probe (rom_at f.image f.probe) o w bits) (sym bridge) field

  page_fits : (o w v : ℕ) → IsPage f.probe (rom_at f.image f.probe) o w → without_low 16 (number_at f.probe o w) ≡ 2 ^ (8 * w) - 2 ^ 4 → v % 16 ≡ number_at f.image o w % 16 → BitsFit f o w v
  page_fits o w v field mask nibble =
      let bits = without_low 16 (number_at f.probe o w) in
      fits_field f o w bits v (on_bridge o w bits field) (page_same bits v (number_at f.image o w) (8 * w) mask nibble)

  upper_fits : (o w v : ℕ) → IsUpper f.probe (rom_at f.image f.probe) o w → (without_low 1 (number_at f.probe o w) ≡ 2 ^ (8 * w) - 1) ⊎ (v ≡ number_at f.image o w) → BitsFit f o w v
  upper_fits o w v field way =
      let bits = without_low 1 (number_at f.probe o w) in
      fits_field f o w bits v (on_bridge o w bits field) (upper_same bits v (number_at f.image o w) (8 * w) way)

  -- an upper half is all address where there is one, and stays 0 where there is none
  upper_way : (kind : WindowKind) (n new old mask shown seen : ℕ) → n ≤ 1 → mask ≡ n * upper_bits kind → new ≤ n * upper_bits kind → (n ≡ 0 → old ≡ 0) → old ≡ shown → mask ≡ seen
      → (without_low 1 seen ≡ 2 ^ (8 * upper_bytes kind) - 1) ⊎ (new ≡ shown)
  upper_way kind zero new old mask shown seen few m small none is sees = inr (let z = none refl in omega (arith, z, small, is))
  upper_way kind (suc zero) new old mask shown seen few m small none is sees = inl (upper_mask kind seen (sym sees ∙ m))
  upper_way kind (suc (suc n)) new old mask shown seen few m small none is sees = absurd (let impossible : ⊥ = omega (arith, few) in impossible)

  no_uppers : (n : ℕ) (v : Bounds) → (n == 1 || (v.base_upper == 0 && v.limit_upper == 0)) ≡ true → n ≡ 0 → (v.base_upper ≡ 0) × (v.limit_upper ≡ 0)
  no_uppers n v h none =
      let rest : (v.base_upper == 0 && v.limit_upper == 0) ≡ true = ap (λ m. m == 1 || (v.base_upper == 0 && v.limit_upper == 0)) (sym none) ∙ h in
      let parts = and_parts (v.base_upper == 0) (v.limit_upper == 0) rest in
      (eqb-true v.base_upper 0 parts.0, eqb-true v.limit_upper 0 parts.1)

  pub kept_fit : (kind : WindowKind) (n : ℕ) (v : Bounds) → n ≤ 1 → IsLawful kind n (bounds_at kind f.image) (bounds_at kind f.probe) → AreKept kind n v → PartsFit f kind v
  kept_fit kind n v few lawful kept =
      let image = bounds_shown kind f.image in
      let probe = bounds_shown kind f.probe in
      let rom = rom_at f.image f.probe in
      let p = page_bytes kind in
      let u = upper_bytes kind in
      let old = bounds_at kind f.image in
      let mask = bounds_at kind f.probe in
      let uppers = no_uppers n old lawful.uppers in
      record {
        base = page_fits (base_offset kind) p v.base (base_field kind f.probe rom) (page_mask kind n (number_at f.probe (base_offset kind) p) few (sym probe.base ∙ lawful.base))
            (kept.base_nibble ∙ sym lawful.base_nibble ∙ ap (λ a. a % 16) image.base);
        limit = page_fits (base_offset kind + p) p v.limit (limit_field kind f.probe rom) (page_mask kind n (number_at f.probe (base_offset kind + p) p) few (sym probe.limit ∙ lawful.limit))
            (kept.limit_nibble ∙ sym lawful.limit_nibble ∙ ap (λ a. a % 16) image.limit);
        base_upper = upper_fits (upper_offset kind) u v.base_upper (base_upper_field kind f.probe rom)
            (upper_way kind n v.base_upper old.base_upper mask.base_upper (number_at f.image (upper_offset kind) u) (number_at f.probe (upper_offset kind) u)
            few lawful.base_upper kept.base_upper_small (λ none. (uppers none).0) image.base_upper probe.base_upper);
        limit_upper = upper_fits (upper_offset kind + u) u v.limit_upper (limit_upper_field kind f.probe rom)
            (upper_way kind n v.limit_upper old.limit_upper mask.limit_upper (number_at f.image (upper_offset kind + u) u) (number_at f.probe (upper_offset kind + u) u)
            few lawful.limit_upper kept.limit_upper_small (λ none. (uppers none).1) image.limit_upper probe.limit_upper);
        base_small = kept.base_small;
        limit_small = kept.limit_small;
        base_upper_small = upper_below kind n v.base_upper few kept.base_upper_small;
        limit_upper_small = upper_below kind n v.limit_upper few kept.limit_upper_small;
      }

  -- ---- the window that is there has the low nibbles of its read back

  pub few_nibbles : (kind : WindowKind) → nibble_of kind f ≤ 1
  few_nibbles kind = elim (cases_Bool (is_wide_window kind f.probe)) [
    | inl wide ↦ (let e : nibble_of kind f ≡ 1 = ap (λ t. cond t 1 0) wide in omega (arith, e))
    | inr narrow ↦ (let e : nibble_of kind f ≡ 0 = ap (λ t. cond t 1 0) narrow in omega (arith, e))
  ]

  pub lawful_nibbles : (kind : WindowKind) → breaks_window_rule kind f.image f.probe ≡ false → has_window kind f.probe ≡ true → IsLawful kind (nibble_of kind f) (bounds_at kind f.image) (bounds_at kind f.probe)
  lawful_nibbles kind rule there = elim (window_rules kind f.image f.probe rule) [
    | inl lawful ↦
        let narrow : is_wide_window kind f.probe ≡ false = ne_eqb ((bounds_at kind f.probe).base % 16) 1
        (λ one. let z = narrow_nibble kind (bounds_at kind f.probe).base lawful.base in let impossible : ⊥ = omega (arith, one, z) in impossible) in
        let e : nibble_of kind f ≡ 0 = ap (λ t. cond t 1 0) narrow in
        subst (λ n. IsLawful kind n (bounds_at kind f.image) (bounds_at kind f.probe)) (sym e) lawful
    | inr other ↦ elim other [
      | inl wide ↦
          let is = eq-eqb ((bounds_at kind f.probe).base % 16) 1 (wide_nibble kind (bounds_at kind f.probe).base wide.1.base) in
          let e : nibble_of kind f ≡ 1 = ap (λ t. cond t 1 0) is in
          subst (λ n. IsLawful kind n (bounds_at kind f.image) (bounds_at kind f.probe)) (sym e) wide.1
      | inr absent ↦ absurd (both_ways (has_window kind f.probe) (absent_window kind f.probe absent.1.mask_zero) there)
    ]
  ]

  -- ---- what the registers have to hold

  pub by_absent : (kind : WindowKind) (some : Bool) (first size : ℕ) → has_window kind f.probe ≡ false → bounds_by f kind some first size ≡ bounds_at kind f.image
  by_absent kind some first size none =
      ap (λ t. cond (not t) (bounds_at kind f.image) (cond some (bounds_for kind (nibble_of kind f) first (first + (size - 1))) (closed_bounds kind (nibble_of kind f)))) none

  pub by_open : (kind : WindowKind) (some : Bool) (first size : ℕ) → has_window kind f.probe ≡ true → some ≡ true → bounds_by f kind some first size ≡ bounds_for kind (nibble_of kind f) first (first + (size - 1))
  by_open kind some first size there is =
      ap (λ t. cond (not t) (bounds_at kind f.image) (cond some (bounds_for kind (nibble_of kind f) first (first + (size - 1))) (closed_bounds kind (nibble_of kind f)))) there
      ∙ ap (λ t. cond t (bounds_for kind (nibble_of kind f) first (first + (size - 1))) (closed_bounds kind (nibble_of kind f))) is

  pub by_closed : (kind : WindowKind) (some : Bool) (first size : ℕ) → has_window kind f.probe ≡ true → some ≡ false → bounds_by f kind some first size ≡ closed_bounds kind (nibble_of kind f)
  by_closed kind some first size there is =
      ap (λ t. cond (not t) (bounds_at kind f.image) (cond some (bounds_for kind (nibble_of kind f) first (first + (size - 1))) (closed_bounds kind (nibble_of kind f)))) there
      ∙ ap (λ t. cond t (bounds_for kind (nibble_of kind f) first (first + (size - 1))) (closed_bounds kind (nibble_of kind f))) is

  pub window_fits : IsImage f.image → (kind : WindowKind) (some : Bool) (first size : ℕ) → breaks_window_rule kind f.image f.probe ≡ false → (some ≡ true → IsWindowPlace kind (nibble_of kind f) first size)
      → PartsFit f kind (bounds_by f kind some first size)
  window_fits is kind some first size rule place = elim (cases_Bool (has_window kind f.probe)) [
    | inr none ↦ subst (PartsFit f kind) (sym (by_absent kind some first size none)) (shown_fit f kind (bounds_at kind f.image) is (bounds_shown kind f.image))
    | inl there ↦
        let n = nibble_of kind f in
        let few = few_nibbles kind in
        let lawful = lawful_nibbles kind rule there in
        elim (cases_Bool some) [
          | inl opened ↦
              let at = place opened in
              let pos = at.some in
              let last : first + (size - 1) + 1 ≡ first + size = omega (arith, pos) in
              subst (PartsFit f kind) (sym (by_open kind some first size there opened))
              (kept_fit kind n (bounds_for kind n first (first + (size - 1))) few lawful
              (open_kept kind n first (first + (size - 1)) few (omega arith) (subst (IsReached kind n) (sym last) at.reached)))
          | inr closed ↦ subst (PartsFit f kind) (sym (by_closed kind some first size there closed)) (kept_fit kind n (closed_bounds kind n) few lawful (closed_kept kind n few))
        ]
  ]
