-- The windows of a bridge whose probe is derived.
use Rattle.std.specs.Prelude.{◌⊎◌}
use Rattle.std.proofs.Common.{◌≡◌, ℕ, ◌+◌, ◌*◌, ◌/◌, ◌%◌, ◌^◌, ◌<◌, Bool, true, false, ◌&&◌, not, List, inl, inr, refl, arith, sym, ◌∙◌, ap, subst, lit<}
use Rattle.std.specs.Bool.{◌==◌, if◌then◌else◌, IsTrue}
use Rattle.std.proofs.lemmas.Bool.{and_from, and_left, or_left, or_right, both_ways, cases_Bool, eq-eqb, ne_eqb, not_from_true, not_from_false}
use Rattle.pci_spec.specs.Number.{byte_at, number_at, each_from, has_bit}
use Rattle.pci_spec.specs.Header.{layout, command}
use Rattle.pci_spec.specs.Window.{WindowKind, IoWindow, MemoryWindow, PrefetchWindow, Bounds, bounds_at, page_bits, upper_bits, is_zero, has_window, is_window_read_back, is_window_value, is_lawful_window, is_optional, breaks_window_rule}
use Rattle.pci_spec.specs.System.{Function}
use Rattle.pci_spec.specs.Machine.{register_at}
use Rattle.pci_spec.specs.Decoded.{IsDecodable}
use Rattle.pci_spec.specs.Resource.{ResourceLine}
use Rattle.pci_spec.specs.Derived.{Known, Assumed, shows_none, window_nibble, window_enable, bounds_of_nibble, window_read_back, read_back_of, window_register_derived, register_derived, derived_probe}
use Rattle.pci_spec.specs.ToldAlike.{enables_window}
use Rattle.pci_spec.specs.TrueLines.{IsTrueOf}
use Rattle.pci_spec.proofs.ReadBacks.{IsLawful, AreZero, window_rules}
use Rattle.pci_spec.proofs.DerivedBytes.{has_bytes, read_at, register_number, lower_number, upper_number, window_derived_at}

-- ---- how much the registers of a window hold

abbrev page_top : WindowKind → ℕ
page_top IoWindow = 256
page_top MemoryWindow = 65536
page_top PrefetchWindow = 65536

abbrev upper_top : WindowKind → ℕ
upper_top IoWindow = 65536
upper_top MemoryWindow = 1
upper_top PrefetchWindow = 4294967296

record IsSmall (kind : WindowKind) (w : Bounds) : Type 0 where
  base : w.base < page_top kind
  limit : w.limit < page_top kind
  base_upper : w.base_upper < upper_top kind
  limit_upper : w.limit_upper < upper_top kind

small_zero : (kind : WindowKind) → IsSmall kind record { base = 0; limit = 0; base_upper = 0; limit_upper = 0 }
small_zero IoWindow = record { base = lit< tt; limit = lit< tt; base_upper = lit< tt; limit_upper = lit< tt }
small_zero MemoryWindow = record { base = lit< tt; limit = lit< tt; base_upper = lit< tt; limit_upper = lit< tt }
small_zero PrefetchWindow = record { base = lit< tt; limit = lit< tt; base_upper = lit< tt; limit_upper = lit< tt }

small_narrow : (kind : WindowKind) → IsSmall kind (bounds_of_nibble kind 0)
small_narrow IoWindow = record { base = lit< tt; limit = lit< tt; base_upper = lit< tt; limit_upper = lit< tt }
small_narrow MemoryWindow = record { base = lit< tt; limit = lit< tt; base_upper = lit< tt; limit_upper = lit< tt }
small_narrow PrefetchWindow = record { base = lit< tt; limit = lit< tt; base_upper = lit< tt; limit_upper = lit< tt }

small_wide : (kind : WindowKind) → IsSmall kind (bounds_of_nibble kind 1)
small_wide IoWindow = record { base = lit< tt; limit = lit< tt; base_upper = lit< tt; limit_upper = lit< tt }
small_wide MemoryWindow = record { base = lit< tt; limit = lit< tt; base_upper = lit< tt; limit_upper = lit< tt }
small_wide PrefetchWindow = record { base = lit< tt; limit = lit< tt; base_upper = lit< tt; limit_upper = lit< tt }

-- ---- what the registers of a derived probe show

by_habit : (habit : Bool) (n : ℕ) → read_back_of (if habit then Assumed n else Known n) ≡ n
by_habit true n = refl
by_habit false n = refl

record HasBounds (b w : Bounds) : Type 0 where
  base : b.base ≡ w.base
  limit : b.limit ≡ w.limit
  base_upper : b.base_upper ≡ w.base_upper
  limit_upper : b.limit_upper ≡ w.limit_upper

module _ (image : List ℕ) (lines : List ResourceLine) (bridge : layout image ≡ 1) where
  abbrev new : List ℕ
  new = derived_probe image lines

  abbrev w : WindowKind → Bounds
  w kind = window_read_back kind image

  has : (register : ℕ) → has_bytes 1 register ≡ true → has_bytes (layout image) register ≡ true
  has register all = ap (λ kind. has_bytes kind register) bridge ∙ all

  io_back : read_back_of (register_derived image lines 0x1c) ≡ (w IoWindow).base + 2 ^ 8 * (w IoWindow).limit
  unfolding window_register_derived
  io_back = ap read_back_of (window_derived_at image lines (inr bridge) bridge 0x1c refl refl) ∙ by_habit (shows_none IoWindow image && has_bit (command image) (window_enable IoWindow)) ((w IoWindow).base + 2 ^ 8 * (w IoWindow).limit)

  io_upper_back : read_back_of (register_derived image lines 0x30) ≡ (w IoWindow).base_upper + 2 ^ 16 * (w IoWindow).limit_upper
  unfolding window_register_derived
  io_upper_back = ap read_back_of (window_derived_at image lines (inr bridge) bridge 0x30 refl refl)

  memory_back : read_back_of (register_derived image lines 0x20) ≡ (w MemoryWindow).base + 2 ^ 16 * (w MemoryWindow).limit
  unfolding window_register_derived
  memory_back = ap read_back_of (window_derived_at image lines (inr bridge) bridge 0x20 refl refl)

  prefetch_back : read_back_of (register_derived image lines 0x24) ≡ (w PrefetchWindow).base + 2 ^ 16 * (w PrefetchWindow).limit
  unfolding window_register_derived
  prefetch_back =
      ap read_back_of (window_derived_at image lines (inr bridge) bridge 0x24 refl refl)
      ∙ by_habit (shows_none PrefetchWindow image && has_bit (command image) (window_enable PrefetchWindow)) ((w PrefetchWindow).base + 2 ^ 16 * (w PrefetchWindow).limit)

  base_upper_back : read_back_of (register_derived image lines 0x28) ≡ (w PrefetchWindow).base_upper
  unfolding window_register_derived
  base_upper_back = ap read_back_of (window_derived_at image lines (inr bridge) bridge 0x28 refl refl)

  limit_upper_back : read_back_of (register_derived image lines 0x2c) ≡ (w PrefetchWindow).limit_upper
  unfolding window_register_derived
  limit_upper_back = ap read_back_of (window_derived_at image lines (inr bridge) bridge 0x2c refl refl)

  all_20 : has_bytes 1 0x20 ≡ true
  unfolding each_from
  all_20 = refl

  all_24 : has_bytes 1 0x24 ≡ true
  unfolding each_from
  all_24 = refl

  all_28 : has_bytes 1 0x28 ≡ true
  unfolding each_from
  all_28 = refl

  all_2c : has_bytes 1 0x2c ≡ true
  unfolding each_from
  all_2c = refl

  all_30 : has_bytes 1 0x30 ≡ true
  unfolding each_from
  all_30 = refl

  shows_bounds : (kind : WindowKind) → IsSmall kind (w kind) → HasBounds (bounds_at kind new) (w kind)
  shows_bounds IoWindow s =
      let n = io_back in
      let m = io_upper_back in
      let s1 = s.base in
      let s2 = s.limit in
      let s3 = s.base_upper in
      let s4 = s.limit_upper in
      let b : byte_at new 0x1c ≡ read_back_of (register_derived image lines 0x1c) / 1 % 256 = read_at image lines 0x1c 2 0 (lit< tt) (ap (λ kind. register_at kind 0x1c) bridge) in
      let l : byte_at new 0x1d ≡ read_back_of (register_derived image lines 0x1c) / 256 % 256 = read_at image lines 0x1c 2 1 (lit< tt) (ap (λ kind. register_at kind 0x1d) bridge) in
      let bu = lower_number image lines 0x30 (has 0x30 all_30) in
      let lu : number_at new 0x32 2 ≡ read_back_of (register_derived image lines 0x30) / 2 ^ 16 % 2 ^ 16 = upper_number image lines 0x30 (has 0x30 all_30) in
      record {
        base = let goal : byte_at new 0x1c ≡ (w IoWindow).base = omega (arith, b, n, s1, s2) in goal;
        limit = let goal : byte_at new 0x1d ≡ (w IoWindow).limit = omega (arith, l, n, s1, s2) in goal;
        base_upper = let goal : number_at new 0x30 2 ≡ (w IoWindow).base_upper = omega (arith, bu, m, s3, s4) in goal;
        limit_upper = let goal : number_at new 0x32 2 ≡ (w IoWindow).limit_upper = omega (arith, lu, m, s3, s4) in goal;
      }
  shows_bounds MemoryWindow s =
      let n = memory_back in
      let s1 = s.base in
      let s2 = s.limit in
      let s3 = s.base_upper in
      let s4 = s.limit_upper in
      let b = lower_number image lines 0x20 (has 0x20 all_20) in
      let l : number_at new 0x22 2 ≡ read_back_of (register_derived image lines 0x20) / 2 ^ 16 % 2 ^ 16 = upper_number image lines 0x20 (has 0x20 all_20) in
      record {
        base = let goal : number_at new 0x20 2 ≡ (w MemoryWindow).base = omega (arith, b, n, s1, s2) in goal;
        limit = let goal : number_at new 0x22 2 ≡ (w MemoryWindow).limit = omega (arith, l, n, s1, s2) in goal;
        base_upper = omega (arith, s3);
        limit_upper = omega (arith, s4);
      }
  shows_bounds PrefetchWindow s =
      let n = prefetch_back in
      let m = base_upper_back in
      let k = limit_upper_back in
      let s1 = s.base in
      let s2 = s.limit in
      let s3 = s.base_upper in
      let s4 = s.limit_upper in
      let b = lower_number image lines 0x24 (has 0x24 all_24) in
      let l : number_at new 0x26 2 ≡ read_back_of (register_derived image lines 0x24) / 2 ^ 16 % 2 ^ 16 = upper_number image lines 0x24 (has 0x24 all_24) in
      let bu = register_number image lines 0x28 (has 0x28 all_28) in
      let lu = register_number image lines 0x2c (has 0x2c all_2c) in
      record {
        base = let goal : number_at new 0x24 2 ≡ (w PrefetchWindow).base = omega (arith, b, n, s1, s2) in goal;
        limit = let goal : number_at new 0x26 2 ≡ (w PrefetchWindow).limit = omega (arith, l, n, s1, s2) in goal;
        base_upper = let goal : number_at new 0x28 4 ≡ (w PrefetchWindow).base_upper = omega (arith, bu, m, s3) in goal;
        limit_upper = let goal : number_at new 0x2c 4 ≡ (w PrefetchWindow).limit_upper = omega (arith, lu, k, s4) in goal;
      }

-- ---- lawful windows

zero_again : (b : Bounds) → AreZero b → is_zero b ≡ true
zero_again b z =
    and_from _ _ (and_from _ _ (and_from (b.base == 0) (b.limit == 0) (eq-eqb b.base 0 z.base) (eq-eqb b.limit 0 z.limit)) (eq-eqb b.base_upper 0 z.base_upper)) (eq-eqb b.limit_upper 0 z.limit_upper)

some_page : (kind : WindowKind) (n base : ℕ) → base ≡ page_bits kind + n → base ≡ 0 → ⊥
some_page IoWindow n base is zeros = omega (arith, is, zeros)
some_page MemoryWindow n base is zeros = omega (arith, is, zeros)
some_page PrefetchWindow n base is zeros = omega (arith, is, zeros)

some_window : (kind : WindowKind) (n : ℕ) (b : Bounds) → b.base ≡ page_bits kind + n → is_zero b ≡ false
some_window kind n b is =
    and_left _ (b.limit_upper == 0) (and_left _ (b.base_upper == 0) (and_left (b.base == 0) (b.limit == 0) (ne_eqb b.base 0 (λ zeros. some_page kind n b.base is zeros))))

-- the read back of a window whose value is lawful with another of the same nibble
record IsNibble (kind : WindowKind) (n : ℕ) (b : Bounds) : Type 0 where
  base : b.base ≡ page_bits kind + n
  limit : b.limit ≡ page_bits kind + n
  base_upper : b.base_upper ≡ n * upper_bits kind
  limit_upper : b.limit_upper ≡ n * upper_bits kind

lawful_again : (kind : WindowKind) (n : ℕ) (value own mask : Bounds) → IsLawful kind n value own → IsNibble kind n mask → is_lawful_window kind n value mask ≡ true
lawful_again kind n value own mask h m =
    and_from (is_window_read_back kind n mask) (is_window_value n value)
    (and_from _ _ (and_from _ _ (and_from (mask.base == page_bits kind + n) (mask.limit == page_bits kind + n) (eq-eqb _ _ m.base) (eq-eqb _ _ m.limit))
    (eq-eqb mask.base_upper (n * upper_bits kind) m.base_upper)) (eq-eqb mask.limit_upper (n * upper_bits kind) m.limit_upper))
    (and_from _ _ (and_from (value.base % 16 == n) (value.limit % 16 == n) (eq-eqb _ _ h.base_nibble) (eq-eqb _ _ h.limit_nibble)) h.uppers)

no_nibble : (optional : Bool) (n : ℕ) → n ≡ 0 → (if optional then n else 0) ≡ 0
no_nibble true n e = e
no_nibble false n e = refl

module _ (f : Function) (lines : List ResourceLine) (good : IsDecodable f) (told : IsTrueOf lines f.image f.probe) (bridge : layout f.image ≡ 1) (kind : WindowKind) where
  abbrev probe : List ℕ
  probe = derived_probe f.image lines

  abbrev value : Bounds
  value = bounds_at kind f.image

  abbrev own : Bounds
  own = bounds_at kind f.probe

  abbrev back : Bounds
  back = window_read_back kind f.image

  record IsAbsentWindow : Type 0 where
    shows : shows_none kind f.image ≡ true
    gone : is_zero (bounds_at kind probe) ≡ true

  record IsLawfulWindow : Type 0 where
    own_there : has_window kind f.probe ≡ true
    new_there : has_window kind probe ≡ true
    fine : breaks_window_rule kind f.image probe ≡ false

  absent_back : shows_none kind f.image ≡ true → back ≡ record { base = 0; limit = 0; base_upper = 0; limit_upper = 0 }
  unfolding window_read_back
  absent_back none = ap (λ b. if b then record { base = 0; limit = 0; base_upper = 0; limit_upper = 0 } else bounds_of_nibble kind (window_nibble kind f.image)) none

  nibble_back : (n : ℕ) → shows_none kind f.image ≡ false → window_nibble kind f.image ≡ n → back ≡ bounds_of_nibble kind n
  unfolding window_read_back
  nibble_back n some e =
      ap (λ b. if b then record { base = 0; limit = 0; base_upper = 0; limit_upper = 0 } else bounds_of_nibble kind (window_nibble kind f.image)) some ∙ ap (bounds_of_nibble kind) e

  absent_case : shows_none kind f.image ≡ true → IsAbsentWindow
  absent_case none =
      let e = absent_back none in
      let b = shows_bounds f.image lines bridge kind (subst (IsSmall kind) (sym e) (small_zero kind)) in
      record {
        shows = none;
        gone = zero_again (bounds_at kind probe) record {
          base = b.base ∙ ap (λ (w : Bounds). w.base) e;
          limit = b.limit ∙ ap (λ (w : Bounds). w.limit) e;
          base_upper = b.base_upper ∙ ap (λ (w : Bounds). w.base_upper) e;
          limit_upper = b.limit_upper ∙ ap (λ (w : Bounds). w.limit_upper) e;
        };
      }

  there : (n : ℕ) (b : Bounds) → b.base ≡ page_bits kind + n → not (is_zero b) ≡ true
  there n b is = not_from_false (is_zero b) (some_window kind n b is)

  narrow_case : shows_none kind f.image ≡ false → IsLawful kind 0 value own → IsLawfulWindow
  narrow_case some h =
      let e = nibble_back 0 some (no_nibble (is_optional kind) (value.base % 16) h.base_nibble) in
      let b = shows_bounds f.image lines bridge kind (subst (IsSmall kind) (sym e) (small_narrow kind)) in
      let new_base = b.base ∙ ap (λ (w : Bounds). w.base) e in
      let none : 0 ≡ 0 * upper_bits kind = omega arith in
      let mask : IsNibble kind 0 (bounds_at kind probe) = record {
        base = new_base;
        limit = b.limit ∙ ap (λ (w : Bounds). w.limit) e;
        base_upper = b.base_upper ∙ ap (λ (w : Bounds). w.base_upper) e ∙ none;
        limit_upper = b.limit_upper ∙ ap (λ (w : Bounds). w.limit_upper) e ∙ none;
      } in
      record {
        own_there = there 0 own h.base;
        new_there = there 0 (bounds_at kind probe) new_base;
        fine = not_from_true _ (or_left _ _ (or_left _ _ (lawful_again kind 0 value own (bounds_at kind probe) h mask)));
      }

  wide_case : shows_none kind f.image ≡ false → is_optional kind ≡ true → IsLawful kind 1 value own → IsLawfulWindow
  wide_case some optional h =
      let nibble = h.base_nibble in
      let e = nibble_back 1 some (λ i. if optional i then nibble i else 0) in
      let b = shows_bounds f.image lines bridge kind (subst (IsSmall kind) (sym e) (small_wide kind)) in
      let new_base = b.base ∙ ap (λ (w : Bounds). w.base) e in
      let one : upper_bits kind ≡ 1 * upper_bits kind = omega arith in
      let mask : IsNibble kind 1 (bounds_at kind probe) = record {
        base = new_base;
        limit = b.limit ∙ ap (λ (w : Bounds). w.limit) e;
        base_upper = b.base_upper ∙ ap (λ (w : Bounds). w.base_upper) e ∙ one;
        limit_upper = b.limit_upper ∙ ap (λ (w : Bounds). w.limit_upper) e ∙ one;
      } in
      record {
        own_there = there 1 own h.base;
        new_there = there 1 (bounds_at kind probe) new_base;
        fine = not_from_true _ (or_left _ _ (or_right _ _ (and_from (is_optional kind) _ optional (lawful_again kind 1 value own (bounds_at kind probe) h mask))));
      }

  choice : IsAbsentWindow ⊎ IsLawfulWindow
  choice = elim (cases_Bool (shows_none kind f.image)) [
    | inl none ↦ inl (absent_case none)
    | inr some ↦ elim (window_rules kind f.image f.probe (good.windows kind bridge)) [
      | inl narrow ↦ inr (narrow_case some narrow)
      | inr other ↦ elim other [
        | inl wide ↦ inr (wide_case some wide.0 wide.1)
        | inr absent ↦ absurd (both_ways (shows_none kind f.image) some (and_from (is_optional kind) (is_zero value) absent.0 (zero_again value absent.1.value_zero)))
      ]
    ]
  ]

  pub derived_window_fine : breaks_window_rule kind f.image probe ≡ false
  derived_window_fine = elim choice [
    | inl b ↦ not_from_true _ (or_right _ _ (and_from (is_optional kind && is_zero value) (is_zero (bounds_at kind probe)) b.shows b.gone))
    | inr b ↦ b.fine
  ]

  pub same_window : IsTrue (enables_window kind f.image) → has_window kind f.probe ≡ has_window kind probe
  same_window on = elim choice [
    | inl b ↦ told.no_windows kind (and_from _ _ on b.shows) ∙ sym (not_from_true (is_zero (bounds_at kind probe)) b.gone)
    | inr b ↦ b.own_there ∙ sym b.new_there
  ]
