-- Moving breaks neither the rule of a ROM nor those of windows.
use Rattle.std.proofs.Common.{◌≡◌, ℕ, zero, suc, ◌+◌, ◌*◌, ◌/◌, ◌%◌, ◌^◌, ◌<◌, ◌≤◌, inl, inr, List, refl, Bool, true, false, ◌&&◌, ◌||◌, not, arith, sym, ◌∙◌, ap, subst}
use Rattle.std.specs.Bool.{nat_le, ◌==◌, if◌then◌else◌}
use Rattle.std.specs.Int.{bit_at}
use Rattle.std.proofs.lemmas.Bool.{and_parts, and_right, cases_lt, cases_Bool, eqb-true}
use Rattle.std.proofs.lemmas.Nat.Bits.{bit_at_above}
use Rattle.pci_spec.specs.Number.{byte_at, number_at, has_bit, some_from, IsImage}
use Rattle.pci_spec.specs.Header.{layout, rom_register}
use Rattle.pci_spec.specs.Bar.{is_within}
use Rattle.pci_spec.specs.Rom.{rom_at, has_rom, is_rom_size, breaks_rom_rule}
use Rattle.pci_spec.specs.Window.{WindowKind, IoWindow, MemoryWindow, PrefetchWindow, Bounds, bounds_at, page_bits, upper_bits, is_zero, is_window_read_back, is_window_value, is_lawful_window, shows_window, is_optional, breaks_window_rule}
use Rattle.pci_spec.specs.System.{Function, is_bridge}
use Rattle.pci_spec.specs.Machine.{without_low}
use Rattle.plan_spec.specs.Plan.{IsMoved}
use Rattle.pci_spec.proofs.Bits.{bit_at-without_low_below}
use Rattle.plan_spec.proofs.Planning.Moved.{layout_same}
use Rattle.plan_spec.proofs.Planning.Registers.{number_below}
use Rattle.plan_spec.proofs.Planning.BarFaults.{each_same, same_test}
use Rattle.plan_spec.proofs.Planning.Rows.{IsRow, row_1c, row_1d, row_20, row_22, row_24, row_26, row_28, row_2c, row_30, row_32, row_rom}
use Rattle.plan_spec.proofs.Planning.Stays.{bit_stays, low_stays, number_stays}

-- ---- the ROM

abbrev rom_breaks : ℕ → ℕ → Bool
rom_breaks v m = not (v == 0 && m == 0) && not (some_from 0 64 (is_rom_size m) && is_within 1 v m)

by_numbers : (image probe : List ℕ) → breaks_rom_rule image probe ≡ rom_breaks (rom_at image image) (rom_at image probe)
by_numbers image probe = refl

same_breaks : (v w m : ℕ) → (m ≡ 0 → v ≡ w) → ((i : ℕ) → has_bit m i ≡ false → bit_at v i ≡ bit_at w i) → rom_breaks v m ≡ rom_breaks w m
same_breaks v w m none dark =
    let there : (v == 0 && m == 0) ≡ (w == 0 && m == 0) = elim (cases_Bool (m == 0)) [
      | inl z ↦ ap (λ n. n == 0 && m == 0) (none (eqb-true m 0 z))
      | inr some ↦ and_right (v == 0) (m == 0) some ∙ sym (and_right (w == 0) (m == 0) some)
    ] in
    ap (λ b. not b && not (some_from 0 64 (is_rom_size m) && is_within 1 v m)) there
    ∙ ap (λ b. not (w == 0 && m == 0) && not (some_from 0 64 (is_rom_size m) && b))
    (each_same 1 63 (λ i. nat_le (bit_at v i) (bit_at m i)) (λ i. nat_le (bit_at w i) (bit_at m i)) (λ i l. same_test v w m i (dark i)))

rom_inside : (k : ℕ) → (0x10 ≤ rom_register k) × (rom_register k + 4 ≤ 256)
rom_inside k = elim (cases_Bool (k == 1)) [
  | inl b ↦ (let e : rom_register k ≡ 0x38 = ap (λ t. if t then 0x38 else 0x30) b in (omega (arith, e), omega (arith, e)))
  | inr d ↦ (let e : rom_register k ≡ 0x30 = ap (λ t. if t then 0x38 else 0x30) d in (omega (arith, e), omega (arith, e)))
]

module _ (f g : Function) (m : IsMoved f g) (is : IsImage f.image) where
  rom_row : IsRow (layout f.image == 1) f.probe (rom_at f.image f.probe) (rom_register (layout f.image)) 4 (rom_at f.image f.probe)
  rom_row = row_rom (layout f.image == 1) f.probe (rom_at f.image f.probe)

  rom_dark : (i : ℕ) → has_bit (rom_at f.image f.probe) i ≡ false → bit_at (rom_at f.image g.image) i ≡ bit_at (rom_at f.image f.image) i
  rom_dark i dark = elim (cases_lt i 32) [
    | inl low ↦ bit_stays f g m is (rom_register (layout f.image)) 4 (rom_at f.image f.probe) (rom_inside (layout f.image)).0 (rom_inside (layout f.image)).1 rom_row i low dark
    | inr high ↦ bit_at_above (rom_at f.image g.image) 32 i (number_below g.image (rom_register (layout f.image)) m.image 4) high
        ∙ sym (bit_at_above (rom_at f.image f.image) 32 i (number_below f.image (rom_register (layout f.image)) is 4) high)
  ]

  pub has_rom_same : has_rom g.image g.probe ≡ has_rom f.image f.probe
  has_rom_same =
      let r = rom_register (layout f.image) in
      let mask = rom_at f.image f.probe in
      ap (λ p. has_rom g.image p) m.probe
      ∙ ap (λ k. not (number_at g.image (rom_register k) 4 == 0 && number_at f.probe (rom_register k) 4 == 0)) (layout_same f g m is)
      ∙ elim (cases_Bool (mask == 0)) [
        | inl z ↦ ap (λ v. not (v == 0 && mask == 0)) (number_stays f g m is r 4 mask (rom_inside (layout f.image)).0 (rom_inside (layout f.image)).1 rom_row (eqb-true mask 0 z))
        | inr some ↦ ap not (and_right (rom_at f.image g.image == 0) (mask == 0) some ∙ sym (and_right (rom_at f.image f.image == 0) (mask == 0) some))
      ]

  pub rom_rule_same : breaks_rom_rule g.image g.probe ≡ breaks_rom_rule f.image f.probe
  rom_rule_same =
      ap (λ p. breaks_rom_rule g.image p) m.probe
      ∙ ap (λ k. rom_breaks (number_at g.image (rom_register k) 4) (number_at f.probe (rom_register k) 4)) (layout_same f g m is)
      ∙ same_breaks (rom_at f.image g.image) (rom_at f.image f.image) (rom_at f.image f.probe)
      (λ none. number_stays f g m is (rom_register (layout f.image)) 4 (rom_at f.image f.probe) (rom_inside (layout f.image)).0 (rom_inside (layout f.image)).1 rom_row none)
      rom_dark

-- ---- windows

-- what moving leaves of a window's registers
pub record IsSameFrame (old new mask : Bounds) : Type 0 where
  pub base_low : new.base % 16 ≡ old.base % 16
  pub limit_low : new.limit % 16 ≡ old.limit % 16
  pub base : mask.base ≡ 0 → new.base ≡ old.base
  pub limit : mask.limit ≡ 0 → new.limit ≡ old.limit
  pub base_upper : mask.base_upper ≡ 0 → new.base_upper ≡ old.base_upper
  pub limit_upper : mask.limit_upper ≡ 0 → new.limit_upper ≡ old.limit_upper

abbrev pub window_breaks : WindowKind → Bounds → Bounds → Bool
window_breaks kind v m = not (shows_window kind v m || (is_optional kind && is_zero v && is_zero m))

-- the uppers matter without upper halves alone
uppers_same : (n : ℕ) (kind : WindowKind) (v w m : Bounds) → n ≤ 1 → IsSameFrame v w m → (m.base_upper == n * upper_bits kind) ≡ true → (m.limit_upper == n * upper_bits kind) ≡ true
    → (n == 1 || (w.base_upper == 0 && w.limit_upper == 0)) ≡ (n == 1 || (v.base_upper == 0 && v.limit_upper == 0))
uppers_same zero kind v w m small h base limit =
    ap (λ n. n == 0 && w.limit_upper == 0) (h.base_upper (let e = eqb-true m.base_upper (0 * upper_bits kind) base in omega (arith, e)))
    ∙ ap (λ n. v.base_upper == 0 && n == 0) (h.limit_upper (let e = eqb-true m.limit_upper (0 * upper_bits kind) limit in omega (arith, e)))
uppers_same (suc zero) kind v w m small h base limit = refl
uppers_same (suc (suc n)) kind v w m small h base limit = absurd (let impossible : ⊥ = omega (arith, small) in impossible)

lawful_same : (n : ℕ) (kind : WindowKind) (v w m : Bounds) → n ≤ 1 → IsSameFrame v w m → is_lawful_window kind n w m ≡ is_lawful_window kind n v m
lawful_same n kind v w m small h = elim (cases_Bool (is_window_read_back kind n m)) [
  | inr other ↦ ap (λ b. b && is_window_value n w) other ∙ sym (ap (λ b. b && is_window_value n v) other)
  | inl is ↦
      let base = m.base_upper == n * upper_bits kind in
      let limit = m.limit_upper == n * upper_bits kind in
      let three = and_parts (m.base == page_bits kind + n && m.limit == page_bits kind + n && base) limit is in
      let two = and_parts (m.base == page_bits kind + n && m.limit == page_bits kind + n) base three.0 in
      let low = h.base_low in
      let high = h.limit_low in
      let uppers = uppers_same n kind v w m small h two.1 three.1 in
      λ i. is_window_read_back kind n m && (low i == n && high i == n && uppers i)
]

zero_same : (v w m : Bounds) → IsSameFrame v w m → is_zero m ≡ true → is_zero w ≡ is_zero v
zero_same v w m h z =
    let three = and_parts (m.base == 0 && m.limit == 0 && m.base_upper == 0) (m.limit_upper == 0) z in
    let two = and_parts (m.base == 0 && m.limit == 0) (m.base_upper == 0) three.0 in
    let one = and_parts (m.base == 0) (m.limit == 0) two.0 in
    ap (λ n. n == 0 && w.limit == 0 && w.base_upper == 0 && w.limit_upper == 0) (h.base (eqb-true m.base 0 one.0))
    ∙ ap (λ n. v.base == 0 && n == 0 && w.base_upper == 0 && w.limit_upper == 0) (h.limit (eqb-true m.limit 0 one.1))
    ∙ ap (λ n. v.base == 0 && v.limit == 0 && n == 0 && w.limit_upper == 0) (h.base_upper (eqb-true m.base_upper 0 two.1))
    ∙ ap (λ n. v.base == 0 && v.limit == 0 && v.base_upper == 0 && n == 0) (h.limit_upper (eqb-true m.limit_upper 0 three.1))

window_same : (kind : WindowKind) (v w m : Bounds) → IsSameFrame v w m → window_breaks kind w m ≡ window_breaks kind v m
window_same kind v w m h =
    let third : (is_optional kind && is_zero w && is_zero m) ≡ (is_optional kind && is_zero v && is_zero m) = elim (cases_Bool (is_zero m)) [
      | inl z ↦ ap (λ b. is_optional kind && b && is_zero m) (zero_same v w m h z)
      | inr some ↦ and_right (is_optional kind && is_zero w) (is_zero m) some ∙ sym (and_right (is_optional kind && is_zero v) (is_zero m) some)
    ] in
    ap (λ b. not (b || (is_optional kind && is_lawful_window kind 1 w m) || (is_optional kind && is_zero w && is_zero m))) (lawful_same 0 kind v w m (omega arith) h)
    ∙ ap (λ b. not (is_lawful_window kind 0 v m || (is_optional kind && b) || (is_optional kind && is_zero w && is_zero m))) (lawful_same 1 kind v w m (omega arith) h)
    ∙ ap (λ b. not (is_lawful_window kind 0 v m || (is_optional kind && is_lawful_window kind 1 v m) || b)) third

pub byte_number : (image : List ℕ) (o : ℕ) → number_at image o 1 ≡ byte_at image o
byte_number image o =
    let z : o + 0 ≡ o = omega arith in
    let e : 0 + byte_at image o * 256 ^ 0 ≡ byte_at image o = omega arith in
    ap (λ p. 0 + byte_at image p * 256 ^ 0) z ∙ e

nibble_dark : (mask b : ℕ) → b < 4 → has_bit (without_low 16 mask) b ≡ false
nibble_dark mask b low = ap (λ n. n == 1) (bit_at-without_low_below mask 4 b low ∙ (let z : bit_at 0 b ≡ 0 = bit_at_above 0 0 b (omega arith) (omega arith) in z))

module _ (f g : Function) (m : IsMoved f g) (is : IsImage f.image) (bridge : is_bridge f ≡ true) where
  as_bridge : (o w bits : ℕ) → IsRow true f.probe (rom_at f.image f.probe) o w bits → IsRow (layout f.image == 1) f.probe (rom_at f.image f.probe) o w bits
  as_bridge o w bits row = subst (λ b. IsRow b f.probe (rom_at f.image f.probe) o w bits) (sym bridge) row

  low_nibble : (o w : ℕ) → 0x10 ≤ o → o + w ≤ 256 → 0 < w → IsRow true f.probe (rom_at f.image f.probe) o w (without_low 16 (number_at f.probe o w)) → number_at g.image o w % 16 ≡ number_at f.image o w % 16
  low_nibble o w low inside some row =
      low_stays f g m is o w (without_low 16 (number_at f.probe o w)) low inside (as_bridge o w (without_low 16 (number_at f.probe o w)) row) 4 (omega (arith, some)) (λ b l. nibble_dark (number_at f.probe o w) b l)

  same_where_none : (o w step : ℕ) → 0 / step * step ≡ 0 → 0x10 ≤ o → o + w ≤ 256 → IsRow true f.probe (rom_at f.image f.probe) o w (without_low step (number_at f.probe o w)) → number_at f.probe o w ≡ 0 → number_at g.image o w ≡ number_at f.image o w
  same_where_none o w step nothing low inside row none =
      let bits = without_low step (number_at f.probe o w) in
      number_stays f g m is o w bits low inside (as_bridge o w bits row) (ap (λ n. n / step * step) none ∙ nothing)

  frame : (kind : WindowKind) → IsSameFrame (bounds_at kind f.image) (bounds_at kind g.image) (bounds_at kind f.probe)
  frame IoWindow =
      let low = λ (o : ℕ) (a : 0x10 ≤ o) (b : o + 1 ≤ 256) (row : IsRow true f.probe (rom_at f.image f.probe) o 1 (without_low 16 (number_at f.probe o 1))).
      ap (λ n. n % 16) (sym (byte_number g.image o)) ∙ low_nibble o 1 a b (omega arith) row ∙ ap (λ n. n % 16) (byte_number f.image o) in
      let none = λ (o : ℕ) (a : 0x10 ≤ o) (b : o + 1 ≤ 256) (row : IsRow true f.probe (rom_at f.image f.probe) o 1 (without_low 16 (number_at f.probe o 1))) (z : byte_at f.probe o ≡ 0).
      sym (byte_number g.image o) ∙ same_where_none o 1 16 refl a b row (byte_number f.probe o ∙ z) ∙ byte_number f.image o in
      record {
        base_low = low 0x1c (omega arith) (omega arith) (row_1c f.probe (rom_at f.image f.probe));
        limit_low = low 0x1d (omega arith) (omega arith) (row_1d f.probe (rom_at f.image f.probe));
        base = none 0x1c (omega arith) (omega arith) (row_1c f.probe (rom_at f.image f.probe));
        limit = none 0x1d (omega arith) (omega arith) (row_1d f.probe (rom_at f.image f.probe));
        base_upper = same_where_none 0x30 2 1 refl (omega arith) (omega arith) (row_30 f.probe (rom_at f.image f.probe));
        limit_upper = same_where_none 0x32 2 1 refl (omega arith) (omega arith) (row_32 f.probe (rom_at f.image f.probe));
      }
  frame MemoryWindow = record {
    base_low = low_nibble 0x20 2 (omega arith) (omega arith) (omega arith) (row_20 f.probe (rom_at f.image f.probe));
    limit_low = low_nibble 0x22 2 (omega arith) (omega arith) (omega arith) (row_22 f.probe (rom_at f.image f.probe));
    base = same_where_none 0x20 2 16 refl (omega arith) (omega arith) (row_20 f.probe (rom_at f.image f.probe));
    limit = same_where_none 0x22 2 16 refl (omega arith) (omega arith) (row_22 f.probe (rom_at f.image f.probe));
    base_upper = λ z. refl;
    limit_upper = λ z. refl;
  }
  frame PrefetchWindow = record {
    base_low = low_nibble 0x24 2 (omega arith) (omega arith) (omega arith) (row_24 f.probe (rom_at f.image f.probe));
    limit_low = low_nibble 0x26 2 (omega arith) (omega arith) (omega arith) (row_26 f.probe (rom_at f.image f.probe));
    base = same_where_none 0x24 2 16 refl (omega arith) (omega arith) (row_24 f.probe (rom_at f.image f.probe));
    limit = same_where_none 0x26 2 16 refl (omega arith) (omega arith) (row_26 f.probe (rom_at f.image f.probe));
    base_upper = same_where_none 0x28 4 1 refl (omega arith) (omega arith) (row_28 f.probe (rom_at f.image f.probe));
    limit_upper = same_where_none 0x2c 4 1 refl (omega arith) (omega arith) (row_2c f.probe (rom_at f.image f.probe));
  }

  pub window_rule_same : (kind : WindowKind) → breaks_window_rule kind g.image g.probe ≡ breaks_window_rule kind f.image f.probe
  window_rule_same kind =
      ap (λ p. breaks_window_rule kind g.image p) m.probe ∙ window_same kind (bounds_at kind f.image) (bounds_at kind g.image) (bounds_at kind f.probe) (frame kind)
