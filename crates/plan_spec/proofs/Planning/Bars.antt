-- Moving changes no bit of a Base Address register outside its mask.
use Rattle.std.proofs.Common.{◌≡◌, ℕ, zero, suc, ◌+◌, ◌-◌, ◌*◌, ◌/◌, ◌%◌, ◌<◌, ◌≤◌, inl, inr, List, [], ◌∷◌, refl, Bool, true, false, cond, ◌&&◌, ◌||◌, arith, sym, ◌∙◌, ap, map}
use Rattle.std.specs.Bool.{IsFalse, nat_lt, nat_le, ◌==◌, if◌then◌else◌}
use Rattle.std.specs.List.{list_any, list_all, range_with_len}
use Rattle.std.specs.Int.{bit_at}
use Rattle.std.proofs.lemmas.Bool.{and_parts, and_left, or_cases, leb-true, ltb-true, ne_eqb, cases_Bool, both_ways}
use Rattle.std.proofs.lemmas.List.Folds.{list_any-append}
use Rattle.std.proofs.lemmas.Nat.{mod_below}
use Rattle.pci_spec.specs.Number.{has_bit, IsImage}
use Rattle.pci_spec.specs.Header.{layout, bar_count, bar_register}
use Rattle.pci_spec.specs.Bar.{bar_at}
use Rattle.pci_spec.specs.Rom.{rom_at}
use Rattle.pci_spec.specs.System.{Function}
use Rattle.pci_spec.specs.Machine.{Field, field_has, in_fields, bar_field, window_fields, address_fields}
use Rattle.plan_spec.specs.Plan.{IsMoved}
use Rattle.plan_spec.proofs.Planning.Moved.{kind_fields, no_field_before}
use Rattle.plan_spec.proofs.Planning.Registers.{register_bit}

field_at : (f : Field) (place i : ℕ) → field_has place i f ≡ true → (f.offset ≤ place) × (place < f.offset + f.width) × (has_bit f.bits (8 * (place - f.offset) + i) ≡ true)
field_at f place i h =
    let outer = and_parts (nat_le f.offset place && nat_lt place (f.offset + f.width)) (has_bit f.bits (8 * (place - f.offset) + i)) h in
    let inner = and_parts (nat_le f.offset place) (nat_lt place (f.offset + f.width)) outer.0 in
    (leb-true f.offset place inner.0, ltb-true place (f.offset + f.width) inner.1, outer.1)

some_bar : (probe : List ℕ) (place i a c : ℕ) → list_any (field_has place i) (map (bar_field probe) (range_with_len a c)) ≡ true → (m : ℕ) × (field_has place i (bar_field probe m) ≡ true)
some_bar probe place i a zero h = absurd (both_ways false refl h)
some_bar probe place i a (suc c) h = elim (or_cases (field_has place i (bar_field probe a)) (list_any (field_has place i) (map (bar_field probe) (range_with_len (a + 1) c))) h) [
  | inl here ↦ (a, here)
  | inr more ↦ some_bar probe place i (a + 1) c more
]

abbrev bar_fields : Bool → List ℕ → List Field
bar_fields bridge probe = map (bar_field probe) (range_with_len 0 (if bridge then 2 else 6))

abbrev other_fields : Bool → List ℕ → ℕ → List Field
other_fields bridge probe rom = record { offset = if bridge then 0x38 else 0x30; width = 4; bits = rom } ∷ (if bridge then window_fields probe else [])

split_fields : (bridge : Bool) (probe : List ℕ) (rom place i : ℕ) → in_fields (kind_fields bridge probe rom) place i ≡ (in_fields (bar_fields bridge probe) place i || in_fields (other_fields bridge probe rom) place i)
split_fields true probe rom place i = list_any-append (field_has place i) (bar_fields true probe) (other_fields true probe rom)
split_fields false probe rom place i = list_any-append (field_has place i) (bar_fields false probe) (other_fields false probe rom)

others_later : (bridge : Bool) (probe : List ℕ) (rom : ℕ) → list_all (λ (f : Field). nat_le (0x10 + 4 * (if bridge then 2 else 6)) f.offset) (other_fields bridge probe rom) ≡ true
others_later true probe rom = refl
others_later false probe rom = refl

-- an address bit in register n is one of its mask
bar_bits : (bridge : Bool) (probe : List ℕ) (rom n j i : ℕ) → n < (if bridge then 2 else 6) → j < 4 → i < 8
    → in_fields (kind_fields bridge probe rom) (bar_register n + j) i ≡ true → has_bit (bar_field probe n).bits (8 * j + i) ≡ true
bar_bits bridge probe rom n j i inside short small h =
    let place = bar_register n + j in
    let none = no_field_before (other_fields bridge probe rom) (0x10 + 4 * (if bridge then 2 else 6)) place i (others_later bridge probe rom) (omega (arith, inside, short)) in
    elim (or_cases (in_fields (bar_fields bridge probe) place i) (in_fields (other_fields bridge probe rom) place i) (sym (split_fields bridge probe rom place i) ∙ h)) [
      | inr other ↦ absurd (both_ways (in_fields (other_fields bridge probe rom) place i) none other)
      | inl bar ↦
          let found = some_bar probe place i 0 (if bridge then 2 else 6) bar in
          let at = field_at (bar_field probe found.0) place i found.1 in
          let low : 0x10 + 4 * found.0 ≤ 0x10 + 4 * n + j = at.0 in
          let high : 0x10 + 4 * n + j < 0x10 + 4 * found.0 + 4 = at.1 in
          let same : found.0 ≡ n = omega (arith, low, high, short) in
          let gap : place - bar_register n ≡ j = omega arith in
          ap (λ d. has_bit (bar_field probe n).bits (8 * d + i)) (sym gap)
          ∙ ap (λ m. has_bit (bar_field probe m).bits (8 * (place - bar_register m) + i)) (sym same)
          ∙ at.2
    ]

pub bar_bit_stays : (f g : Function) → IsMoved f g → IsImage f.image → (n b : ℕ) → n < bar_count (layout f.image) → b < 32
    → has_bit (bar_field f.probe n).bits b ≡ false → bit_at (bar_at g.image n) b ≡ bit_at (bar_at f.image n) b
bar_bit_stays f g m is n b inside below dark =
    let j = b / 8 in
    let i = b % 8 in
    let small : i < 8 = mod_below b 8 (omega arith) in
    let short : j < 4 = omega (arith, below) in
    let whole : 8 * j + i ≡ b = omega arith in
    let few : bar_count (layout f.image) ≤ 6 = elim (cases_Bool (layout f.image == 1)) [
      | inl yes_bridge ↦ (let e : bar_count (layout f.image) ≡ 2 = ap (λ t. cond t 2 6) yes_bridge in omega (arith, e))
      | inr no_bridge ↦ (let e : bar_count (layout f.image) ≡ 6 = ap (λ t. cond t 2 6) no_bridge in omega (arith, e))
    ] in
    let plain : IsFalse (in_fields (address_fields f.image f.probe) (bar_register n + j) i) = elim (cases_Bool (in_fields (address_fields f.image f.probe) (bar_register n + j) i)) [
      | inl there ↦ absurd (both_ways (has_bit (bar_field f.probe n).bits b) dark
          (ap (λ k. has_bit (bar_field f.probe n).bits k) (sym whole) ∙ bar_bits (layout f.image == 1) f.probe (rom_at f.image f.probe) n j i inside short small there))
      | inr fine ↦ fine
    ] in
    ap (λ k. bit_at (bar_at g.image n) k) (sym whole)
    ∙ register_bit g.image (bar_register n) m.image 4 j i short small
    ∙ m.same (bar_register n + j) i (omega (arith, inside, few, short)) small plain (and_left (bar_register n + j == 4) (nat_lt i 2) (ne_eqb (bar_register n + j) 4 (λ e. let impossible : ⊥ = omega (arith, e) in impossible)))
    ∙ sym (register_bit f.image (bar_register n) is 4 j i short small)
    ∙ ap (λ k. bit_at (bar_at f.image n) k) whole
