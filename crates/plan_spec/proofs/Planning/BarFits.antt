-- The numbers that place a BAR fit its registers, one or two.
use Rattle.std.proofs.Common.{◌≡◌, ℕ, ◌+◌, ◌-◌, ◌*◌, ◌/◌, ◌%◌, ◌^◌, ◌<◌, ◌≤◌, ◌⊎◌, inl, inr, List, [], ◌∷◌, refl, Bool, true, false, cond, ◌&&◌, ◌||◌, None, arith, sym, ◌∙◌, ap, map}
use Rattle.std.specs.Bool.{nat_le, nat_lt, ◌==◌, if◌then◌else◌}
use Rattle.std.specs.List.{list_any, range_with_len}
use Rattle.std.specs.Int.{bit_at}
use Rattle.std.proofs.lemmas.Bool.{and_from, cases_Bool, cases_lt, both_ways, le-leb, lt-ltb}
use Rattle.std.proofs.lemmas.List.Folds.{list_any-append}
use Rattle.std.proofs.lemmas.Nat.{shr-shr}
use Rattle.pci_spec.specs.Number.{has_bit, IsImage}
use Rattle.pci_spec.specs.Header.{layout, bar_count, bar_register}
use Rattle.pci_spec.specs.Bar.{bar_at, is_wide, bar_kind, starts_bar, bar_fault, encodings, has_bar, first_bit}
use Rattle.pci_spec.specs.Rom.{rom_at}
use Rattle.pci_spec.specs.Decoded.{bar_size}
use Rattle.pci_spec.specs.System.{Function, is_bridge}
use Rattle.pci_spec.specs.Machine.{field_has, in_fields, address_fields, bar_field, window_fields, without_low}
use Rattle.pci_spec.proofs.Bits.{bit_at-mod, bit_at-without_low}
use Rattle.pci_spec.proofs.Members.{in_map_from, in_range_from}
use Rattle.plan_spec.specs.Planning.Fitting.{FitsByNumber}
use Rattle.plan_spec.specs.Planning.Showing.{reach_of, bar_value}
use Rattle.plan_spec.specs.Planning.Building.{write_of}
use Rattle.plan_spec.proofs.Planning.Moved.{kind_fields}
use Rattle.plan_spec.proofs.Planning.Behind.{any_from}
use Rattle.plan_spec.proofs.Planning.BarFaults.{pair_low, pair_high}
use Rattle.plan_spec.proofs.Planning.Registers.{number_below}
use Rattle.plan_spec.proofs.Planning.BarValues.{bar_fits}

or_first : (b c : Bool) → b ≡ true → (b || c) ≡ true
or_first true c e = refl
or_first false c e = absurd (both_ways false refl e)

-- a bit of a BAR's field is an address bit
field_listed : (bridge : Bool) (probe : List ℕ) (rom n j i : ℕ) → n < (if bridge then 2 else 6) → j < 4 → has_bit (bar_field probe n).bits (8 * j + i) ≡ true
    → list_any (field_has (bar_register n + j) i) (map (bar_field probe) (range_with_len 0 (if bridge then 2 else 6))) ≡ true
field_listed bridge probe rom n j i inside short lit =
    let place = bar_register n + j in
    let gap : j ≡ place - bar_register n = omega arith in
    any_from (field_has place i) (map (bar_field probe) (range_with_len 0 (if bridge then 2 else 6))) (bar_field probe n)
    (in_map_from (bar_field probe) (range_with_len 0 (if bridge then 2 else 6)) n (in_range_from 0 (if bridge then 2 else 6) n (omega arith) (omega (arith, inside))))
    (and_from (nat_le (bar_register n) place && nat_lt place (bar_register n + 4)) (has_bit (bar_field probe n).bits (8 * (place - bar_register n) + i))
    (and_from (nat_le (bar_register n) place) (nat_lt place (bar_register n + 4)) (le-leb (bar_register n) place (omega arith)) (lt-ltb place (bar_register n + 4) (omega (arith, short))))
    (ap (λ d. has_bit (bar_field probe n).bits (8 * d + i)) (sym gap) ∙ lit))

in_kind : (bridge : Bool) (probe : List ℕ) (rom place i : ℕ) → list_any (field_has place i) (map (bar_field probe) (range_with_len 0 (if bridge then 2 else 6))) ≡ true → in_fields (kind_fields bridge probe rom) place i ≡ true
in_kind true probe rom place i h =
    list_any-append (field_has place i) (map (bar_field probe) (range_with_len 0 2)) (record { offset = 0x38; width = 4; bits = rom } ∷ window_fields probe)
    ∙ or_first (list_any (field_has place i) (map (bar_field probe) (range_with_len 0 2))) (list_any (field_has place i) (record { offset = 0x38; width = 4; bits = rom } ∷ window_fields probe)) h
in_kind false probe rom place i h =
    list_any-append (field_has place i) (map (bar_field probe) (range_with_len 0 6)) (record { offset = 0x30; width = 4; bits = rom } ∷ [])
    ∙ or_first (list_any (field_has place i) (map (bar_field probe) (range_with_len 0 6))) (list_any (field_has place i) (record { offset = 0x30; width = 4; bits = rom } ∷ [])) h

few_registers : (f : Function) (n : ℕ) → n < bar_count (layout f.image) → (n < 6) × (is_bridge f ≡ true → n < 2)
few_registers f n inside = elim (cases_Bool (layout f.image == 1)) [
  | inl b ↦ (let e : bar_count (layout f.image) ≡ 2 = ap (λ t. cond t 2 6) b in (omega (arith, inside, e), λ h. omega (arith, inside, e)))
  | inr d ↦ (let e : bar_count (layout f.image) ≡ 6 = ap (λ t. cond t 2 6) d in (omega (arith, inside, e), λ h. absurd (both_ways (layout f.image == 1) d h)))
]

-- a number with the old bits outside a BAR register's field fits the register
pub bar_register_fits : (f : Function) (n : ℕ) (value : ℕ × ℕ → ℕ) → IsImage f.image → n < bar_count (layout f.image)
    → ((b : ℕ) → b < 32 → has_bit (bar_field f.probe n).bits b ≡ false → bit_at (value (bar_register n, 4)) b ≡ bit_at (bar_at f.image n) b)
    → FitsByNumber (write_of f value (bar_register n, 4)) f
bar_register_fits f n value is inside same =
    let few = few_registers f n inside in
    let six = few.0 in
    record {
      inside = omega (arith, six);
      same = λ j i short small plain other.
          let b = 8 * j + i in
          let dark : has_bit (bar_field f.probe n).bits b ≡ false = elim (cases_Bool (has_bit (bar_field f.probe n).bits b)) [
            | inr fine ↦ fine
            | inl lit ↦ absurd (both_ways (in_fields (address_fields f.image f.probe) (bar_register n + j) i) plain
                (in_kind (is_bridge f) f.probe (rom_at f.image f.probe) (bar_register n + j) i (field_listed (is_bridge f) f.probe (rom_at f.image f.probe) n j i inside short lit)))
          ] in
          same b (omega (arith, short, small)) dark;
      status = inr (omega arith);
      second = λ b. inl (let two = few.1 b in omega (arith, two));
    }

-- ---- the two halves

half_low : (wide : Bool) (lo hi b : ℕ) → b < 32 → bit_at (cond wide (lo + 2 ^ 32 * hi) lo) b ≡ bit_at lo b
half_low true lo hi b low = pair_low lo hi b low
half_low false lo hi b low = refl

-- the bits of the field of a register that starts a BAR
dark_start : (mask k b : ℕ) → encodings mask ≡ 2 ^ k → has_bit (without_low (encodings mask) mask) b ≡ false → (b < k) ⊎ (has_bit mask b ≡ false)
dark_start mask k b e dark = elim (cases_lt b k) [
  | inl low ↦ inl low
  | inr high ↦ inr (ap (λ x. x == 1) (sym (bit_at-without_low mask k b high)) ∙ sym (ap (λ n. has_bit (without_low n mask) b) e) ∙ dark)
]

module _ (f : Function) (is : IsImage f.image) (is_probe : IsImage f.probe) (n first : ℕ) (there : has_bar f.probe n ≡ true) (starts : starts_bar f.probe n ≡ true) (fine : bar_fault f.image f.probe n ≡ None)
    (aligned : first % bar_size f.probe n ≡ 0) (room : first + bar_size f.probe n ≤ 2 ^ reach_of (bar_kind (bar_at f.probe n)))
    (width : encodings (bar_at f.probe n) ≡ 2 ^ first_bit (bar_kind (bar_at f.probe n))) where
  -- the register itself
  pub lower_fits : (b : ℕ) → b < 32 → has_bit (bar_field f.probe n).bits b ≡ false → bit_at (bar_value f.image f.probe n first % 2 ^ 32) b ≡ bit_at (bar_at f.image n) b
  lower_fits b low dark =
      let mask = bar_at f.probe n in
      let plain : has_bit (without_low (encodings mask) mask) b ≡ false = ap (λ t. has_bit (cond t (without_low (encodings mask) mask) mask) b) (sym starts) ∙ dark in
      bit_at-mod (bar_value f.image f.probe n first) 32 b low
      ∙ bar_fits f.image f.probe n first there fine aligned room b (omega (arith, low))
      (elim (dark_start mask (first_bit (bar_kind mask)) b width plain) [
        | inl under ↦ inl under
        | inr none ↦ inr (ap (λ x. x == 1) (half_low (is_wide mask) mask (bar_at f.probe (n + 1)) b low) ∙ none)
      ])
      ∙ half_low (is_wide mask) (bar_at f.image n) (bar_at f.image (n + 1)) b low

  -- and its upper half
  pub upper_fits : is_wide (bar_at f.probe n) ≡ true → (b : ℕ) → b < 32 → has_bit (bar_field f.probe (n + 1)).bits b ≡ false → starts_bar f.probe (n + 1) ≡ false
      → bit_at (bar_value f.image f.probe n first / 2 ^ 32) b ≡ bit_at (bar_at f.image (n + 1)) b
  upper_fits wide b low dark upper =
      let mask = bar_at f.probe (n + 1) in
      let none : has_bit mask b ≡ false = ap (λ t. has_bit (cond t (without_low (encodings mask) mask) mask) b) (sym upper) ∙ dark in
      let gap : 32 + b - 32 ≡ b = omega arith in
      let whole = λ (image : List ℕ) (small : bar_at image n < 2 ^ 32).
      ap (λ t. bit_at (cond t (bar_at image n + 2 ^ 32 * bar_at image (n + 1)) (bar_at image n)) (32 + b)) wide
      ∙ pair_high (bar_at image n) (bar_at image (n + 1)) (32 + b) small (omega arith) ∙ ap (λ k. bit_at (bar_at image (n + 1)) k) gap in
      ap (λ x. x % 2) (shr-shr (bar_value f.image f.probe n first) 32 b)
      ∙ bar_fits f.image f.probe n first there fine aligned room (32 + b) (omega (arith, low))
      (inr (ap (λ x. x == 1) (whole f.probe (number_below f.probe (bar_register n) is_probe 4)) ∙ none))
      ∙ whole f.image (number_below f.image (bar_register n) is 4)
