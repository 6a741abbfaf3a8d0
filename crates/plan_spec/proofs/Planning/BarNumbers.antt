-- The numbers that place BARs fit their registers, and make the whole BAR again.
use Rattle.std.proofs.Common.{◌≡◌, ℕ, zero, suc, ◌+◌, ◌*◌, ◌/◌, ◌%◌, ◌^◌, ◌<◌, ◌≤◌, inl, inr, List, refl, Bool, true, false, cond, ◌&&◌, not, None, arith, sym, ◌∙◌, ap, subst}
use Rattle.std.specs.Bool.{if◌then◌else◌, ◌==◌}
use Rattle.std.specs.Int.{bit_at}
use Rattle.std.proofs.lemmas.Bool.{and_parts, and_from, cases_Bool, cases_lt, both_ways, not-false, not_from_false, eq-eqb, ne_eqb}
use Rattle.std.proofs.lemmas.Nat.{mod_below, pow_pos, shr_split}
use Rattle.std.proofs.Math.Nat.{pow-le-pow_right}
use Rattle.pci_spec.specs.Number.{has_bit, lowest_one, IsImage}
use Rattle.pci_spec.specs.Header.{layout, bar_count, bar_register}
use Rattle.pci_spec.specs.Bar.{BarKind, IoBar, Memory32, Memory64, Reserved, bar_at, bar_kind, is_io, is_wide, type_bits, starts_bar, whole_bar, bar_fault, encodings, has_bar, first_bit}
use Rattle.pci_spec.specs.Decoded.{bar_size}
use Rattle.pci_spec.specs.System.{Function}
use Rattle.pci_spec.specs.Machine.{bar_field}
use Rattle.pci_spec.proofs.BarLaws.{kind_by}
use Rattle.pci_spec.proofs.Ranges.{first_bit-of_register, lawful_bar}
use Rattle.pci_spec.proofs.Ranges as ranges
use Rattle.plan_spec.specs.Planning.Showing.{reach_of, bar_value}
use Rattle.plan_spec.proofs.Planning.Registers.{number_below}
use Rattle.plan_spec.proofs.Planning.BarValues.{same_first_bit, size_is, run_here}
use Rattle.plan_spec.proofs.Planning.BarFits.{lower_fits, upper_fits}

-- what the register that starts a BAR has to hold, with the BAR at a place
abbrev pub lower_by : Function → (ℕ → ℕ) → ℕ → ℕ
lower_by f place n = if has_bar f.probe n then bar_value f.image f.probe n (place n) % 2 ^ 32 else bar_at f.image n

-- and any register
abbrev pub bar_by : Function → (ℕ → ℕ) → ℕ → ℕ
bar_by f place zero = lower_by f place zero
bar_by f place (suc n) = if starts_bar f.probe (suc n) then lower_by f place (suc n) else bar_value f.image f.probe n (place n) / 2 ^ 32

-- ---- kinds and encodings

encodings_by : (io : Bool) → (if io then 4 else 16) ≡ 2 ^ (if io then 2 else 4)
encodings_by true = refl
encodings_by false = refl

encoding_bits : (mask : ℕ) → encodings mask ≡ 2 ^ first_bit (bar_kind mask)
encoding_bits mask = encodings_by (is_io mask) ∙ ap (λ k. 2 ^ k) (sym (same_first_bit (bar_kind mask) ∙ first_bit-of_register mask))

reach_by : (io wide narrow : Bool) → (not io && wide) ≡ false → reach_of (kind_by io wide narrow) ≤ 32
reach_by true wide narrow h = omega arith
reach_by false true narrow h = absurd (both_ways true h refl)
reach_by false false true h = omega arith
reach_by false false false h = omega arith

narrow_reach : (mask : ℕ) → is_wide mask ≡ false → reach_of (bar_kind mask) ≤ 32
narrow_reach mask narrow = reach_by (is_io mask) (type_bits mask == 2) (type_bits mask == 0) narrow

least_reach : (kind : BarKind) → reach_of kind ≤ 64
least_reach IoBar = omega arith
least_reach Memory32 = omega arith
least_reach Memory64 = omega arith
least_reach Reserved = omega arith

-- ---- registers that start BARs, and others

-- the register after one that starts a 64-bit BAR
pub upper_of_wide : (probe : List ℕ) (n : ℕ) → starts_bar probe (suc n) ≡ false → (starts_bar probe n ≡ true) × (is_wide (bar_at probe n) ≡ true)
upper_of_wide probe n upper = and_parts (starts_bar probe n) (is_wide (bar_at probe n)) (not-false (starts_bar probe n && is_wide (bar_at probe n)) upper)

pub wide_has_bar : (probe : List ℕ) (n : ℕ) → starts_bar probe n ≡ true → is_wide (bar_at probe n) ≡ true → has_bar probe n ≡ true
wide_has_bar probe n starts wide = and_from (starts_bar probe n) (not (bar_at probe n == 0)) starts
    (not_from_false (bar_at probe n == 0) (ne_eqb (bar_at probe n) 0 (λ none. both_ways (is_wide (bar_at probe n)) (ap is_wide none) wide)))

module _ (f : Function) (is : IsImage f.image) (is_probe : IsImage f.probe) (place : ℕ → ℕ) (fine : (n : ℕ) → n < bar_count (layout f.image) → bar_fault f.image f.probe n ≡ None)
    (at : (n : ℕ) → n < bar_count (layout f.image) → has_bar f.probe n ≡ true → (place n % bar_size f.probe n ≡ 0) × (place n + bar_size f.probe n ≤ 2 ^ reach_of (bar_kind (bar_at f.probe n)))) where
  lower_there : (n : ℕ) → has_bar f.probe n ≡ true → lower_by f place n ≡ bar_value f.image f.probe n (place n) % 2 ^ 32
  lower_there n there = ap (λ t. cond t (bar_value f.image f.probe n (place n) % 2 ^ 32) (bar_at f.image n)) there

  lower_absent : (n : ℕ) → has_bar f.probe n ≡ false → lower_by f place n ≡ bar_at f.image n
  lower_absent n none = ap (λ t. cond t (bar_value f.image f.probe n (place n) % 2 ^ 32) (bar_at f.image n)) none

  by_start : (n : ℕ) → starts_bar f.probe n ≡ true → bar_by f place n ≡ lower_by f place n
  by_start zero starts = refl
  by_start (suc n) starts = ap (λ t. cond t (lower_by f place (suc n)) (bar_value f.image f.probe n (place n) / 2 ^ 32)) starts

  by_upper : (n : ℕ) → starts_bar f.probe (suc n) ≡ false → bar_by f place (suc n) ≡ bar_value f.image f.probe n (place n) / 2 ^ 32
  by_upper n upper = ap (λ t. cond t (lower_by f place (suc n)) (bar_value f.image f.probe n (place n) / 2 ^ 32)) upper

  -- ---- the bits

  lower_bits : (n : ℕ) → n < bar_count (layout f.image) → starts_bar f.probe n ≡ true → (b : ℕ) → b < 32 → has_bit (bar_field f.probe n).bits b ≡ false → bit_at (lower_by f place n) b ≡ bit_at (bar_at f.image n) b
  lower_bits n inside starts b low dark = elim (cases_Bool (has_bar f.probe n)) [
    | inl there ↦
        let found = at n inside there in
        ap (λ v. bit_at v b) (lower_there n there)
        ∙ lower_fits f is is_probe n (place n) there starts (fine n inside) found.0 found.1 (encoding_bits (bar_at f.probe n)) b low dark
    | inr none ↦ ap (λ v. bit_at v b) (lower_absent n none)
  ]

  upper_bits : (n : ℕ) → n < bar_count (layout f.image) → starts_bar f.probe (suc n) ≡ false → (b : ℕ) → b < 32 → has_bit (bar_field f.probe (suc n)).bits b ≡ false
      → bit_at (bar_value f.image f.probe n (place n) / 2 ^ 32) b ≡ bit_at (bar_at f.image (suc n)) b
  upper_bits n inside upper b low dark =
      let wide = upper_of_wide f.probe n upper in
      let there = wide_has_bar f.probe n wide.0 wide.1 in
      let found = at n inside there in
      let next : n + 1 ≡ suc n = omega arith in
      subst (λ m. has_bit (bar_field f.probe m).bits b ≡ false → starts_bar f.probe m ≡ false → bit_at (bar_value f.image f.probe n (place n) / 2 ^ 32) b ≡ bit_at (bar_at f.image m) b) next
      (upper_fits f is is_probe n (place n) there wide.0 (fine n inside) found.0 found.1 (encoding_bits (bar_at f.probe n)) wide.1 b low) dark upper

  pub bar_number_bits : (n : ℕ) → n < bar_count (layout f.image) → (b : ℕ) → b < 32 → has_bit (bar_field f.probe n).bits b ≡ false → bit_at (bar_by f place n) b ≡ bit_at (bar_at f.image n) b
  bar_number_bits zero inside b low dark = lower_bits zero inside refl b low dark
  bar_number_bits (suc n) inside b low dark = elim (cases_Bool (starts_bar f.probe (suc n))) [
    | inl starts ↦ ap (λ v. bit_at v b) (by_start (suc n) starts) ∙ lower_bits (suc n) inside starts b low dark
    | inr upper ↦ ap (λ v. bit_at v b) (by_upper n upper) ∙ upper_bits n (omega (arith, inside)) upper b low dark
  ]

  -- ---- the width

  -- the encoding is below the size
  pub value_small : (n : ℕ) → n < bar_count (layout f.image) → has_bar f.probe n ≡ true → bar_value f.image f.probe n (place n) < 2 ^ reach_of (bar_kind (bar_at f.probe n))
  value_small n inside there =
      let found = at n inside there in
      let e = first_bit (bar_kind (bar_at f.probe n)) in
      let run = run_here f.image f.probe n (place n) there (fine n inside) found.0 found.1 in
      let size = size_is f.image f.probe n (place n) there (fine n inside) found.0 found.1 in
      let low = mod_below (whole_bar f.probe f.image n) (2 ^ e) (pow_pos e) in
      let up : 2 ^ e ≤ 2 ^ lowest_one (ranges.first_bit (bar_kind (bar_at f.probe n))) (whole_bar f.probe f.probe n) = pow-le-pow_right (omega arith) run.low in
      let room = found.1 in
      omega (arith, low, up, size, room)

  lower_small : (n : ℕ) → lower_by f place n < 2 ^ 32
  lower_small n = elim (cases_Bool (has_bar f.probe n)) [
    | inl there ↦ (let e = lower_there n there in let small = mod_below (bar_value f.image f.probe n (place n)) (2 ^ 32) (omega arith) in omega (arith, e, small))
    | inr none ↦ (let e = lower_absent n none in let small = number_below f.image (bar_register n) is 4 in omega (arith, e, small))
  ]

  pub bar_number_small : (n : ℕ) → n < bar_count (layout f.image) → bar_by f place n < 2 ^ 32
  bar_number_small zero inside = lower_small zero
  bar_number_small (suc n) inside = elim (cases_Bool (starts_bar f.probe (suc n))) [
    | inl starts ↦ (let e = by_start (suc n) starts in let small = lower_small (suc n) in omega (arith, e, small))
    | inr upper ↦
        let wide = upper_of_wide f.probe n upper in
        let small = value_small n (omega (arith, inside)) (wide_has_bar f.probe n wide.0 wide.1) in
        let most : 2 ^ reach_of (bar_kind (bar_at f.probe n)) ≤ 2 ^ 64 = pow-le-pow_right (omega arith) (least_reach (bar_kind (bar_at f.probe n))) in
        let e = by_upper n upper in
        omega (arith, e, small, most)
  ]

  -- ---- the whole again

  -- a 64-bit BAR has a register left for its upper half
  pub upper_inside : (n : ℕ) → n < bar_count (layout f.image) → has_bar f.probe n ≡ true → is_wide (bar_at f.probe n) ≡ true → suc n < bar_count (layout f.image)
  upper_inside n inside there wide =
      let pair = (lawful_bar f.image f.probe n there (fine n inside)).pair in
      elim (cases_lt (suc n) (bar_count (layout f.image))) [
        | inl room ↦ room
        | inr none ↦
            let last : n + 1 ≡ bar_count (layout f.image) = omega (arith, inside, none) in
            absurd (both_ways (is_wide (bar_at f.probe n) && (n + 1 == bar_count (layout f.image))) pair
            (and_from (is_wide (bar_at f.probe n)) (n + 1 == bar_count (layout f.image)) wide (eq-eqb (n + 1) (bar_count (layout f.image)) last)))
      ]

  -- what shows these numbers shows the whole BAR
  pub whole_again : (image : List ℕ) (n : ℕ) → n < bar_count (layout f.image) → has_bar f.probe n ≡ true
      → ((m : ℕ) → m < bar_count (layout f.image) → bar_at image m ≡ bar_by f place m) → whole_bar f.probe image n ≡ bar_value f.image f.probe n (place n)
  whole_again image n inside there shown =
      let starts = (and_parts (starts_bar f.probe n) (not (bar_at f.probe n == 0)) there).0 in
      let low : bar_at image n ≡ bar_value f.image f.probe n (place n) % 2 ^ 32 = shown n inside ∙ by_start n starts ∙ lower_there n there in
      elim (cases_Bool (is_wide (bar_at f.probe n))) [
        | inl wide ↦
            let next : n + 1 ≡ suc n = omega arith in
            let half : starts_bar f.probe (suc n) ≡ false = ap not (and_from (starts_bar f.probe n) (is_wide (bar_at f.probe n)) starts wide) in
            let high : bar_at image (n + 1) ≡ bar_value f.image f.probe n (place n) / 2 ^ 32 = ap (bar_at image) next ∙ shown (suc n) (upper_inside n inside there wide) ∙ by_upper n half in
            let split = shr_split (bar_value f.image f.probe n (place n)) 32 in
            ap (λ t. cond t (bar_at image n + 2 ^ 32 * bar_at image (n + 1)) (bar_at image n)) wide ∙ omega (arith, low, high, split)
        | inr narrow ↦
            let small = value_small n inside there in
            let most : 2 ^ reach_of (bar_kind (bar_at f.probe n)) ≤ 2 ^ 32 = pow-le-pow_right (omega arith) (narrow_reach (bar_at f.probe n) narrow) in
            ap (λ t. cond t (bar_at image n + 2 ^ 32 * bar_at image (n + 1)) (bar_at image n)) narrow ∙ omega (arith, low, small, most)
      ]
