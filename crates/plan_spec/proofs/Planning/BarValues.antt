-- The numbers that place BARs and ROMs: they fit their registers, and show the range that was planned.
use Rattle.std.proofs.Common.{◌≡◌, ℕ, ◌+◌, ◌-◌, ◌%◌, ◌^◌, ◌<◌, ◌≤◌, ◌⊎◌, inl, inr, List, refl, true, false, ◌&&◌, ◌||◌, None, arith, sym, ◌∙◌, ap}
use Rattle.std.specs.Bool.{nat_le}
use Rattle.std.specs.Int.{bit_at}
use Rattle.std.proofs.lemmas.Bool.{and_parts, or_cases, both_ways, leb-true}
use Rattle.std.proofs.lemmas.Nat.{mod_below, pow_pos, pow_below}
use Rattle.std.proofs.Math.Nat.{pow-le-pow_right}
use Rattle.pci_spec.specs.Number.{has_bit, each_from, lowest_one}
use Rattle.pci_spec.specs.Bar.{BarKind, IoBar, Memory32, Memory64, Reserved, bar_at, bar_kind, is_run, is_lawful, is_within, whole_bar, bar_fault, has_bar, first_bit}
use Rattle.pci_spec.specs.Rom.{rom_at, has_rom, breaks_rom_rule}
use Rattle.pci_spec.specs.Decoded.{aligned_range, bar_size, rom_size}
use Rattle.pci_spec.proofs.Bits.{each_from-at, bit_of_false}
use Rattle.pci_spec.proofs.Ranges.{lawful-lowest_one, lawful_bar, first_bit-of_register, lawful_rom}
use Rattle.pci_spec.proofs.Ranges as ranges
use Rattle.plan_spec.specs.Planning.Showing.{reach_of, bar_value, rom_value}
use Rattle.plan_spec.proofs.Planning.Shows.{aligned_shows}
use Rattle.plan_spec.proofs.Planning.ValueFits.{value_fits}

-- it is that of the lowest bit that decoding reads
pub same_first_bit : (kind : BarKind) → first_bit kind ≡ ranges.first_bit kind
same_first_bit IoBar = refl
same_first_bit Memory32 = refl
same_first_bit Memory64 = refl
same_first_bit Reserved = refl

-- the run of a lawful read back
pub record HasRun (kind : BarKind) (mask k : ℕ) : Type 0 where
  pub top : ℕ
  pub run : is_run (first_bit kind) mask k top ≡ true
  pub low : first_bit kind ≤ k
  pub wide : top < 64
  pub far : reach_of kind ≤ top + 1

pub run_of : (kind : BarKind) (mask k : ℕ) → is_lawful kind mask k ≡ true → HasRun kind mask k
run_of IoBar mask k h =
    let outer = and_parts (nat_le 2 k && nat_le k 8) (is_run 2 mask k 31 || is_run 2 mask k 15) h in
    let inner = and_parts (nat_le 2 k) (nat_le k 8) outer.0 in
    elim (or_cases (is_run 2 mask k 31) (is_run 2 mask k 15) outer.1) [
      | inl full ↦ record { top = 31; run = full; low = leb-true 2 k inner.0; wide = omega arith; far = omega arith }
      | inr half ↦ record { top = 15; run = half; low = leb-true 2 k inner.0; wide = omega arith; far = omega arith }
    ]
run_of Memory32 mask k h =
    let outer = and_parts (nat_le 4 k && nat_le k 31) (is_run 4 mask k 31) h in
    let inner = and_parts (nat_le 4 k) (nat_le k 31) outer.0 in
    record { top = 31; run = outer.1; low = leb-true 4 k inner.0; wide = omega arith; far = omega arith }
run_of Memory64 mask k h =
    let outer = and_parts (nat_le 4 k && nat_le k 63) (is_run 4 mask k 63) h in
    let inner = and_parts (nat_le 4 k) (nat_le k 63) outer.0 in
    record { top = 63; run = outer.1; low = leb-true 4 k inner.0; wide = omega arith; far = omega arith }
run_of Reserved mask k h = absurd (both_ways false refl h)

-- a value within its read back has no ones where that has none
dark_within : (from value mask : ℕ) → is_within from value mask ≡ true → (i : ℕ) → from ≤ i → i < from + (64 - from) → has_bit mask i ≡ false → bit_at value i ≡ 0
dark_within from value mask h i low high dark =
    let less = leb-true (bit_at value i) (bit_at mask i) (each_from-at from (64 - from) (λ j. nat_le (bit_at value j) (bit_at mask j)) h i low high) in
    let none = bit_of_false mask i dark in
    omega (arith, less, none)

-- ---- BARs

module _ (image probe : List ℕ) (n first : ℕ) (there : has_bar probe n ≡ true) (fine : bar_fault image probe n ≡ None)
    (aligned : first % bar_size probe n ≡ 0) (room : first + bar_size probe n ≤ 2 ^ reach_of (bar_kind (bar_at probe n))) where
  abbrev mask : ℕ
  mask = whole_bar probe probe n

  abbrev kind : BarKind
  kind = bar_kind (bar_at probe n)

  abbrev k : ℕ
  k = lowest_one (ranges.first_bit kind) mask

  pub size_is : bar_size probe n ≡ 2 ^ k
  size_is = ap (λ from. 2 ^ lowest_one from mask) (sym (first_bit-of_register (bar_at probe n)))

  pub run_here : HasRun kind mask k
  run_here = run_of kind mask k (lawful-lowest_one kind mask (lawful_bar image probe n there fine).sized).0

  aligned_here : first % 2 ^ k ≡ 0
  aligned_here = ap (λ size. first % size) (sym size_is) ∙ aligned

  below_top : (top : ℕ) → reach_of kind ≤ top + 1 → first < 2 ^ (top + 1)
  below_top top far =
      let p : 2 ^ reach_of kind ≤ 2 ^ (top + 1) = pow-le-pow_right (omega arith) far in
      let s = size_is in
      let pos = pow_pos k in
      omega (arith, room, p, s, pos)

  -- it shows the range
  pub bar_shows : aligned_range (bar_value image probe n first) (bar_size probe n) ≡ record { first = first; last = first + (bar_size probe n - 1) }
  bar_shows =
      let r = run_here in
      let e = first_bit kind in
      let small : whole_bar probe image n % 2 ^ e < 2 ^ k = (let m = mod_below (whole_bar probe image n) (2 ^ e) (pow_pos e) in let p : 2 ^ e ≤ 2 ^ k = pow-le-pow_right (omega arith) r.low in omega (arith, m, p)) in
      let s = size_is in
      let pos = pow_pos k in
      aligned_shows first (whole_bar probe image n % 2 ^ e) (bar_size probe n) (omega (arith, s, pos)) aligned (omega (arith, small, s))

  -- and has the old bits where no address bit is
  pub bar_fits : (b : ℕ) → b < 64 → (b < first_bit kind) ⊎ (has_bit mask b ≡ false) → bit_at (bar_value image probe n first) b ≡ bit_at (whole_bar probe image n) b
  bar_fits b inside dark =
      let r = run_here in
      value_fits mask (whole_bar probe image n) first (first_bit kind) k r.top r.run r.low r.wide aligned_here (below_top r.top r.far)
      (λ i from to none. dark_within 0 (whole_bar probe image n) mask (lawful_bar image probe n there fine).within i (omega arith) (omega (arith, to)) none) b inside dark

-- ---- the ROM

run_from_one : (m j top : ℕ) → is_run 0 m j top ≡ true → is_run 1 m j top ≡ true
unfolding each_from
run_from_one m j top h = (and_parts _ _ h).1

module _ (image probe : List ℕ) (first : ℕ) (there : has_rom image probe ≡ true) (fine : breaks_rom_rule image probe ≡ false)
    (aligned : first % rom_size image probe ≡ 0) (room : first + rom_size image probe ≤ 2 ^ 32) where
  abbrev rom_mask : ℕ
  rom_mask = rom_at image probe

  abbrev rom_k : ℕ
  rom_k = lowest_one 0 rom_mask

  pub rom_run : (11 ≤ rom_k) × (is_run 0 rom_mask rom_k 31 ≡ true)
  rom_run =
      let size = (lawful_rom image probe there fine).0 in
      let outer = and_parts (nat_le 11 rom_k && nat_le rom_k 24) (is_run 0 rom_mask rom_k 31) size in
      (leb-true 11 rom_k (and_parts (nat_le 11 rom_k) (nat_le rom_k 24) outer.0).0, outer.1)

  pub rom_shows : aligned_range (rom_value image first) (rom_size image probe) ≡ record { first = first; last = first + (rom_size image probe - 1) }
  rom_shows =
      let low = rom_run.0 in
      let small : rom_at image image % 2 ^ 1 < 2 ^ rom_k = (let m = mod_below (rom_at image image) (2 ^ 1) (pow_pos 1) in let p = pow_below 1 rom_k (omega (arith, low)) in omega (arith, m, p)) in
      aligned_shows first (rom_at image image % 2 ^ 1) (rom_size image probe) (pow_pos rom_k) aligned small

  pub rom_fits : (b : ℕ) → b < 64 → (b < 1) ⊎ (has_bit rom_mask b ≡ false) → bit_at (rom_value image first) b ≡ bit_at (rom_at image image) b
  rom_fits b inside dark =
      let low = rom_run.0 in
      let pos = pow_pos rom_k in
      value_fits rom_mask (rom_at image image) first 1 rom_k 31 (run_from_one rom_mask rom_k 31 rom_run.1) (omega (arith, low)) (omega arith) aligned (omega (arith, room, pos))
      (λ i from to none. dark_within 1 (rom_at image image) rom_mask (lawful_rom image probe there fine).2 i from (omega (arith, to)) none) b inside dark
