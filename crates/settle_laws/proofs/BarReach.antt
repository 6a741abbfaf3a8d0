-- Where a BAR ends by the highest address that it can have, its number fits its registers and shows its place.
use Rattle.std.proofs.Common.{◌≡◌, ℕ, ◌+◌, ◌*◌, ◌/◌, ◌-◌, ◌%◌, ◌^◌, ◌<◌, ◌≤◌, ◌⊎◌, inl, inr, List, refl, Bool, true, false, cond, not, ◌&&◌, ◌||◌, None, arith, sym, ◌∙◌, ap}
use Rattle.std.specs.Bool.{nat_le, ◌==◌, if◌then◌else◌}
use Rattle.std.specs.Int.{bit_at}
use Rattle.std.proofs.lemmas.Bool.{and_parts, both_ways, cases_Bool, cases_lt, le-leb, leb-true, or_cases}
use Rattle.std.proofs.lemmas.Nat.{mod_below, pow_pos, shr-shr}
use Rattle.std.proofs.lemmas.Nat.Bits.{bit_at_above, same_from_bits_below}
use Rattle.std.proofs.Math.Nat.{pow-le-pow_right}
use Rattle.pci_spec.specs.Number.{has_bit, lowest_one, IsImage}
use Rattle.pci_spec.specs.Bar.{BarKind, IoBar, Memory32, Memory64, Reserved, bar_at, bar_kind, bar_fault, encodings, first_bit, has_bar, is_io, is_lawful, is_run, is_wide, is_within, starts_bar, type_bits, whole_bar}
use Rattle.pci_spec.specs.Decoded.{aligned_range, bar_size}
use Rattle.pci_spec.specs.Machine.{bar_field, without_low}
use Rattle.pci_spec.proofs.BarLaws.{bit_of_run, kind_by}
use Rattle.pci_spec.proofs.Bits.{each_from-at, bit_at-mod, bit_at-without_low, bit_of_false}
use Rattle.pci_spec.proofs.Ranges.{first_bit-of_register, lawful_bar, lawful-lowest_one}
use Rattle.pci_spec.proofs.Ranges as ranges
use Rattle.plan_spec.specs.Planning.Showing.{bar_value}
use Rattle.plan_spec.proofs.Planning.BarFaults.{pair_low, pair_high}
use Rattle.plan_spec.proofs.Planning.BarValues.{run_of}
use Rattle.plan_spec.proofs.Planning.Registers.{number_below}
use Rattle.plan_spec.proofs.Planning.Shows.{aligned_shows}
use Rattle.plan_spec.proofs.Planning.ValueFits.{value_fits}
use Rattle.settle_spec.specs.Items.{highest_of_bar}

-- ---- how far the ones of a read back go

-- the addresses of a kind of BAR, where an I/O BAR may be short
abbrev pub count_of : BarKind → Bool → ℕ
count_of IoBar short = if short then 2 ^ 16 else 2 ^ 32
count_of Memory32 short = 2 ^ 32
count_of Memory64 short = 2 ^ 64
count_of Reserved short = 2 ^ 32

pub record ReachesTop (kind : BarKind) (mask k : ℕ) : Type 0 where
  pub top : ℕ
  pub run : is_run (first_bit kind) mask k top ≡ true
  pub low : first_bit kind ≤ k
  pub wide : top < 64
  pub far : count_of kind (nat_le mask 0xffff) ≤ 2 ^ (top + 1)

-- a read back whose ones end at bit 15 has 16 bits
short_run : (mask k : ℕ) → mask < 2 ^ 32 → is_run 2 mask k 15 ≡ true → mask ≤ 0xffff
short_run mask k small run =
    let low = mod_below mask (2 ^ 16) (pow_pos 16) in
    let same : mask ≡ mask % 2 ^ 16 = same_from_bits_below 32 mask (mask % 2 ^ 16) small (omega (arith, low)) (λ i inside. elim (cases_lt i 16) [
      | inl under ↦ sym (bit_at-mod mask 16 i under)
      | inr over ↦
          let dark : has_bit mask i ≡ false = bit_of_run 2 mask k 15 i run (omega (arith, over)) (omega (arith, inside)) ∙ past i over in
          bit_of_false mask i dark ∙ sym (bit_at_above (mask % 2 ^ 16) 16 i low over)
    ]) in
    omega (arith, same, low)
  where
    past : (i : ℕ) → 16 ≤ i → (nat_le k i && nat_le i 15) ≡ false
    past i over = elim (cases_Bool (nat_le k i && nat_le i 15)) [
      | inr fine ↦ fine
      | inl lit ↦ (let less = leb-true i 15 (and_parts (nat_le k i) (nat_le i 15) lit).1 in let no : ⊥ = omega (arith, less, over) in absurd no)
    ]

io_count : (short : Bool) → count_of IoBar short ≤ 2 ^ 32
io_count true = omega arith
io_count false = omega arith

top_of : (kind : BarKind) (mask k : ℕ) → (kind ≡ IoBar → mask < 2 ^ 32) → is_lawful kind mask k ≡ true → ReachesTop kind mask k
top_of IoBar mask k small h =
    let outer = and_parts (nat_le 2 k && nat_le k 8) (is_run 2 mask k 31 || is_run 2 mask k 15) h in
    let inner = and_parts (nat_le 2 k) (nat_le k 8) outer.0 in
    elim (or_cases (is_run 2 mask k 31) (is_run 2 mask k 15) outer.1) [
      | inl full ↦ record { top = 31; run = full; low = leb-true 2 k inner.0; wide = omega arith; far = io_count (nat_le mask 0xffff) }
      | inr half ↦
          let few : count_of IoBar (nat_le mask 0xffff) ≡ 2 ^ 16 = ap (count_of IoBar) (le-leb mask 0xffff (short_run mask k (small refl) half)) in
          record { top = 15; run = half; low = leb-true 2 k inner.0; wide = omega arith; far = omega (arith, few) }
    ]
top_of Memory32 mask k small h =
    let r = run_of Memory32 mask k h in
    record { top = r.top; run = r.run; low = r.low; wide = r.wide; far = pow-le-pow_right (omega arith) r.far }
top_of Memory64 mask k small h =
    let r = run_of Memory64 mask k h in
    record { top = r.top; run = r.run; low = r.low; wide = r.wide; far = pow-le-pow_right (omega arith) r.far }
top_of Reserved mask k small h = absurd (both_ways false refl h)

-- ---- and the highest address

io_highest : (short : Bool) → (if short then 0xffff else 0xffff_ffff) + 1 ≡ count_of IoBar short
io_highest true = refl
io_highest false = refl

count_by : (io wide narrow : Bool) (m w : ℕ) → (io ≡ true → w ≡ m)
    → (if io then (if nat_le m 0xffff then 0xffff else 0xffff_ffff) else if not io && wide then 0xffff_ffff_ffff_ffff else 0xffff_ffff) + 1 ≡ count_of (kind_by io wide narrow) (nat_le w 0xffff)
count_by true wide narrow m w same = io_highest (nat_le m 0xffff) ∙ ap (λ x. count_of IoBar (nat_le x 0xffff)) (sym (same refl))
count_by false true narrow m w same = refl
count_by false false true m w same = refl
count_by false false false m w same = refl

abbrev highest_if : (io wide short : Bool) → ℕ
highest_if io wide short = if io then (if short then 0xffff else 0xffff_ffff) else if not io && wide then 0xffff_ffff_ffff_ffff else 0xffff_ffff

-- a BAR of 64 bits goes as far as memory does, any other no further than 4 GB
pub highest_by : (m : ℕ) → (is_wide m ≡ true → highest_of_bar m ≡ 0xffff_ffff_ffff_ffff) × (is_wide m ≡ false → highest_of_bar m ≤ 0xffff_ffff)
highest_by m = by (is_io m) (type_bits m == 2) (nat_le m 0xffff)
  where
    by : (io wide short : Bool) → ((not io && wide) ≡ true → highest_if io wide short ≡ 0xffff_ffff_ffff_ffff) × ((not io && wide) ≡ false → highest_if io wide short ≤ 0xffff_ffff)
    by true wide true = (λ is. absurd (both_ways false refl is), λ is. omega arith)
    by true wide false = (λ is. absurd (both_ways false refl is), λ is. omega arith)
    by false true short = (λ is. refl, λ is. absurd (both_ways true is refl))
    by false false short = (λ is. absurd (both_ways false refl is), λ is. omega arith)

-- an I/O BAR goes to FFFFh at least, any other to 4 GB
pub io_high : (m : ℕ) → 0xffff ≤ highest_of_bar m
io_high m = by (is_io m) (type_bits m == 2) (nat_le m 0xffff)
  where
    by : (io wide short : Bool) → 0xffff ≤ highest_if io wide short
    by true wide true = omega arith
    by true wide false = omega arith
    by false true short = omega arith
    by false false short = omega arith

pub memory_high : (m : ℕ) → is_io m ≡ false → 0xffff_ffff ≤ highest_of_bar m
memory_high m = by (is_io m) (type_bits m == 2) (nat_le m 0xffff)
  where
    by : (io wide short : Bool) → io ≡ false → 0xffff_ffff ≤ highest_if io wide short
    by true wide short is = absurd (both_ways true is refl)
    by false true short is = omega arith
    by false false short is = omega arith

-- ---- halves of 32 bits

half_low : (wide : Bool) (lo hi b : ℕ) → b < 32 → bit_at (cond wide (lo + 2 ^ 32 * hi) lo) b ≡ bit_at lo b
half_low true lo hi b low = pair_low lo hi b low
half_low false lo hi b low = refl

-- a value within its read back has no ones where that has none
dark_within : (value mask : ℕ) → is_within 0 value mask ≡ true → (i : ℕ) → i < 64 → has_bit mask i ≡ false → bit_at value i ≡ 0
dark_within value mask h i inside dark =
    let less = leb-true (bit_at value i) (bit_at mask i) (each_from-at 0 64 (λ j. nat_le (bit_at value j) (bit_at mask j)) h i (omega arith) (omega (arith, inside))) in
    let none = bit_of_false mask i dark in
    omega (arith, less, none)

-- the bits of the field of a register that starts a BAR
dark_start : (mask k b : ℕ) → encodings mask ≡ 2 ^ k → has_bit (without_low (encodings mask) mask) b ≡ false → (b < k) ⊎ (has_bit mask b ≡ false)
dark_start mask k b e dark = elim (cases_lt b k) [
  | inl low ↦ inl low
  | inr high ↦ inr (ap (λ x. x == 1) (sym (bit_at-without_low mask k b high)) ∙ sym (ap (λ n. has_bit (without_low n mask) b) e) ∙ dark)
]

-- ---- the number of a BAR

module _ (image probe : List ℕ) (n first : ℕ) (whole : IsImage probe) (there : has_bar probe n ≡ true) (fine : bar_fault image probe n ≡ None)
    (aligned : first % bar_size probe n ≡ 0) (room : first + bar_size probe n ≤ highest_of_bar (bar_at probe n) + 1) where
  abbrev mask : ℕ
  mask = whole_bar probe probe n

  abbrev register : ℕ
  register = bar_at probe n

  abbrev kind : BarKind
  kind = bar_kind register

  abbrev k : ℕ
  k = lowest_one (ranges.first_bit kind) mask

  pub size_is : bar_size probe n ≡ 2 ^ k
  size_is = ap (λ from. 2 ^ lowest_one from mask) (sym (first_bit-of_register register))

  io_whole : is_io register ≡ true → mask ≡ register
  io_whole io = ap (λ t. cond (not t && type_bits register == 2) (register + 2 ^ 32 * bar_at probe (n + 1)) register) io

  io_small : kind ≡ IoBar → mask < 2 ^ 32
  io_small is = elim (cases_Bool (is_io register)) [
    | inl io ↦ (let same = io_whole io in let small = number_below probe (0x10 + 4 * n) whole 4 in omega (arith, same, small))
    | inr memory ↦ absurd (no_io (type_bits register == 2) (type_bits register == 0) (sym (ap (λ t. kind_by t (type_bits register == 2) (type_bits register == 0)) memory) ∙ is))
  ]
    where
      no_io : (wide narrow : Bool) → kind_by false wide narrow ≡ IoBar → ⊥
      no_io true narrow e = cc
      no_io false true e = cc
      no_io false false e = cc

  pub top_here : ReachesTop kind mask k
  top_here = top_of kind mask k io_small (lawful-lowest_one kind mask (lawful_bar image probe n there fine).sized).0

  aligned_here : first % 2 ^ k ≡ 0
  aligned_here = ap (λ size. first % size) (sym size_is) ∙ aligned

  below_top : first < 2 ^ (top_here.top + 1)
  below_top =
      let count : highest_of_bar register + 1 ≡ count_of kind (nat_le mask 0xffff) = count_by (is_io register) (type_bits register == 2) (type_bits register == 0) register mask io_whole in
      let far = top_here.far in
      let s = size_is in
      let pos = pow_pos k in
      omega (arith, room, count, far, s, pos)

  -- it shows the range
  pub bar_shows : aligned_range (bar_value image probe n first) (bar_size probe n) ≡ record { first = first; last = first + (bar_size probe n - 1) }
  bar_shows =
      let r = top_here in
      let e = first_bit kind in
      let small : whole_bar probe image n % 2 ^ e < 2 ^ k = (let m = mod_below (whole_bar probe image n) (2 ^ e) (pow_pos e) in let p : 2 ^ e ≤ 2 ^ k = pow-le-pow_right (omega arith) r.low in omega (arith, m, p)) in
      let s = size_is in
      let pos = pow_pos k in
      aligned_shows first (whole_bar probe image n % 2 ^ e) (bar_size probe n) (omega (arith, s, pos)) aligned (omega (arith, small, s))

  -- and has the old bits where no address bit is
  bar_fits : (b : ℕ) → b < 64 → (b < first_bit kind) ⊎ (has_bit mask b ≡ false) → bit_at (bar_value image probe n first) b ≡ bit_at (whole_bar probe image n) b
  bar_fits b inside dark =
      let r = top_here in
      value_fits mask (whole_bar probe image n) first (first_bit kind) k r.top r.run r.low r.wide aligned_here below_top
      (λ i from to none. dark_within (whole_bar probe image n) mask (lawful_bar image probe n there fine).within i to none) b inside dark

  -- ---- by its registers

  -- the register itself
  pub lower_fits : starts_bar probe n ≡ true → encodings register ≡ 2 ^ first_bit kind → (b : ℕ) → b < 32 → has_bit (bar_field probe n).bits b ≡ false → bit_at (bar_value image probe n first % 2 ^ 32) b ≡ bit_at (bar_at image n) b
  lower_fits starts width b low dark =
      let plain : has_bit (without_low (encodings register) register) b ≡ false = ap (λ t. has_bit (cond t (without_low (encodings register) register) register) b) (sym starts) ∙ dark in
      bit_at-mod (bar_value image probe n first) 32 b low
      ∙ bar_fits b (omega (arith, low))
      (elim (dark_start register (first_bit kind) b width plain) [
        | inl under ↦ inl under
        | inr none ↦ inr (ap (λ x. x == 1) (half_low (is_wide register) register (bar_at probe (n + 1)) b low) ∙ none)
      ])
      ∙ half_low (is_wide register) (bar_at image n) (bar_at image (n + 1)) b low

  -- and its upper half
  pub upper_fits : IsImage image → is_wide register ≡ true → (b : ℕ) → b < 32 → has_bit (bar_field probe (n + 1)).bits b ≡ false → starts_bar probe (n + 1) ≡ false
      → bit_at (bar_value image probe n first / 2 ^ 32) b ≡ bit_at (bar_at image (n + 1)) b
  upper_fits is wide b low dark upper =
      let m = bar_at probe (n + 1) in
      let none : has_bit m b ≡ false = ap (λ t. has_bit (cond t (without_low (encodings m) m) m) b) (sym upper) ∙ dark in
      let gap : 32 + b - 32 ≡ b = omega arith in
      let both = λ (i : List ℕ) (small : bar_at i n < 2 ^ 32).
      ap (λ t. bit_at (cond t (bar_at i n + 2 ^ 32 * bar_at i (n + 1)) (bar_at i n)) (32 + b)) wide
      ∙ pair_high (bar_at i n) (bar_at i (n + 1)) (32 + b) small (omega arith) ∙ ap (λ j. bit_at (bar_at i (n + 1)) j) gap in
      ap (λ x. x % 2) (shr-shr (bar_value image probe n first) 32 b)
      ∙ bar_fits (32 + b) (omega (arith, low))
      (inr (ap (λ x. x == 1) (both probe (number_below probe (0x10 + 4 * n) whole 4)) ∙ none))
      ∙ both image (number_below image (0x10 + 4 * n) is 4)
