-- A read back has one size, and a BAR or ROM answers as many addresses as it says.
use Rattle.std.proofs.Common.{◌≡◌, ◌↔◌, ◌⊎◌, ℕ, suc, ◌+◌, ◌-◌, ◌*◌, ◌/◌, ◌%◌, ◌^◌, ◌<◌, ◌≤◌, inl, inr, List, refl, Bool, true, false, ◌&&◌, ◌||◌, not, arith, sym, ◌∙◌, ap, subst}
use Rattle.std.specs.Prelude.{if◌then◌else◌, ◌==◌}
use Rattle.std.specs.Bool.{nat_le, beq}
use Rattle.std.proofs.lemmas.Bool.{and_parts, and_from, or_cases, or_left, or_right, leb-true, le-leb, cases_lt, both_ways}
use Rattle.std.proofs.lemmas.Nat.{pow_pos, mod_below, pow_below}
use Rattle.std.proofs.lemmas.Nat.Bits.{same_from_bits, bit_at_above}
use Rattle.pci_spec.specs.Number.{has_bit, number_at, IsImage, AgreeFrom}
use Rattle.pci_spec.specs.Bar.{BarKind, IoBar, Memory32, Memory64, Reserved, bar_at, bar_kind, is_io, is_wide, type_bits, starts_bar, whole_bar, is_run, is_lawful}
use Rattle.pci_spec.specs.Rom.{rom_at, is_rom_size}
use Rattle.pci_spec.specs.BarLaws.{BarHasOneSize, RomHasOneSize, MemoryReadBackShowsSize, WideReadBackShowsSize, IoReadBackShowsSize, RomReadBackShowsSize, BarAnswersItsSize, RomAnswersItsSize, bar_bits, BarStaysInSpace, RomStaysInSpace, FirstRegisterStartsBar, UpperHalfStartsNoBar, OtherRegistersStartBars, ReservedTypeHasNoSize}
use Rattle.pci_spec.proofs.Bits.{each_from-at, run_number, run_mask, bit_at-mod, agree-interval, interval-agrees}

-- what a lawful read back has: a run from bit k to the top, k being within bounds
pub record IsRunOf (from low high top mask k : ℕ) : Type 0 where
  pub least : low ≤ k
  pub most : k ≤ high
  pub run : is_run from mask k top ≡ true

run_of : (from low high top mask k : ℕ) → (nat_le low k && nat_le k high && is_run from mask k top) ≡ true → IsRunOf from low high top mask k
run_of from low high top mask k h =
    let outer = and_parts (nat_le low k && nat_le k high) (is_run from mask k top) h in
    let inner = and_parts (nat_le low k) (nat_le k high) outer.0 in
    record { least = leb-true low k inner.0; most = leb-true k high inner.1; run = outer.1 }

of_run : (from low high top mask k : ℕ) → IsRunOf from low high top mask k → (nat_le low k && nat_le k high && is_run from mask k top) ≡ true
of_run from low high top mask k h =
    and_from (nat_le low k && nat_le k high) (is_run from mask k top) (and_from (nat_le low k) (nat_le k high) (le-leb low k h.least) (le-leb k high h.most)) h.run

pub memory_run : (mask k : ℕ) → is_lawful Memory32 mask k ≡ true → IsRunOf 4 4 31 31 mask k
memory_run mask k h = run_of 4 4 31 31 mask k h

pub wide_run : (mask k : ℕ) → is_lawful Memory64 mask k ≡ true → IsRunOf 4 4 63 63 mask k
wide_run mask k h = run_of 4 4 63 63 mask k h

pub rom_run : (mask k : ℕ) → is_rom_size mask k ≡ true → IsRunOf 0 11 24 31 mask k
rom_run mask k h = run_of 0 11 24 31 mask k h

pub io_run : (mask k : ℕ) → is_lawful IoBar mask k ≡ true → IsRunOf 2 2 8 31 mask k ⊎ IsRunOf 2 2 8 15 mask k
io_run mask k h =
    let outer = and_parts (nat_le 2 k && nat_le k 8) (is_run 2 mask k 31 || is_run 2 mask k 15) h in
    elim (or_cases (is_run 2 mask k 31) (is_run 2 mask k 15) outer.1) [
      | inl run ↦ inl (run_of 2 2 8 31 mask k (and_from (nat_le 2 k && nat_le k 8) (is_run 2 mask k 31) outer.0 run))
      | inr run ↦ inr (run_of 2 2 8 15 mask k (and_from (nat_le 2 k && nat_le k 8) (is_run 2 mask k 15) outer.0 run))
    ]

-- ---- one size

beq-true : (x y : Bool) → beq x y ≡ true → x ≡ y
beq-true true true h = refl
beq-true false false h = refl
beq-true true false h = absurd (let no : ⊥ = both_ways false refl h in no)
beq-true false true h = absurd (let no : ⊥ = both_ways false refl h in no)

pub bit_of_run : (from mask k top i : ℕ) → is_run from mask k top ≡ true → from ≤ i → i < 64 → has_bit mask i ≡ (nat_le k i && nat_le i top)
bit_of_run from mask k top i h at near = beq-true _ _ (each_from-at from (64 - from) (λ i. beq (has_bit mask i) (nat_le k i && nat_le i top)) h i at (omega arith))

-- the run that starts at j holds bit j, so no other run of the mask starts above it
starts_below : (from mask j k top end : ℕ) → is_run from mask j top ≡ true → is_run from mask k end ≡ true → from ≤ j → j ≤ top → j < 64 → k ≤ j
starts_below from mask j k top end h g at within near =
    let here = bit_of_run from mask j top j h at near in
    let there = bit_of_run from mask k end j g at near in
    let one : (nat_le j j && nat_le j top) ≡ true = and_from (nat_le j j) (nat_le j top) (le-leb j j (omega arith)) (le-leb j top within) in
    leb-true k j (and_parts (nat_le k j) (nat_le j end) (sym there ∙ here ∙ one)).0

one_start : (from low high top end mask j k : ℕ) → from ≤ low → high ≤ top → high ≤ end → high < 64 → IsRunOf from low high top mask j → IsRunOf from low high end mask k → j ≡ k
one_start from low high top end mask j k at under above near h g =
    let a = starts_below from mask j k top end h.run g.run (omega (arith, h.least)) (omega (arith, h.most)) (omega (arith, h.most)) in
    let b = starts_below from mask k j end top g.run h.run (omega (arith, g.least)) (omega (arith, g.most)) (omega (arith, g.most)) in
    omega arith

pub bar_has_one_size : BarHasOneSize
bar_has_one_size IoBar mask j k h g = elim (io_run mask j h) [
  | inl a ↦ elim (io_run mask k g) [
    | inl b ↦ one_start 2 2 8 31 31 mask j k (omega arith) (omega arith) (omega arith) (omega arith) a b
    | inr b ↦ one_start 2 2 8 31 15 mask j k (omega arith) (omega arith) (omega arith) (omega arith) a b
  ]
  | inr a ↦ elim (io_run mask k g) [
    | inl b ↦ one_start 2 2 8 15 31 mask j k (omega arith) (omega arith) (omega arith) (omega arith) a b
    | inr b ↦ one_start 2 2 8 15 15 mask j k (omega arith) (omega arith) (omega arith) (omega arith) a b
  ]
]
bar_has_one_size Memory32 mask j k h g = one_start 4 4 31 31 31 mask j k (omega arith) (omega arith) (omega arith) (omega arith) (memory_run mask j h) (memory_run mask k g)
bar_has_one_size Memory64 mask j k h g = one_start 4 4 63 63 63 mask j k (omega arith) (omega arith) (omega arith) (omega arith) (wide_run mask j h) (wide_run mask k g)
bar_has_one_size Reserved mask j k h g = absurd (let no : ⊥ = both_ways false refl h in no)

pub rom_has_one_size : RomHasOneSize
rom_has_one_size mask j k h g = one_start 0 11 24 31 31 mask j k (omega arith) (omega arith) (omega arith) (omega arith) (rom_run mask j h) (rom_run mask k g)

-- ---- the size

both_directions : {A B : Type 0} → (A → B) → (B → A) → A ↔ B
both_directions f g = (f, g)

-- a number and its complement
sum_of_difference : (n a b : ℕ) → b ≤ a → n ≡ a - b → n + b ≡ a
sum_of_difference n a b h e = omega arith

difference_of_sum : (n a b : ℕ) → n + b ≡ a → n ≡ a - b
difference_of_sum n a b e = omega arith

size_of_run : (from low high top mask k : ℕ) → from ≤ low → high ≤ top → top < 64 → mask < 2 ^ 64 → IsRunOf from low high top mask k → mask / 2 ^ from * 2 ^ from + 2 ^ k ≡ 2 ^ (top + 1)
size_of_run from low high top mask k at within near small h =
    let below : 2 ^ k < 2 ^ (top + 1) = pow_below k (top + 1) (omega (arith, h.most)) in
    sum_of_difference (mask / 2 ^ from * 2 ^ from) (2 ^ (top + 1)) (2 ^ k) (omega (arith, below))
    (run_number from mask k top small (omega (arith, h.least)) (omega (arith, h.most)) near h.run)

run_of_size : (from low high top mask k : ℕ) → from ≤ low → low ≤ k → k ≤ high → from ≤ 64 → mask / 2 ^ from * 2 ^ from + 2 ^ k ≡ 2 ^ (top + 1) → IsRunOf from low high top mask k
run_of_size from low high top mask k at least most fits e = record {
  least = least;
  most = most;
  run = run_mask from mask k top (omega arith) fits (difference_of_sum (mask / 2 ^ from * 2 ^ from) (2 ^ (top + 1)) (2 ^ k) e);
}

pub memory_read_back_shows_size : MemoryReadBackShowsSize
memory_read_back_shows_size mask k small = (
  (λ h. let run = memory_run mask k h in (run.least, run.most, size_of_run 4 4 31 31 mask k (omega arith) (omega arith) (omega arith) (omega arith) run)),
  (λ e. of_run 4 4 31 31 mask k (run_of_size 4 4 31 31 mask k (omega arith) e.0 e.1 (omega arith) e.2)),
)

pub wide_read_back_shows_size : WideReadBackShowsSize
wide_read_back_shows_size mask k small = (
  (λ h. let run = wide_run mask k h in (run.least, run.most, size_of_run 4 4 63 63 mask k (omega arith) (omega arith) (omega arith) small run)),
  (λ e. of_run 4 4 63 63 mask k (run_of_size 4 4 63 63 mask k (omega arith) e.0 e.1 (omega arith) e.2)),
)

pub rom_read_back_shows_size : RomReadBackShowsSize
rom_read_back_shows_size mask k small =
    let whole : mask / 2 ^ 0 * 2 ^ 0 ≡ mask = omega arith in (
      (λ h. let run = rom_run mask k h in
          (run.least, run.most, ap (λ x. x + 2 ^ k) (sym whole) ∙ size_of_run 0 11 24 31 mask k (omega arith) (omega arith) (omega arith) (omega arith) run)),
      (λ e. of_run 0 11 24 31 mask k (run_of_size 0 11 24 31 mask k (omega arith) e.0 e.1 (omega arith) (ap (λ x. x + 2 ^ k) whole ∙ e.2))),
    )

io_lawful : (mask k : ℕ) → 2 ≤ k → k ≤ 8 → (is_run 2 mask k 31 || is_run 2 mask k 15) ≡ true → is_lawful IoBar mask k ≡ true
io_lawful mask k least most run = and_from (nat_le 2 k && nat_le k 8) (is_run 2 mask k 31 || is_run 2 mask k 15) (and_from (nat_le 2 k) (nat_le k 8) (le-leb 2 k least) (le-leb k 8 most)) run

pub io_read_back_shows_size : IoReadBackShowsSize
io_read_back_shows_size mask k small = (
  (λ h. elim (io_run mask k h) [
    | inl run ↦ (run.least, run.most, inl (size_of_run 2 2 8 31 mask k (omega arith) (omega arith) (omega arith) (omega arith) run))
    | inr run ↦ (run.least, run.most, inr (size_of_run 2 2 8 15 mask k (omega arith) (omega arith) (omega arith) (omega arith) run))
  ]),
  (λ e. elim e.2 [
    | inl whole ↦ io_lawful mask k e.0 e.1 (or_left (is_run 2 mask k 31) (is_run 2 mask k 15) (run_of_size 2 2 8 31 mask k (omega arith) e.0 e.1 (omega arith) whole).run)
    | inr half ↦ io_lawful mask k e.0 e.1 (or_right (is_run 2 mask k 31) (is_run 2 mask k 15) (run_of_size 2 2 8 15 mask k (omega arith) e.0 e.1 (omega arith) half).run)
  ]),
)

pub reserved_type_has_no_size : ReservedTypeHasNoSize
reserved_type_has_no_size mask k = refl

-- ---- what is answered

pub bar_answers_its_size : BarAnswersItsSize
bar_answers_its_size kind value mask k a lawful = (
  λ h. agree-interval k a value (subst (λ j. AgreeFrom j a value) (bar_has_one_size kind mask h.0 k h.1 lawful) h.2),
  λ h. (k, lawful, interval-agrees k a value h.0 h.1),
)

pub rom_answers_its_size : RomAnswersItsSize
rom_answers_its_size image probe k a lawful = (
  λ h. agree-interval k a (rom_at image image) (subst (λ j. AgreeFrom j a (rom_at image image)) (rom_has_one_size (rom_at image probe) h.0 k h.1 lawful) h.2),
  λ h. (k, lawful, interval-agrees k a (rom_at image image) h.0 h.1),
)

-- a number that agrees with one of so many bits from one of them upward has as many
agree_small : (width k a value : ℕ) → k ≤ width → value < 2 ^ width → AgreeFrom k a value → a < 2 ^ width
agree_small width k a value within small agree =
    let e : a ≡ a % 2 ^ width = same_from_bits a (a % 2 ^ width) (λ i. elim (cases_lt i width) [
      | inl below ↦ sym (bit_at-mod a width i below)
      | inr above ↦ agree i (omega arith) ∙ bit_at_above value width i small above ∙ sym (bit_at_above (a % 2 ^ width) width i (mod_below a (2 ^ width) (pow_pos width)) above)
    ]) in
    let m = mod_below a (2 ^ width) (pow_pos width) in
    omega (arith, e, m)

pub number_at-small : (image : List ℕ) (offset : ℕ) → IsImage image → number_at image offset 4 < 2 ^ 32
number_at-small image offset h =
    let a = h.bytes (offset + 0) in
    let b = h.bytes (offset + 1) in
    let c = h.bytes (offset + 2) in
    let d = h.bytes (offset + 3) in
    omega (arith, a, b, c, d)

most_of : (kind : BarKind) (mask k : ℕ) → is_lawful kind mask k ≡ true → k ≤ bar_bits kind
most_of IoBar mask k h = elim (io_run mask k h) [ inl run ↦ omega (arith, run.most) | inr run ↦ omega (arith, run.most) ]
most_of Memory32 mask k h = omega (arith, (memory_run mask k h).most)
most_of Memory64 mask k h = omega (arith, (wide_run mask k h).most)
most_of Reserved mask k h = absurd (let no : ⊥ = both_ways false refl h in no)

-- the kind by the three tests on a register
abbrev pub kind_by : Bool → Bool → Bool → BarKind
kind_by io wide narrow = if io then IoBar else if wide then Memory64 else if narrow then Memory32 else Reserved

value_fits : (io wide narrow : Bool) (low high : ℕ) → low < 2 ^ 32 → high < 2 ^ 32
    → (if not io && wide then low + 2 ^ 32 * high else low) < 2 ^ bar_bits (kind_by io wide narrow)
value_fits true wide narrow low high h g = omega arith
value_fits false true narrow low high h g = omega arith
value_fits false false true low high h g = omega arith
value_fits false false false low high h g = omega arith

pub bar_stays_in_space : BarStaysInSpace
bar_stays_in_space image probe n a h decodes =
    let register = bar_at probe n in
    let answer = decodes.1 in
    agree_small (bar_bits (bar_kind register)) answer.0 a (whole_bar probe image n)
    (most_of (bar_kind register) (whole_bar probe probe n) answer.0 answer.1)
    (value_fits (is_io register) (type_bits register == 2) (type_bits register == 0) (bar_at image n) (bar_at image (n + 1)) (number_at-small image (0x10 + 4 * n) h) (number_at-small image (0x10 + 4 * (n + 1)) h))
    answer.2

pub rom_stays_in_space : RomStaysInSpace
rom_stays_in_space image probe a h decodes =
    let most = (rom_run (rom_at image probe) decodes.0 decodes.1).most in
    agree_small 32 decodes.0 a (rom_at image image) (omega (arith, most)) (number_at-small image _ h) decodes.2

-- ---- which registers start BARs

next_register : (n : ℕ) → n + 1 ≡ suc n
next_register n = omega arith

pub upper_half_starts_no_bar : UpperHalfStartsNoBar
upper_half_starts_no_bar probe n starts wide =
    let both : (starts_bar probe n && is_wide (bar_at probe n)) ≡ true = and_from (starts_bar probe n) (is_wide (bar_at probe n)) starts wide in
    ap (starts_bar probe) (next_register n) ∙ ap not both

pub other_registers_start_bars : OtherRegistersStartBars
other_registers_start_bars probe n other = ap (starts_bar probe) (next_register n) ∙ ap not other

pub first_register_starts_bar : FirstRegisterStartsBar
first_register_starts_bar probe = refl
