-- What registers decode to is what their comparators answer.
use Rattle.std.proofs.Common.{◌≡◌, ◌≢◌, ◌↔◌, ℕ, zero, suc, ◌+◌, ◌-◌, ◌*◌, ◌/◌, ◌%◌, ◌^◌, ◌<◌, ◌≤◌, refl, Bool, true, false, not, ◌&&◌, inl, inr, arith, sym, ◌∙◌, ap, subst, lit<, lit≤, List, Option, Some, None, if◌then◌else◌}
use Rattle.std.specs.Prelude.{IsTrue, IsFalse, MatchOption}
use Rattle.std.specs.Bool.{beq, nat_le, nat_eq, ◌==◌}
use Rattle.std.specs.List.{find, range_with_len}
use Rattle.std.proofs.Math.Dec.{eqb}
use Rattle.std.proofs.lemmas.Bool.{and_parts, and_from, and_left, or_cases, le-leb, leb-true, leb-false, cases_lt, cases_Bool, both_ways, eqb-true, eqb-false, ne_eqb, not-true, not-false, not_from_false, false_from_ne_true}
use Rattle.std.proofs.lemmas.Nat.{pow_pos, pow_below, pow-add, shr_below, mul-le, mod_below, le-div, div_below, div-add-mod'}
use Rattle.pci_spec.specs.Number.{number_at, has_bit, lowest_one, some_from, AgreeFrom, IsImage}
use Rattle.pci_spec.specs.Header.{bar_count, layout, bar_register, rom_register}
use Rattle.pci_spec.specs.Bar.{BarKind, IoBar, Memory32, Memory64, Reserved, BarFault, BarMask, BarType, BarPair, bar_at, bar_kind, is_io, is_wide, type_bits, starts_bar, whole_bar, is_run, is_lawful, has_lawful_size, is_within, encodings, BarReading, bar_reading, first_broken, bar_fault, Answers, BarDecodes, has_bar}
use Rattle.pci_spec.specs.Rom.{rom_at, has_rom, is_rom_size, breaks_rom_rule, RomDecodes}
use Rattle.pci_spec.specs.Window.{WindowKind, IoWindow, MemoryWindow, PrefetchWindow, has_window, base_page, limit_page, page_size, holds}
use Rattle.pci_spec.specs.Decoded.{InRange, aligned_range, bar_size, decoded_bar, rom_size, window_range}
use Rattle.pci_spec.proofs.Absent.{not_lawful, no_rom}
use Rattle.pci_spec.proofs.Bits.{each_from-at, some_from-at, some_from-gives, agree-interval, interval-agrees}

-- ---- the lowest one of a run

-- the first of some numbers in a row that passes a test
find_first : (test : ℕ → Bool) (low count k : ℕ) → low ≤ k → k < low + count
    → ((i : ℕ) → low ≤ i → i < k → test i ≡ false) → test k ≡ true → find test (range_with_len low count) ≡ Some k
find_first test low zero k at_least below none here = absurd (let no : ⊥ = omega arith in no)
find_first test low (suc count) k at_least below none here = elim (cases_lt low k) [
  | inl above ↦
      let off = none low (omega arith) above in
      rw off (find_first test (low + 1) count k (omega arith) (omega arith) (λ i from to. none i (omega arith) to) here)
  | inr same ↦
      let e : k ≡ low = omega arith in
      let on : test low ≡ true = subst (λ j. test j ≡ true) e here in
      rw on (ap Some (sym e))
]

-- tests that are found equal are equal
same_test : (x y : Bool) → beq x y ≡ true → x ≡ y
same_test true true h = refl
same_test false false h = refl
same_test true false h = absurd (let no : ⊥ = both_ways false refl h in no)
same_test false true h = absurd (let no : ⊥ = both_ways false refl h in no)

-- the bits of a mask that has a run of ones
in_run_bit : (from mask k top i : ℕ) → is_run from mask k top ≡ true → from ≤ i → i < 64 → has_bit mask i ≡ (nat_le k i && nat_le i top)
in_run_bit from mask k top i run at near =
    same_test _ _ (each_from-at from (64 - from) (λ i. beq (has_bit mask i) (nat_le k i && nat_le i top)) run i at (omega arith))

-- a run of ones starts at its lowest one
pub lowest_one-of_run : (from mask k top : ℕ) → from ≤ k → k ≤ top → top < 64 → is_run from mask k top ≡ true → lowest_one from mask ≡ k
lowest_one-of_run from mask k top low high near run =
    let found = find_first (has_bit mask) from (64 - from) k low (omega arith)
    (λ i at below. in_run_bit from mask k top i run at (omega arith)
    ∙ false_from_ne_true _ (λ t. let p = leb-true k i (and_parts (nat_le k i) (nat_le i top) t).0 in omega (arith, p, below)))
    (in_run_bit from mask k top k run low (omega arith) ∙ and_from (nat_le k k) (nat_le k top) (le-leb k k (omega arith)) (le-leb k top high)) in
    rw found refl

-- ---- the interval of a comparator, for every width and top

-- an address lies in the range of a size just where its bits from that size upward are those of the value
pub in_aligned_range : (value k a : ℕ) → InRange (aligned_range value (2 ^ k)) a ↔ AgreeFrom k a value
in_aligned_range value k a = (
  (λ inside. interval-agrees k a value inside.0 inside.1),
  (λ agree. agree-interval k a value agree),
)

-- such a range has a first and a last address
pub aligned_range-order : (value k : ℕ) → (aligned_range value (2 ^ k)).first ≤ (aligned_range value (2 ^ k)).last
aligned_range-order value k = omega arith

-- and it ends where the value's width does
pub aligned_range-fits : (value k width : ℕ) → k ≤ width → value < 2 ^ width → (aligned_range value (2 ^ k)).last < 2 ^ width
aligned_range-fits value k width within fits =
    let e : width - k + k ≡ width = omega arith in
    let whole : 2 ^ (width - k) * 2 ^ k ≡ 2 ^ width = sym (pow-add 2 (width - k) k) ∙ ap (λ j. 2 ^ j) e in
    let below : value / 2 ^ k < 2 ^ (width - k) = shr_below value (width - k) k (subst (λ j. value < 2 ^ j) (sym e) fits) in
    let product = mul-le (value / 2 ^ k + 1) (2 ^ k) (2 ^ (width - k)) (2 ^ k) (omega (arith, below)) (omega arith) in
    let positive = pow_pos k in
    omega (arith, product, whole, positive)

-- ---- sizes

-- the lowest bit of a BAR that isn't encoding
abbrev pub first_bit : BarKind → ℕ
first_bit IoBar = 2
first_bit Memory32 = 4
first_bit Memory64 = 4
first_bit Reserved = 4

-- the bits of an address of a kind of BAR
abbrev pub width_of : BarKind → ℕ
width_of IoBar = 32
width_of Memory32 = 32
width_of Memory64 = 64
width_of Reserved = 32

-- a lawful mask has its lowest one at its size's place
pub lowest_one-of_lawful : (kind : BarKind) (mask k : ℕ) → is_lawful kind mask k ≡ true → (lowest_one (first_bit kind) mask ≡ k) × (k ≤ width_of kind)
lowest_one-of_lawful IoBar mask k h =
    let outer = and_parts (nat_le 2 k && nat_le k 8) _ h in
    let inner = and_parts (nat_le 2 k) (nat_le k 8) outer.0 in
    let low = leb-true 2 k inner.0 in
    let high = leb-true k 8 inner.1 in (
      elim (or_cases (is_run 2 mask k 31) (is_run 2 mask k 15) outer.1) [
        | inl run ↦ lowest_one-of_run 2 mask k 31 low (omega (arith, high)) (lit< tt) run
        | inr run ↦ lowest_one-of_run 2 mask k 15 low (omega (arith, high)) (lit< tt) run
      ],
      omega (arith, high),
    )
lowest_one-of_lawful Memory32 mask k h =
    let outer = and_parts (nat_le 4 k && nat_le k 31) (is_run 4 mask k 31) h in
    let inner = and_parts (nat_le 4 k) (nat_le k 31) outer.0 in
    let high = leb-true k 31 inner.1 in
    (lowest_one-of_run 4 mask k 31 (leb-true 4 k inner.0) high (lit< tt) outer.1, omega (arith, high))
lowest_one-of_lawful Memory64 mask k h =
    let outer = and_parts (nat_le 4 k && nat_le k 63) (is_run 4 mask k 63) h in
    let inner = and_parts (nat_le 4 k) (nat_le k 63) outer.0 in
    let high = leb-true k 63 inner.1 in
    (lowest_one-of_run 4 mask k 63 (leb-true 4 k inner.0) high (lit< tt) outer.1, omega (arith, high))
lowest_one-of_lawful Reserved mask k h = absurd (let no : ⊥ = both_ways false refl h in no)

-- a mask that is lawful at some place is of a lawful size
pub has_lawful_size-of_lawful : (kind : BarKind) (mask k : ℕ) → is_lawful kind mask k ≡ true → has_lawful_size kind mask ≡ true
has_lawful_size-of_lawful IoBar mask k h =
    let inner = and_parts (nat_le 2 k) (nat_le k 8) (and_parts (nat_le 2 k && nat_le k 8) _ h).0 in
    let high = leb-true k 8 inner.1 in
    some_from-at 0 64 (is_lawful IoBar mask) k (omega arith) (omega (arith, high)) h
has_lawful_size-of_lawful Memory32 mask k h =
    let inner = and_parts (nat_le 4 k) (nat_le k 31) (and_parts (nat_le 4 k && nat_le k 31) _ h).0 in
    let high = leb-true k 31 inner.1 in
    some_from-at 0 64 (is_lawful Memory32 mask) k (omega arith) (omega (arith, high)) h
has_lawful_size-of_lawful Memory64 mask k h =
    let inner = and_parts (nat_le 4 k) (nat_le k 63) (and_parts (nat_le 4 k && nat_le k 63) _ h).0 in
    let high = leb-true k 63 inner.1 in
    some_from-at 0 64 (is_lawful Memory64 mask) k (omega arith) (omega (arith, high)) h
has_lawful_size-of_lawful Reserved mask k h = absurd (let no : ⊥ = both_ways false refl h in no)

-- a mask of a lawful size is lawful at its lowest one
pub lawful-lowest_one : (kind : BarKind) (mask : ℕ) → has_lawful_size kind mask ≡ true
    → (is_lawful kind mask (lowest_one (first_bit kind) mask) ≡ true) × (lowest_one (first_bit kind) mask ≤ width_of kind)
lawful-lowest_one kind mask h =
    let found = some_from-gives 0 64 (is_lawful kind mask) h in
    let is = lowest_one-of_lawful kind mask found.0 found.3 in
    (subst (λ k. is_lawful kind mask k ≡ true) (sym is.0) found.3, omega (arith, is.0, is.1))

-- what a comparator answers is the range of its lawful mask
pub answers_range : (kind : BarKind) (value mask a : ℕ) → has_lawful_size kind mask ≡ true
    → InRange (aligned_range value (2 ^ lowest_one (first_bit kind) mask)) a ↔ Answers kind value mask a
answers_range kind value mask a h =
    let at = lawful-lowest_one kind mask h in
    let range = in_aligned_range value (lowest_one (first_bit kind) mask) a in (
      (λ inside. (lowest_one (first_bit kind) mask, at.0, range.0 inside)),
      (λ (k, lawful, agree).
          let is = lowest_one-of_lawful kind mask k lawful in
          range.1 (subst (λ j. AgreeFrom j a value) (sym is.0) agree)),
    )

-- ---- a BAR whose registers break no rule

-- a rule that is looked for first isn't broken where nothing is found
none_past : (test : Bool) (fault : BarFault) (rest : Option BarFault) → (if test then Some fault else rest) ≡ None → (test ≡ false) × (rest ≡ None)
none_past true fault rest h = cc
none_past false fault rest h = (refl, h)

-- what an implemented BAR's registers keep where none of the rules is broken
pub record ObeysRules (bar : BarReading) : Type 0 where
  pub encoding : bar.value % encodings bar.mask ≡ bar.mask % encodings bar.mask
  pub io : (is_io bar.mask && has_bit bar.mask 1) ≡ false
  pub memory : (not (is_io bar.mask) && has_bit bar.mask 1) ≡ false
  pub pair : (is_wide bar.mask && bar.last) ≡ false
  pub sized : has_lawful_size (bar_kind bar.mask) bar.whole_mask ≡ true
  pub within : is_within 0 bar.whole_value bar.whole_mask ≡ true

-- a BAR that isn't there shows 0
pub absent_shows_0 : (bar : BarReading) → (bar.mask == 0) ≡ true → first_broken bar ≡ None → bar.value ≡ 0
absent_shows_0 bar no_ones none = elim (cases_Bool (bar.value == 0)) [
  | inl zeros ↦ eqb-true bar.value 0 zeros
  | inr ones ↦ let broken = rw (no_ones, ones) at none in cc
]

-- where nothing is found, all rules are kept
pub obeys_rules : (bar : BarReading) → bar.mask ≢ 0 → first_broken bar ≡ None → ObeysRules bar
obeys_rules bar nonzero h =
    let z : nat_eq bar.mask 0 ≡ false = ne_eqb bar.mask 0 nonzero in
    let r1 = rw z at h in
    let s1 = none_past _ BarMask _ r1 in
    let s2 = none_past (is_io bar.mask && has_bit bar.mask 1) BarMask _ s1.1 in
    let s3 = none_past (not (is_io bar.mask) && has_bit bar.mask 1) BarType _ s2.1 in
    let s4 = none_past (is_wide bar.mask && bar.last) BarPair _ s3.1 in
    let s5 = none_past (not (has_lawful_size (bar_kind bar.mask) bar.whole_mask)) BarMask _ s4.1 in
    let s6 = none_past (not (is_within 0 bar.whole_value bar.whole_mask)) BarMask None s5.1 in
    record {
      encoding = eqb-true _ _ (not-false _ s1.0);
      io = s2.0;
      memory = s3.0;
      pair = s4.0;
      sized = not-false _ s5.0;
      within = not-false _ s6.0;
    }

-- the lowest bit of a kind is that of its register's encoding
pub first_bit-of_register : (mask : ℕ) → first_bit (bar_kind mask) ≡ (if is_io mask then 2 else 4)
first_bit-of_register mask = elim (cases_Bool (is_io mask)) [
  | inl io ↦ rw io refl
  | inr memory ↦ elim (cases_Bool (nat_eq (type_bits mask) 2)) [
    | inl wide ↦ rw (memory, wide) refl
    | inr other ↦ elim (cases_Bool (nat_eq (type_bits mask) 0)) [
      | inl narrow ↦ rw (memory, other, narrow) refl
      | inr reserved ↦ rw (memory, other, reserved) refl
    ]
  ]
]

-- an implemented BAR starts at its register, which has ones
bar_mask-nonzero : (probe : List ℕ) (n : ℕ) → has_bar probe n ≡ true → (starts_bar probe n ≡ true) × (bar_at probe n ≢ 0)
bar_mask-nonzero probe n h =
    let parts = and_parts (starts_bar probe n) _ h in
    (parts.0, eqb-false _ 0 (not-true _ parts.1))

-- the registers of an implemented BAR that has no fault keep the rules
pub lawful_bar : (image probe : List ℕ) (n : ℕ) → IsTrue (has_bar probe n) → bar_fault image probe n ≡ None
    → ObeysRules (bar_reading (n + 1 == bar_count (layout image)) image probe n)
lawful_bar image probe n there none =
    let some = bar_mask-nonzero probe n there in
    obeys_rules (bar_reading (n + 1 == bar_count (layout image)) image probe n) some.1 (rw some.0 at none)

-- the range of an implemented BAR that has no fault is what its comparator answers
pub decoded_bar-decodes : (image probe : List ℕ) (n : ℕ) → IsTrue (has_bar probe n) → bar_fault image probe n ≡ None
    → (a : ℕ) → InRange (decoded_bar image probe n).range a ↔ BarDecodes image probe n a
decoded_bar-decodes image probe n there none a =
    let some = bar_mask-nonzero probe n there in
    let rules = lawful_bar image probe n there none in
    let mask = bar_at probe n in
    let e : first_bit (bar_kind mask) ≡ (if is_io mask then 2 else 4) = first_bit-of_register mask in
    let answers = answers_range (bar_kind mask) (whole_bar probe image n) (whole_bar probe probe n) a rules.sized in
    let answers' : InRange (aligned_range (whole_bar probe image n) (bar_size probe n)) a ↔ Answers (bar_kind mask) (whole_bar probe image n) (whole_bar probe probe n) a =
    subst (λ from. InRange (aligned_range (whole_bar probe image n) (2 ^ lowest_one from (whole_bar probe probe n))) a ↔ Answers (bar_kind mask) (whole_bar probe image n) (whole_bar probe probe n) a) e answers in
    ((λ inside. (some.0, answers'.0 inside)), (λ decodes. answers'.1 decodes.1))

-- a register that reads back 0 answers nothing
pub unimplemented_bar : (image probe : List ℕ) (n a : ℕ) → bar_at probe n ≡ 0 → BarDecodes image probe n a → ⊥
unimplemented_bar image probe n a no_ones decodes =
    let kind : bar_kind (bar_at probe n) ≡ Memory32 = ap bar_kind no_ones in
    let narrow : is_wide (bar_at probe n) ≡ false = ap is_wide no_ones in
    let mask : whole_bar probe probe n ≡ 0 = rw narrow no_ones in
    let lawful : is_lawful (bar_kind (bar_at probe n)) (whole_bar probe probe n) decodes.1.0 ≡ true = decodes.1.1 in
    not_lawful Memory32 decodes.1.0 (rw (kind, mask) at lawful)

-- a register that answers an address is an implemented BAR
pub has_bar-of_decodes : (image probe : List ℕ) (n a : ℕ) → BarDecodes image probe n a → has_bar probe n ≡ true
has_bar-of_decodes image probe n a decodes =
    and_from (starts_bar probe n) _ decodes.0 (not_from_false _ (ne_eqb _ 0 (λ no_ones. unimplemented_bar image probe n a no_ones decodes)))

-- ---- how far ranges go

-- two bytes make a number of 16 bits
pub number_at-fits_2 : (image : List ℕ) (offset : ℕ) → IsImage image → number_at image offset 2 < 2 ^ 16
number_at-fits_2 image offset is =
    let a = is.bytes (offset + 0) in
    let b = is.bytes (offset + 1) in
    omega (arith, a, b)

-- four bytes make a number of 32 bits
pub number_at-fits_4 : (image : List ℕ) (offset : ℕ) → IsImage image → number_at image offset 4 < 2 ^ 32
number_at-fits_4 image offset is =
    let a = is.bytes (offset + 0) in
    let b = is.bytes (offset + 1) in
    let c = is.bytes (offset + 2) in
    let d = is.bytes (offset + 3) in
    omega (arith, a, b, c, d)

-- a register of 64 bits is of the kind that has 64
width-of_wide : (mask : ℕ) → is_wide mask ≡ true → width_of (bar_kind mask) ≡ 64
width-of_wide mask h =
    let parts = and_parts (not (is_io mask)) _ h in
    let memory = not-true _ parts.0 in
    rw (memory, parts.1) refl

-- addresses have 32 bits at least
least_width : (kind : BarKind) → 32 ≤ width_of kind
least_width IoBar = lit≤ tt
least_width Memory32 = lit≤ tt
least_width Memory64 = lit≤ tt
least_width Reserved = lit≤ tt

-- powers of two rise
pow_within : (j k : ℕ) → j ≤ k → 2 ^ j ≤ 2 ^ k
pow_within j k h = elim (cases_lt j k) [
  | inl below ↦ let less = pow_below j k below in omega (arith, less)
  | inr at ↦ let e : j ≡ k = omega arith in subst (λ i. 2 ^ j ≤ 2 ^ i) e (omega arith)
]

-- what a BAR shows has the bits of its kind
pub whole_bar-fits : (probe image : List ℕ) (n : ℕ) → IsImage image → whole_bar probe image n < 2 ^ width_of (bar_kind (bar_at probe n))
whole_bar-fits probe image n is = elim (cases_Bool (is_wide (bar_at probe n))) [
  | inl wide ↦
      let low = number_at-fits_4 image (bar_register n) is in
      let high = number_at-fits_4 image (bar_register (n + 1)) is in
      let e = width-of_wide (bar_at probe n) wide in
      rw (e, wide) (omega (arith, low, high))
  | inr narrow ↦
      let low = number_at-fits_4 image (bar_register n) is in
      let width = pow_within 32 (width_of (bar_kind (bar_at probe n))) (least_width (bar_kind (bar_at probe n))) in
      rw narrow (omega (arith, low, width))
]

-- the range of an implemented BAR that has no fault has a first and a last address, with the bits of its kind
pub decoded_bar-order : (image probe : List ℕ) (n : ℕ) → (decoded_bar image probe n).range.first ≤ (decoded_bar image probe n).range.last
decoded_bar-order image probe n = aligned_range-order (whole_bar probe image n) _

-- the last address of a BAR has the bits of its kind
pub decoded_bar-fits : (image probe : List ℕ) (n : ℕ) → IsImage image → IsTrue (has_bar probe n) → bar_fault image probe n ≡ None
    → (decoded_bar image probe n).range.last < 2 ^ width_of (decoded_bar image probe n).kind
decoded_bar-fits image probe n is there none =
    let rules = lawful_bar image probe n there none in
    let e : first_bit (bar_kind (bar_at probe n)) ≡ (if is_io (bar_at probe n) then 2 else 4) = first_bit-of_register (bar_at probe n) in
    let at = (lawful-lowest_one (bar_kind (bar_at probe n)) (whole_bar probe probe n) rules.sized).1 in
    let at' : lowest_one (if is_io (bar_at probe n) then 2 else 4) (whole_bar probe probe n) ≤ width_of (bar_kind (bar_at probe n)) =
    subst (λ from. lowest_one from (whole_bar probe probe n) ≤ width_of (bar_kind (bar_at probe n))) e at in
    aligned_range-fits (whole_bar probe image n) _ (width_of (bar_kind (bar_at probe n))) at' (whole_bar-fits probe image n is)

-- ---- the ROM

-- a ROM has its size at its lowest one
rom_size-at : (mask k : ℕ) → is_rom_size mask k ≡ true → (lowest_one 0 mask ≡ k) × (k ≤ 24)
rom_size-at mask k h =
    let outer = and_parts (nat_le 11 k && nat_le k 24) (is_run 0 mask k 31) h in
    let inner = and_parts (nat_le 11 k) (nat_le k 24) outer.0 in
    let high = leb-true k 24 inner.1 in
    (lowest_one-of_run 0 mask k 31 (omega arith) (omega (arith, high)) (lit< tt) outer.1, high)

-- the read back and value of a ROM that is there and breaks no rule
pub lawful_rom : (image probe : List ℕ) → IsTrue (has_rom image probe) → IsFalse (breaks_rom_rule image probe)
    → (is_rom_size (rom_at image probe) (lowest_one 0 (rom_at image probe)) ≡ true) × (lowest_one 0 (rom_at image probe) ≤ 24) × (is_within 1 (rom_at image image) (rom_at image probe) ≡ true)
lawful_rom image probe there none =
    let kept = and_parts (some_from 0 64 (is_rom_size (rom_at image probe))) _ (not-false _ (rw there at none)) in
    let found = some_from-gives 0 64 (is_rom_size (rom_at image probe)) kept.0 in
    let is = rom_size-at (rom_at image probe) found.0 found.3 in
    (subst (λ k. is_rom_size (rom_at image probe) k ≡ true) (sym is.0) found.3, omega (arith, is.0, is.1), kept.1)

-- the range of a ROM that has no fault is what its comparator answers
pub rom_range-decodes : (image probe : List ℕ) → IsTrue (has_rom image probe) → IsFalse (breaks_rom_rule image probe)
    → (a : ℕ) → InRange (aligned_range (rom_at image image) (rom_size image probe)) a ↔ RomDecodes image probe a
rom_range-decodes image probe there none a =
    let at = lawful_rom image probe there none in
    let range = in_aligned_range (rom_at image image) (lowest_one 0 (rom_at image probe)) a in (
      (λ inside. (lowest_one 0 (rom_at image probe), at.0, range.0 inside)),
      (λ (k, lawful, agree).
          let is = rom_size-at (rom_at image probe) k lawful in
          range.1 (subst (λ j. AgreeFrom j a (rom_at image image)) (sym is.0) agree)),
    )

-- where there is no ROM, nothing answers
pub absent_rom : (image probe : List ℕ) (a : ℕ) → has_rom image probe ≡ false → RomDecodes image probe a → ⊥
absent_rom image probe a absent decodes =
    let both = and_parts _ _ (not-false _ absent) in
    let no_ones : rom_at image probe ≡ 0 = eqb-true _ 0 both.1 in
    let lawful : is_rom_size (rom_at image probe) decodes.0 ≡ true = decodes.1 in
    no_rom decodes.0 (rw no_ones at lawful)

-- the range of a ROM has a first and a last address
pub rom_range-order : (image probe : List ℕ) → (aligned_range (rom_at image image) (rom_size image probe)).first ≤ (aligned_range (rom_at image image) (rom_size image probe)).last
rom_range-order image probe = aligned_range-order (rom_at image image) _

-- the last address of a ROM has 32 bits
pub rom_range-fits : (image probe : List ℕ) → IsImage image → IsTrue (has_rom image probe) → IsFalse (breaks_rom_rule image probe)
    → (aligned_range (rom_at image image) (rom_size image probe)).last < 2 ^ 32
rom_range-fits image probe is there none =
    let at = (lawful_rom image probe there none).1 in
    aligned_range-fits (rom_at image image) _ 32 (omega (arith, at)) (number_at-fits_4 image (rom_register (layout image)) is)

-- ---- windows

-- the addresses of a row of pages
pub in_pages : (base limit size a : ℕ) → 0 < size
    → ((base * size ≤ a) × (a ≤ limit * size + (size - 1))) ↔ ((base ≤ a / size) × (a / size ≤ limit))
in_pages base limit size a positive =
    let split = div-add-mod' a size in
    let rest = mod_below a size positive in (
      (λ inside. (
        le-div base a size positive inside.0,
        let below : a / size < limit + 1 = div_below a size (limit + 1) positive (omega (arith, inside.1, positive)) in omega (arith, below),
      )),
      (λ pages.
          let low = mul-le base size (a / size) size pages.0 (omega arith) in
          let high = mul-le (a / size) size limit size pages.1 (omega arith) in
          (omega (arith, low, split), omega (arith, high, split, rest))),
    )

-- pages have addresses
page_size-positive : (kind : WindowKind) → 0 < page_size kind
page_size-positive IoWindow = lit< tt
page_size-positive MemoryWindow = lit< tt
page_size-positive PrefetchWindow = lit< tt

-- an address that a window holds
holds_by : (kind : WindowKind) (image probe : List ℕ) (a : ℕ) → IsTrue (has_window kind probe)
    → IsTrue (holds kind image probe a) ↔ ((base_page kind image ≤ a / page_size kind) × (a / page_size kind ≤ limit_page kind image))
holds_by kind image probe a there = (
  (λ h.
      let outer = and_parts (has_window kind probe && nat_le (base_page kind image) (a / page_size kind)) _ h in
      let inner = and_parts (has_window kind probe) _ outer.0 in
      (leb-true _ _ inner.1, leb-true _ _ outer.1)),
  (λ pages. and_from _ _ (and_from _ _ there (le-leb _ _ pages.0)) (le-leb _ _ pages.1)),
)

-- the range of a window is what it holds; a closed one holds nothing
pub window_range-holds : (kind : WindowKind) (image probe : List ℕ) → IsTrue (has_window kind probe)
    → (a : ℕ) → MatchOption (window_range kind image) ⊥ (λ r. InRange r a) ↔ IsTrue (holds kind image probe a)
window_range-holds kind image probe there a =
    let pages = in_pages (base_page kind image) (limit_page kind image) (page_size kind) a (page_size-positive kind) in
    let held = holds_by kind image probe a there in
    elim (cases_Bool (nat_le (base_page kind image) (limit_page kind image))) [
      | inl open_there ↦ rw open_there ((λ inside. held.1 (pages.0 inside)), (λ h. pages.1 (held.0 h)))
      | inr closed ↦ rw closed (
        (λ no. absurd no),
        (λ h.
            let both = held.0 h in
            let above = leb-false (base_page kind image) (limit_page kind image) closed in
            omega (arith, both.0, both.1, above)),
      )
    ]

-- where a window isn't implemented, it holds nothing
pub absent_window : (kind : WindowKind) (image probe : List ℕ) (a : ℕ) → has_window kind probe ≡ false → holds kind image probe a ≡ false
absent_window kind image probe a absent = and_left _ _ (and_left _ _ absent)

-- how far the addresses of a kind of window go
abbrev pub window_width : WindowKind → ℕ
window_width IoWindow = 32
window_width MemoryWindow = 32
window_width PrefetchWindow = 64

-- the last address of a window has the bits of its kind
limit_page-fits : (kind : WindowKind) (image : List ℕ) → IsImage image → limit_page kind image * page_size kind + (page_size kind - 1) < 2 ^ window_width kind
limit_page-fits IoWindow image is =
    let low = is.bytes 0x1d in
    let high = number_at-fits_2 image 0x32 is in
    omega (arith, low, high)
limit_page-fits MemoryWindow image is =
    let low = number_at-fits_2 image 0x22 is in
    omega (arith, low)
limit_page-fits PrefetchWindow image is =
    let low = number_at-fits_2 image 0x26 is in
    let high = number_at-fits_4 image 0x2c is in
    omega (arith, low, high)

-- the range of a window has a first and a last address, with the bits of its kind
pub window_range-order : (kind : WindowKind) (image : List ℕ) → MatchOption (window_range kind image) (Unit {0}) (λ r. r.first ≤ r.last)
window_range-order kind image = elim (cases_Bool (nat_le (base_page kind image) (limit_page kind image))) [
  | inl open_there ↦
      let pages = leb-true _ _ open_there in
      let product = mul-le (base_page kind image) (page_size kind) (limit_page kind image) (page_size kind) pages (omega arith) in
      rw open_there (omega (arith, product))
  | inr closed ↦ rw closed tt
]

-- the last address of an open window has the bits of its kind
pub window_range-fits : (kind : WindowKind) (image : List ℕ) → IsImage image → MatchOption (window_range kind image) (Unit {0}) (λ r. r.last < 2 ^ window_width kind)
window_range-fits kind image is =
    let fits = limit_page-fits kind image is in
    elim (cases_Bool (nat_le (base_page kind image) (limit_page kind image))) [
      | inl open_there ↦ rw open_there fits
      | inr closed ↦ rw closed tt
    ]
