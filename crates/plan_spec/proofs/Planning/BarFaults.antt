-- Moving brings no fault to a Base Address register.
use Rattle.std.proofs.Common.{◌≡◌, ℕ, zero, suc, ◌+◌, ◌-◌, ◌*◌, ◌/◌, ◌%◌, ◌^◌, ◌<◌, ◌≤◌, inl, inr, List, refl, Bool, true, false, cond, ◌&&◌, not, Option, None, Some, arith, sym, ◌∙◌, ap}
use Rattle.std.specs.Bool.{nat_le, ◌==◌, if◌then◌else◌}
use Rattle.std.specs.Int.{bit_at}
use Rattle.std.proofs.lemmas.Bool.{cases_Bool, cases_lt, le-leb, eqb-true, eqb-false}
use Rattle.std.proofs.lemmas.Nat.{mod_below, pow_pos}
use Rattle.std.proofs.lemmas.Nat.Bits.{same_from_bits_below, bit_at-lt, bit_at_above, bit_at_cat_low, bit_at_cat_high}
use Rattle.pci_spec.specs.Number.{has_bit, each_from, IsImage}
use Rattle.pci_spec.specs.Header.{layout, bar_count, bar_register}
use Rattle.pci_spec.specs.Bar.{BarFault, BarType, BarMask, BarPair, bar_at, is_io, is_wide, bar_kind, starts_bar, whole_bar, is_within, has_lawful_size, encodings, bar_reading, first_broken, bar_fault}
use Rattle.pci_spec.specs.System.{Function}
use Rattle.pci_spec.specs.Machine.{bar_field, without_low}
use Rattle.plan_spec.specs.Plan.{IsMoved}
use Rattle.pci_spec.proofs.Bits.{bit_of_true, bit_of_false, bit_at-mod, bit_at-without_low, bit_at-without_low_below}
use Rattle.plan_spec.proofs.Planning.Moved.{layout_same}
use Rattle.plan_spec.proofs.Planning.Registers.{number_below}
use Rattle.plan_spec.proofs.Planning.Bars.{bar_bit_stays}

-- the rules as a choice by tests
abbrev rules_by : Bool → Bool → Bool → Bool → Bool → Bool → Bool → Bool → Option BarFault
rules_by none zero_value low io_one type pair size within =
    if none then (if zero_value then None else Some BarMask)
    else if not low then Some BarMask
    else if io_one then Some BarMask
    else if type then Some BarType
    else if pair then Some BarPair
    else if not size then Some BarMask
    else if not within then Some BarMask
    else None

same_rules : (none z y low io_one type pair size v w : Bool) → (none ≡ true → z ≡ y) → (pair ≡ false → v ≡ w) → rules_by none z low io_one type pair size v ≡ rules_by none y low io_one type pair size w
same_rules true z y low io_one type pair size v w e f = ap (λ b. if b then None else Some BarMask) (e refl)
same_rules false z y low io_one type true size v w e f = refl
same_rules false z y low io_one type false size v w e f = ap (λ b. rules_by false z low io_one type false size b) (f refl)

pub each_same : (low count : ℕ) (p q : ℕ → Bool) → ((i : ℕ) → i < low + count → p i ≡ q i) → each_from low count p ≡ each_from low count q
unfolding each_from
each_same low zero p q same = refl
each_same low (suc count) p q same =
    ap (λ b. b && each_from (low + 1) count p) (same low (omega arith))
    ∙ ap (λ b. q low && b) (each_same (low + 1) count p q (λ i l. same i (omega (arith, l))))

dark_from : (mask k b : ℕ) → bit_at mask b ≡ 0 → bit_at (mask / 2 ^ k * 2 ^ k) b ≡ 0
dark_from mask k b dark = elim (cases_lt b k) [
  | inl low ↦ bit_at-without_low_below mask k b low ∙ (let e : bit_at 0 b ≡ 0 = bit_at_above 0 0 b (omega arith) (omega arith) in e)
  | inr high ↦ bit_at-without_low mask k b high ∙ dark
]

-- no one in a mask, no one in its address bits
dark_bits : (mask b : ℕ) → has_bit mask b ≡ false → has_bit (without_low (encodings mask) mask) b ≡ false
dark_bits mask b dark = elim (cases_Bool (is_io mask)) [
  | inl io ↦ ap (λ t. has_bit (without_low (cond t 4 16) mask) b) io ∙ ap (λ n. n == 1) (dark_from mask 2 b (bit_of_false mask b dark))
  | inr memory ↦ ap (λ t. has_bit (without_low (cond t 4 16) mask) b) memory ∙ ap (λ n. n == 1) (dark_from mask 4 b (bit_of_false mask b dark))
]

low_dark : (mask k b : ℕ) → encodings mask ≡ 2 ^ k → b < k → has_bit (without_low (encodings mask) mask) b ≡ false
low_dark mask k b e low =
    ap (λ n. has_bit (without_low n mask) b) e
    ∙ ap (λ n. n == 1) (bit_at-without_low_below mask k b low ∙ (let z : bit_at 0 b ≡ 0 = bit_at_above 0 0 b (omega arith) (omega arith) in z))

pub same_test : (v w mask i : ℕ) → (has_bit mask i ≡ false → bit_at v i ≡ bit_at w i) → nat_le (bit_at v i) (bit_at mask i) ≡ nat_le (bit_at w i) (bit_at mask i)
same_test v w mask i same = elim (cases_Bool (has_bit mask i)) [
  | inl one ↦
      let e = bit_of_true mask i one in
      let a = bit_at-lt v i in
      let b = bit_at-lt w i in
      le-leb (bit_at v i) (bit_at mask i) (omega (arith, e, a)) ∙ sym (le-leb (bit_at w i) (bit_at mask i) (omega (arith, e, b)))
  | inr dark ↦ ap (λ n. nat_le n (bit_at mask i)) (same dark)
]

pub pair_low : (lo hi i : ℕ) → i < 32 → bit_at (lo + 2 ^ 32 * hi) i ≡ bit_at lo i
pair_low lo hi i low = let e : lo + 2 ^ 32 * hi ≡ hi * 2 ^ 32 + lo = omega arith in ap (λ n. bit_at n i) e ∙ bit_at_cat_low hi 32 lo i low

pub pair_high : (lo hi i : ℕ) → lo < 2 ^ 32 → 32 ≤ i → bit_at (lo + 2 ^ 32 * hi) i ≡ bit_at hi (i - 32)
pair_high lo hi i small high = let e : lo + 2 ^ 32 * hi ≡ hi * 2 ^ 32 + lo = omega arith in ap (λ n. bit_at n i) e ∙ bit_at_cat_high hi 32 lo i small high

module _ (f g : Function) (m : IsMoved f g) (is : IsImage f.image) (probe_is : IsImage f.probe) (n : ℕ) (inside : n < bar_count (layout f.image)) (starts : starts_bar f.probe n ≡ true) where
  field_is : (bar_field f.probe n).bits ≡ without_low (encodings (bar_at f.probe n)) (bar_at f.probe n)
  field_is = ap (λ t. cond t (without_low (encodings (bar_at f.probe n)) (bar_at f.probe n)) (bar_at f.probe n)) starts

  stays : (b : ℕ) → b < 32 → has_bit (without_low (encodings (bar_at f.probe n)) (bar_at f.probe n)) b ≡ false → bit_at (bar_at g.image n) b ≡ bit_at (bar_at f.image n) b
  stays b below dark = bar_bit_stays f g m is n b inside below (ap (λ bits. has_bit bits b) field_is ∙ dark)

  small_new : bar_at g.image n < 2 ^ 32
  small_new = number_below g.image (bar_register n) m.image 4

  small_old : bar_at f.image n < 2 ^ 32
  small_old = number_below f.image (bar_register n) is 4

  -- a bit that the mask lacks
  stays_dark : (b : ℕ) → has_bit (bar_at f.probe n) b ≡ false → bit_at (bar_at g.image n) b ≡ bit_at (bar_at f.image n) b
  stays_dark b dark = elim (cases_lt b 32) [
    | inl below ↦ stays b below (dark_bits (bar_at f.probe n) b dark)
    | inr above ↦ bit_at_above (bar_at g.image n) 32 b small_new above ∙ sym (bit_at_above (bar_at f.image n) 32 b small_old above)
  ]

  low_same_at : (k : ℕ) → k < 32 → encodings (bar_at f.probe n) ≡ 2 ^ k → bar_at g.image n % 2 ^ k ≡ bar_at f.image n % 2 ^ k
  low_same_at k fits e =
      same_from_bits_below k (bar_at g.image n % 2 ^ k) (bar_at f.image n % 2 ^ k) (mod_below (bar_at g.image n) (2 ^ k) (pow_pos k)) (mod_below (bar_at f.image n) (2 ^ k) (pow_pos k))
      (λ i l. bit_at-mod (bar_at g.image n) k i l ∙ stays i (omega (arith, l, fits)) (low_dark (bar_at f.probe n) k i e l) ∙ sym (bit_at-mod (bar_at f.image n) k i l))

  low_same_by : (k : ℕ) → k < 32 → encodings (bar_at f.probe n) ≡ 2 ^ k → bar_at g.image n % encodings (bar_at f.probe n) ≡ bar_at f.image n % encodings (bar_at f.probe n)
  low_same_by k fits e = ap (λ c. bar_at g.image n % c) e ∙ low_same_at k fits e ∙ sym (ap (λ c. bar_at f.image n % c) e)

  low_same : bar_at g.image n % encodings (bar_at f.probe n) ≡ bar_at f.image n % encodings (bar_at f.probe n)
  low_same = elim (cases_Bool (is_io (bar_at f.probe n))) [
    | inl io ↦ low_same_by 2 (omega arith) (ap (λ t. cond t 4 16) io)
    | inr memory ↦ low_same_by 4 (omega arith) (ap (λ t. cond t 4 16) memory)
  ]

  value_same : (bar_at f.probe n == 0) ≡ true → bar_at g.image n ≡ bar_at f.image n
  value_same none =
      same_from_bits_below 32 (bar_at g.image n) (bar_at f.image n) small_new small_old
      (λ i l. stays_dark i (ap (λ v. has_bit v i) (eqb-true (bar_at f.probe n) 0 none) ∙ ap (λ v. v == 1) (let z : bit_at 0 i ≡ 0 = bit_at_above 0 0 i (omega arith) (omega arith) in z)))

  -- the upper half
  upper : suc n < bar_count (layout f.image) → is_wide (bar_at f.probe n) ≡ true → (b : ℕ) → b < 32 → has_bit (bar_at f.probe (suc n)) b ≡ false
      → bit_at (bar_at g.image (suc n)) b ≡ bit_at (bar_at f.image (suc n)) b
  upper room wide b below dark =
      let half : starts_bar f.probe (suc n) ≡ false = ap (λ t. not (t && is_wide (bar_at f.probe n))) starts ∙ ap not wide in
      bar_bit_stays f g m is (suc n) b room below
      (ap (λ t. has_bit (cond t (without_low (encodings (bar_at f.probe (suc n))) (bar_at f.probe (suc n))) (bar_at f.probe (suc n))) b) half ∙ dark)

  -- a bit of the whole BAR that the whole mask lacks
  whole_stays : (is_wide (bar_at f.probe n) && (n + 1 == bar_count (layout f.image))) ≡ false → (i : ℕ) → i < 64 → has_bit (whole_bar f.probe f.probe n) i ≡ false
      → bit_at (whole_bar f.probe g.image n) i ≡ bit_at (whole_bar f.probe f.image n) i
  whole_stays lone i below dark = elim (cases_Bool (is_wide (bar_at f.probe n))) [
    | inr narrow ↦
        ap (λ t. bit_at (cond t (bar_at g.image n + 2 ^ 32 * bar_at g.image (n + 1)) (bar_at g.image n)) i) narrow
        ∙ stays_dark i (sym (ap (λ t. has_bit (cond t (bar_at f.probe n + 2 ^ 32 * bar_at f.probe (n + 1)) (bar_at f.probe n)) i) narrow) ∙ dark)
        ∙ sym (ap (λ t. bit_at (cond t (bar_at f.image n + 2 ^ 32 * bar_at f.image (n + 1)) (bar_at f.image n)) i) narrow)
    | inl wide ↦
        let pair_of = λ (image : List ℕ). ap (λ t. bit_at (cond t (bar_at image n + 2 ^ 32 * bar_at image (n + 1)) (bar_at image n)) i) wide in
        let dark_pair : has_bit (bar_at f.probe n + 2 ^ 32 * bar_at f.probe (n + 1)) i ≡ false = sym (ap (λ b. b == 1) (pair_of f.probe)) ∙ dark in
        pair_of g.image ∙ elim (cases_lt i 32) [
          | inl low ↦
              pair_low (bar_at g.image n) (bar_at g.image (n + 1)) i low
              ∙ stays_dark i (sym (ap (λ b. b == 1) (pair_low (bar_at f.probe n) (bar_at f.probe (n + 1)) i low)) ∙ dark_pair)
              ∙ sym (pair_low (bar_at f.image n) (bar_at f.image (n + 1)) i low)
          | inr high ↦
              let other : (n + 1 == bar_count (layout f.image)) ≡ false = sym (ap (λ t. t && (n + 1 == bar_count (layout f.image))) wide) ∙ lone in
              let differ = eqb-false (n + 1) (bar_count (layout f.image)) other in
              let next : n + 1 ≡ suc n = omega arith in
              let room : suc n < bar_count (layout f.image) = omega (arith, inside, differ) in
              let probe_small = number_below f.probe (bar_register n) probe_is 4 in
              let dark_high : has_bit (bar_at f.probe (suc n)) (i - 32) ≡ false =
              sym (ap (λ k. has_bit (bar_at f.probe k) (i - 32)) next) ∙ sym (ap (λ b. b == 1) (pair_high (bar_at f.probe n) (bar_at f.probe (n + 1)) i probe_small high)) ∙ dark_pair in
              pair_high (bar_at g.image n) (bar_at g.image (n + 1)) i small_new high
              ∙ ap (λ k. bit_at (bar_at g.image k) (i - 32)) next
              ∙ upper room wide (i - 32) (omega (arith, below, high)) dark_high
              ∙ sym (ap (λ k. bit_at (bar_at f.image k) (i - 32)) next)
              ∙ sym (pair_high (bar_at f.image n) (bar_at f.image (n + 1)) i small_old high)
        ] ∙ sym (pair_of f.image)
  ]

-- the rules give the same of a moved image
pub bar_fault_same : (f g : Function) → IsMoved f g → IsImage f.image → IsImage f.probe → (n : ℕ) → n < bar_count (layout f.image) → bar_fault g.image g.probe n ≡ bar_fault f.image f.probe n
bar_fault_same f g m is probe_is n inside =
    ap (λ p. bar_fault g.image p n) m.probe
    ∙ ap (λ k. if starts_bar f.probe n then first_broken (bar_reading (n + 1 == bar_count k) g.image f.probe n) else None) (layout_same f g m is)
    ∙ elim (cases_Bool (starts_bar f.probe n)) [
      | inr other ↦
          ap (λ t. if t then first_broken (bar_reading (n + 1 == bar_count (layout f.image)) g.image f.probe n) else None) other
          ∙ sym (ap (λ t. if t then first_broken (bar_reading (n + 1 == bar_count (layout f.image)) f.image f.probe n) else None) other)
      | inl starts ↦
          let mask = bar_at f.probe n in
          let last = n + 1 == bar_count (layout f.image) in
          let whole = whole_bar f.probe f.probe n in
          ap (λ x. if starts_bar f.probe n then x else None) (
          ap (λ t. rules_by (mask == 0) (bar_at g.image n == 0) (t == mask % encodings mask) (is_io mask && has_bit mask 1) (not (is_io mask) && has_bit mask 1) (is_wide mask && last) (has_lawful_size (bar_kind mask) whole) (is_within 0 (whole_bar f.probe g.image n) whole))
          (low_same f g m is probe_is n inside starts)
          ∙ same_rules (mask == 0) (bar_at g.image n == 0) (bar_at f.image n == 0) (bar_at f.image n % encodings mask == mask % encodings mask)
          (is_io mask && has_bit mask 1) (not (is_io mask) && has_bit mask 1) (is_wide mask && last) (has_lawful_size (bar_kind mask) whole)
          (is_within 0 (whole_bar f.probe g.image n) whole) (is_within 0 (whole_bar f.probe f.image n) whole)
          (λ none. ap (λ v. v == 0) (value_same f g m is probe_is n inside starts none))
          (λ lone. each_same 0 64 (λ i. nat_le (bit_at (whole_bar f.probe g.image n) i) (bit_at whole i)) (λ i. nat_le (bit_at (whole_bar f.probe f.image n) i) (bit_at whole i))
          (λ i l. same_test (whole_bar f.probe g.image n) (whole_bar f.probe f.image n) whole i (λ dark. whole_stays f g m is probe_is n inside starts lone i (omega (arith, l)) dark)))
          )
    ]
