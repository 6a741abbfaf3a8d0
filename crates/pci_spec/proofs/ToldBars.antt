-- The BARs of a function whose probe is derived from lines that are true of it.
use Rattle.std.specs.Prelude.{◌⊎◌}
use Rattle.std.proofs.Common.{◌≡◌, ◌≢◌, ℕ, zero, suc, ◌+◌, ◌-◌, ◌*◌, ◌/◌, ◌%◌, ◌^◌, ◌<◌, ◌≤◌, Bool, true, false, ◌&&◌, ◌||◌, not, List, None, inl, inr, refl, arith, sym, ◌∙◌, ap, subst}
use Rattle.std.specs.Bool.{nat_lt, ◌==◌, if◌then◌else◌, IsTrue}
use Rattle.std.proofs.lemmas.Bool.{and_parts, and_from, or_cases, both_ways, cases_Bool, eqb-true, eqb-false, eq-eqb, ne_eqb, lt-ltb, ltb-true, not-true, not-false, not_from_false}
use Rattle.pci_spec.specs.Number.{lowest_one, IsImage}
use Rattle.pci_spec.specs.Header.{layout, bar_count, bar_register}
use Rattle.pci_spec.specs.Bar.{BarKind, bar_at, bar_kind, bar_fault, bar_reading, first_broken, is_io, is_wide, starts_bar, whole_bar, encodings, is_lawful, has_lawful_size, is_within, has_bar}
use Rattle.pci_spec.specs.System.{Function}
use Rattle.pci_spec.specs.Machine.{without_low}
use Rattle.pci_spec.specs.Decoded.{IsDecodable, bar_size}
use Rattle.pci_spec.specs.Resource.{ResourceLine, line_at, address_count, tells_bar}
use Rattle.pci_spec.specs.Derived.{Known, is_pair, shown_bar, bar_width, is_enabled, bar_of_size, bar_derived, lower_half, read_back_of, bar_register_derived, derived_probe}
use Rattle.pci_spec.specs.NoProbe.{Assuming, assumes_enabled, register_fault, no_probe}
use Rattle.pci_spec.specs.ToldAlike.{enables_bar}
use Rattle.pci_spec.specs.TrueLines.{IsTrueOf}
use Rattle.pci_spec.proofs.ReadBacks.{encodings-power}
use Rattle.pci_spec.proofs.Ranges.{absent_shows_0, first_bit, width_of, lowest_one-of_lawful, has_lawful_size-of_lawful, lawful-lowest_one, lawful_bar, ObeysRules, first_bit-of_register, whole_bar-fits}
use Rattle.pci_spec.proofs.ToldAlike.{IsOfEncoding, shows_encoding, starts_shown}
use Rattle.pci_spec.proofs.DerivedBits.{pow_within, sized_mask, IsSized, is_sized, IsBound, lawful_bound, sized_lawful, least_lawful, sized_within}
use Rattle.pci_spec.proofs.DerivedBytes.{IsLayout, bar_number, bar_no_fault}
use Rattle.pci_spec.proofs.DerivedBars.{IsSameKind, same_kind, width_of_register, keeps_rules, absent_is_fine, bar_cases, lower_read_back, aligned_told, aligned_by, low_encoding, wide_some, io_of_whole, zero_of_whole}

pub layouts : (f : Function) → IsDecodable f → IsLayout (layout f.image)
layouts f good = elim (or_cases (layout f.image == 0) (layout f.image == 1) (not-false (layout f.image == 0 || layout f.image == 1) good.header)) [
  | inl device ↦ inl (eqb-true (layout f.image) 0 device)
  | inr bridge ↦ inr (eqb-true (layout f.image) 1 bridge)
]

module _ (f : Function) (lines : List ResourceLine) (is : IsImage f.image) (good : IsDecodable f) (told : IsTrueOf lines f.image f.probe) (assuming : Assuming) (none : no_probe assuming f.image lines ≡ None) where
  abbrev image : List ℕ
  image = f.image

  abbrev own : List ℕ
  own = f.probe

  abbrev new : List ℕ
  new = derived_probe f.image lines

  abbrev count : ℕ
  count = bar_count (layout f.image)

  -- what the BAR at register n shows, its kind, and its derived read back
  abbrev shown : ℕ → ℕ
  shown n = shown_bar f.image n

  abbrev kind_at : ℕ → BarKind
  kind_at n = bar_kind (bar_at f.probe n)

  abbrev back : ℕ → ℕ
  back n = read_back_of (bar_derived f.image lines n)

  starts_derived : (n : ℕ) → starts_bar image n ≡ true → bar_register_derived image lines n ≡ lower_half (bar_derived image lines n)
  unfolding bar_register_derived
  starts_derived n s = ap (λ b. if b then lower_half (bar_derived image lines n) else Known (read_back_of (bar_derived image lines (n - 1)) / 2 ^ 32)) s

  upper_derived : (n : ℕ) → starts_bar image (suc n) ≡ false → bar_register_derived image lines (suc n) ≡ Known (back n / 2 ^ 32)
  unfolding bar_register_derived
  upper_derived n s =
      let e : suc n - 1 ≡ n = omega arith in
      ap (λ b. if b then lower_half (bar_derived image lines (suc n)) else Known (read_back_of (bar_derived image lines (suc n - 1)) / 2 ^ 32)) s
      ∙ ap (λ m. Known (back m / 2 ^ 32)) e

  -- a register that starts a BAR has a read back that follows, or is of no BAR
  record IsAbsentBar (n : ℕ) : Type 0 where
    zeros : shown n ≡ 0
    read_back : back n ≡ 0
    gone : enables_bar image n ≡ true → has_bar own n ≡ false

  record IsSizedBar (n : ℕ) : Type 0 where
    there : bar_at own n ≢ 0
    k : ℕ
    some : ℕ
    lawful : is_lawful (kind_at n) some k ≡ true
    read_back : back n ≡ sized_mask (kind_at n) (shown n) k
    aligned : without_low (2 ^ first_bit (kind_at n)) (shown n) % 2 ^ k ≡ 0
    least : 2 ^ k ≤ bar_size own n
    size : assumes_enabled assuming ≡ false → bar_size own n ≡ 2 ^ k

  module _ (n : ℕ) (less : n < count) (s : starts_bar image n ≡ true) where
    own_starts : starts_bar own n ≡ true
    own_starts = starts_shown image own good.bars n less ∙ s

    encoding : IsOfEncoding (bar_at image n) (bar_at own n)
    encoding = shows_encoding image own n own_starts (good.bars n less)

    own_has : bar_at own n ≢ 0 → has_bar own n ≡ true
    own_has some = and_from (starts_bar own n) (not (bar_at own n == 0)) own_starts (not_from_false (bar_at own n == 0) (ne_eqb (bar_at own n) 0 some))

    rules : bar_at own n ≢ 0 → ObeysRules (bar_reading (n + 1 == count) image own n)
    rules some = lawful_bar image own n (own_has some) (good.bars n less)

    narrow_pair : is_wide (bar_at image n) ≡ false → is_pair image n ≡ is_wide (bar_at image n)
    narrow_pair narrow = ap (λ b. b && nat_lt (n + 1) count) narrow ∙ sym narrow

    wide_next : is_wide (bar_at image n) ≡ true → n + 1 < count
    wide_next wide =
        let own_wide : is_wide (bar_at own n) ≡ true = sym encoding.wide ∙ wide in
        let some : bar_at own n ≢ 0 = wide_some (bar_at own n) own_wide in
        let last : (n + 1 == count) ≡ false = sym (ap (λ b. b && n + 1 == count) own_wide) ∙ (rules some).pair in
        let other = eqb-false (n + 1) count last in
        omega (arith, less, other)

    pair_is : is_pair image n ≡ is_wide (bar_at image n)
    pair_is = elim (cases_Bool (is_wide (bar_at image n))) [
      | inl wide ↦ let next = lt-ltb (n + 1) count (wide_next wide) in and_from _ _ wide next ∙ sym wide
      | inr narrow ↦ narrow_pair narrow
    ]

    shown_is : shown n ≡ whole_bar own image n
    shown_is = ap (λ b. if b then bar_at image n + 2 ^ 32 * bar_at image (n + 1) else bar_at image n) (pair_is ∙ encoding.wide)

    width_is : bar_width image n ≡ width_of (kind_at n)
    width_is = ap (λ b. if b then 64 else 32) (pair_is ∙ encoding.wide) ∙ sym (width_of_register (bar_at own n))

    io_is : is_io (shown n) ≡ is_io (bar_at own n)
    io_is = io_of_whole (is_pair image n) (bar_at image n) (bar_at image (n + 1)) ∙ encoding.io

    power_is : 2 ^ first_bit (kind_at n) ≡ encodings (bar_at own n)
    power_is = ap (λ j. 2 ^ j) (first_bit-of_register (bar_at own n)) ∙ sym (encodings-power (bar_at own n))

    step_is : encodings (shown n) ≡ 2 ^ first_bit (kind_at n)
    step_is = ap (λ b. if b then 4 else 16) io_is ∙ sym power_is

    mask_is : (k : ℕ) → bar_of_size (bar_width image n) (shown n) (2 ^ k) ≡ sized_mask (kind_at n) (shown n) k
    unfolding bar_of_size
    mask_is k = let width = width_is in let step = step_is in λ i. without_low (step i) (2 ^ width i - 2 ^ k) + shown n % step i

    told_case : tells_bar (line_at lines n) (bar_width image n) (shown n) ≡ true → back n ≡ bar_of_size (bar_width image n) (shown n) (address_count (line_at lines n)) → IsSizedBar n
    told_case t e =
        let fact = told.bars n (and_from _ _ (and_from _ _ (lt-ltb n count less) s) t) in
        let there : bar_at own n ≢ 0 = eqb-false (bar_at own n) 0 (not-true _ (and_parts (starts_bar own n) (not (bar_at own n == 0)) fact.0).1) in
        let k : ℕ = lowest_one (first_bit (kind_at n)) (whole_bar own own n) in
        let lawful = lawful-lowest_one (kind_at n) (whole_bar own own n) (rules there).sized in
        let own_size : bar_size own n ≡ 2 ^ k = ap (λ from. 2 ^ lowest_one from (whole_bar own own n)) (sym (first_bit-of_register (bar_at own n))) in
        let count_is : address_count (line_at lines n) ≡ 2 ^ k = sym fact.1 ∙ own_size in
        let step = step_is in
        record {
          there = there;
          k = k;
          some = whole_bar own own n;
          lawful = lawful.0;
          read_back = e ∙ ap (bar_of_size (bar_width image n) (shown n)) count_is ∙ mask_is k;
          aligned = sym (λ i. without_low (step i) (shown n) % count_is i) ∙ aligned_told (line_at lines n) (bar_width image n) (shown n) t;
          least = omega (arith, own_size);
          size = λ exact. own_size;
        }

    shows_some : (shown n == 0) ≡ false → bar_at own n ≢ 0
    shows_some some zeros =
        let fine : bar_fault image own n ≡ None = good.bars n less in
        let begins = own_starts in
        let value = absent_shows_0 (bar_reading (n + 1 == count) image own n) (eq-eqb (bar_at own n) 0 zeros) (rw begins at fine) in
        let whole : whole_bar own image n ≡ bar_at image n =
        ap (λ m. if is_wide m then bar_at image n + 2 ^ 32 * bar_at image (n + 1) else bar_at image n) zeros in
        eqb-false (shown n) 0 some (shown_is ∙ whole ∙ value)

    assumed_case : (shown n == 0) ≡ false → assumes_enabled assuming ≡ true → back n ≡ bar_of_size (bar_width image n) (shown n) (encodings (shown n)) → IsSizedBar n
    assumed_case some any e =
        let there = shows_some some in
        let lawful = lawful-lowest_one (kind_at n) (whole_bar own own n) (rules there).sized in
        let least = least_lawful (kind_at n) (whole_bar own own n) (lowest_one (first_bit (kind_at n)) (whole_bar own own n)) lawful.0 in
        let step = step_is in
        record {
          there = there;
          k = first_bit (kind_at n);
          some = least.0;
          lawful = least.1;
          read_back = e ∙ ap (bar_of_size (bar_width image n) (shown n)) step ∙ mask_is (first_bit (kind_at n));
          aligned = sym (λ i. without_low (step i) (shown n) % step i) ∙ aligned_by (is_io (shown n)) (shown n);
          least =
              let own_size : bar_size own n ≡ 2 ^ lowest_one (first_bit (kind_at n)) (whole_bar own own n) =
              ap (λ from. 2 ^ lowest_one from (whole_bar own own n)) (sym (first_bit-of_register (bar_at own n))) in
              let low = (lawful_bound (kind_at n) (whole_bar own own n) (lowest_one (first_bit (kind_at n)) (whole_bar own own n)) lawful.0).least in
              let more = pow_within (first_bit (kind_at n)) (lowest_one (first_bit (kind_at n)) (whole_bar own own n)) low in
              omega (arith, own_size, more);
          size = λ exact. absurd (both_ways (assumes_enabled assuming) exact any);
        }

    choice : IsAbsentBar n ⊎ IsSizedBar n
    choice =
        let fault = sym (ap (register_fault assuming (bar_register n)) (starts_derived n s)) ∙ bar_no_fault image lines (layouts f good) assuming none n less in
        elim (bar_cases assuming (bar_register n) (line_at lines n) (bar_width image n) (shown n) fault) [
          | inl known ↦ inr (told_case known.0 known.1)
          | inr other ↦ elim other [
            | inl clear ↦ inl record {
              zeros = eqb-true (shown n) 0 clear.0;
              read_back = clear.2;
              gone = λ on. told.no_bars n (and_from _ _ (and_from _ _ on clear.0) (not_from_false _ clear.1));
            }
            | inr assumed ↦ inr (assumed_case assumed.0 assumed.1 assumed.2)
          ]
        ]

    -- ---- the register that starts it

    low_is : bar_at new n ≡ back n % 2 ^ 32
    low_is =
        let at = bar_number image lines (layouts f good) n less ∙ ap (λ d. read_back_of d % 2 ^ 32) (starts_derived n s) ∙ ap (λ m. m % 2 ^ 32) (lower_read_back (bar_derived image lines n)) in
        omega (arith, at)

    absent_low : IsAbsentBar n → bar_at new n ≡ 0
    absent_low b = let low = low_is in let r = b.read_back in omega (arith, low, r)

    absent_value : IsAbsentBar n → bar_at image n ≡ 0
    absent_value b = zero_of_whole (is_pair image n) (bar_at image n) (bar_at image (n + 1)) b.zeros

    module _ (b : IsSizedBar n) where
      bound : IsBound (kind_at n) b.k
      bound = lawful_bound (kind_at n) b.some b.k b.lawful

      sized : IsSized (kind_at n) (shown n) b.k (back n)
      sized = subst (IsSized (kind_at n) (shown n) b.k) (sym b.read_back) (is_sized (kind_at n) (shown n) b.k bound.least bound.most)

      low_encodes : bar_at new n % encodings (bar_at own n) ≡ bar_at image n % encodings (bar_at own n)
      low_encodes =
          ap (λ m. m % encodings (bar_at own n)) low_is
          ∙ low_encoding (is_io (bar_at own n)) (is_pair image n) (back n) (shown n) (bar_at image n) (bar_at image (n + 1)) refl
          (subst (λ e. back n % e ≡ shown n % e) power_is sized.encoding)

      same : IsSameKind (bar_at new n) (bar_at own n)
      same = same_kind (bar_at new n) (bar_at own n) (low_encodes ∙ (rules b.there).encoding)

    wide_new : is_wide (bar_at new n) ≡ is_wide (bar_at image n)
    wide_new = elim choice [
      | inl b ↦ ap is_wide (absent_low b) ∙ sym (ap is_wide (absent_value b))
      | inr b ↦ (same b).encoding.wide ∙ sym encoding.wide
    ]

  starts_too : (n : ℕ) → n < count → starts_bar new n ≡ starts_bar image n
  starts_too zero less = refl
  starts_too (suc n) less =
      let within : n < count = omega (arith, less) in
      let before = starts_too n within in
      elim (cases_Bool (starts_bar image n)) [
        | inl starts ↦ let wide = wide_new n within starts in λ i. not (before i && wide i)
        | inr upper ↦ ap (λ b. not (b && is_wide (bar_at new n))) (before ∙ upper) ∙ sym (ap (λ b. not (b && is_wide (bar_at image n))) upper)
      ]

  -- ---- the whole BAR

  module _ (n : ℕ) (less : n < count) (s : starts_bar image n ≡ true) (b : IsSizedBar n) where
    starts_new : starts_bar new n ≡ true
    starts_new = starts_too n less ∙ s

    upper_is : is_wide (bar_at image n) ≡ true → bar_at new (n + 1) ≡ back n / 2 ^ 32 % 2 ^ 32
    upper_is wide =
        let e : n + 1 ≡ suc n = omega arith in
        let next : suc n < count = let after = wide_next n less s wide in omega (arith, after) in
        let upper : starts_bar image (suc n) ≡ false = ap not (and_from (starts_bar image n) (is_wide (bar_at image n)) s wide) in
        ap (bar_at new) e ∙ bar_number image lines (layouts f good) (suc n) next ∙ ap (λ d. read_back_of d % 2 ^ 32) (upper_derived n upper)

    new_wide : is_wide (bar_at new n) ≡ is_wide (bar_at own n)
    new_wide = (same n less s b).encoding.wide

    width_by : (wide : Bool) → is_wide (bar_at own n) ≡ wide → width_of (kind_at n) ≡ (if wide then 64 else 32)
    width_by wide e = width_of_register (bar_at own n) ∙ ap (λ t. if t then 64 else 32) e

    whole_new : whole_bar new new n ≡ back n
    whole_new =
        let low = low_is n less s in
        elim (cases_Bool (is_wide (bar_at own n))) [
          | inl wide ↦
              let high = upper_is ((encoding n less s).wide ∙ wide) in
              let fits : back n < 2 ^ 64 = subst (λ w. back n < 2 ^ w) (width_by true wide) (sized n less s b).fits in
              let sum : bar_at new n + 2 ^ 32 * bar_at new (n + 1) ≡ back n = omega (arith, low, high, fits) in
              ap (λ t. if t then bar_at new n + 2 ^ 32 * bar_at new (n + 1) else bar_at new n) (new_wide ∙ wide) ∙ sum
          | inr narrow ↦
              let fits : back n < 2 ^ 32 = subst (λ w. back n < 2 ^ w) (width_by false narrow) (sized n less s b).fits in
              let all : bar_at new n ≡ back n = omega (arith, low, fits) in
              ap (λ t. if t then bar_at new n + 2 ^ 32 * bar_at new (n + 1) else bar_at new n) (new_wide ∙ narrow) ∙ all
        ]

    low_some : bar_at new n ≢ 0
    low_some zeros =
        let low = low_is n less s in
        elim (cases_Bool (is_wide (bar_at own n))) [
          | inl wide ↦ wide_some (bar_at new n) (new_wide ∙ wide) zeros
          | inr narrow ↦
              let fits : back n < 2 ^ 32 = subst (λ w. back n < 2 ^ w) (width_by false narrow) (sized n less s b).fits in
              let least : 2 ^ 31 ≤ back n = subst (λ w. 2 ^ (w - 1) ≤ back n) (width_by false narrow) (sized n less s b).some in
              omega (arith, low, fits, least, zeros)
        ]

    value_new : whole_bar new image n ≡ shown n
    value_new = ap (λ t. if t then bar_at image n + 2 ^ 32 * bar_at image (n + 1) else bar_at image n) (new_wide ∙ sym (encoding n less s).wide ∙ sym (pair_is n less s))

    lawful_new : is_lawful (kind_at n) (back n) b.k ≡ true
    lawful_new = sized_lawful (kind_at n) (shown n) b.k b.some (back n) b.lawful (sized n less s b)

    keeps : ObeysRules (bar_reading (n + 1 == count) image new n)
    keeps =
        let r = rules n less s b.there in
        let alike = same n less s b in
        let io = alike.encoding.io in
        let wide = alike.encoding.wide in
        let second = alike.second in
        let kind = alike.kind in
        let whole = whole_new in
        let value = value_new in
        let small : shown n < 2 ^ width_of (kind_at n) = subst (λ v. v < 2 ^ width_of (kind_at n)) (sym (shown_is n less s)) (whole_bar-fits own image n is) in
        record {
          encoding = subst (λ e. bar_at image n % e ≡ bar_at new n % e) (sym (ap (λ t. if t then 4 else 16) io)) (sym (low_encodes n less s b));
          io = (λ i. io i && second i) ∙ r.io;
          memory = (λ i. not (io i) && second i) ∙ r.memory;
          pair = (λ i. wide i && n + 1 == count) ∙ r.pair;
          sized = (λ i. has_lawful_size (kind i) (whole i)) ∙ has_lawful_size-of_lawful (kind_at n) (back n) b.k lawful_new;
          within = (λ i. is_within 0 (value i) (whole i)) ∙ sized_within (kind_at n) (shown n) b.k (back n) (bound n less s b) (sized n less s b) small b.aligned;
        }

    has_new : has_bar new n ≡ true
    has_new = and_from (starts_bar new n) (not (bar_at new n == 0)) starts_new (not_from_false (bar_at new n == 0) (ne_eqb (bar_at new n) 0 low_some))

    size_new : bar_size new n ≡ 2 ^ b.k
    size_new =
        let io = (same n less s b).encoding.io in
        let whole = whole_new in
        (λ i. 2 ^ lowest_one (if io i then 2 else 4) (whole i))
        ∙ ap (λ from. 2 ^ lowest_one from (back n)) (sym (first_bit-of_register (bar_at own n)))
        ∙ ap (λ j. 2 ^ j) (lowest_one-of_lawful (kind_at n) (back n) b.k lawful_new).0

  -- ---- all registers

  pub derived_bars_fine : (n : ℕ) → n < count → bar_fault image new n ≡ None
  derived_bars_fine n less = elim (cases_Bool (starts_bar image n)) [
    | inr upper ↦ ap (λ b. if b then first_broken (bar_reading (n + 1 == count) image new n) else None) (starts_too n less ∙ upper)
    | inl s ↦
        ap (λ b. if b then first_broken (bar_reading (n + 1 == count) image new n) else None) (starts_too n less ∙ s)
        ∙ elim (choice n less s) [
          | inl b ↦ absent_is_fine (bar_reading (n + 1 == count) image new n) (absent_value n less s b) (absent_low n less s b)
          | inr b ↦ keeps_rules (bar_reading (n + 1 == count) image new n) (low_some n less s b) (keeps n less s b)
        ]
  ]

  -- an enabled register starts a BAR
  record IsOn (n : ℕ) : Type 0 where
    less : n < count
    starts : starts_bar image n ≡ true

  is_on : (n : ℕ) → enables_bar image n ≡ true → IsOn n
  is_on n on =
      let outer = and_parts (nat_lt n count && starts_bar image n) (is_enabled image (bar_at image n)) on in
      let inner = and_parts (nat_lt n count) (starts_bar image n) outer.0 in
      record {
        less = ltb-true n count inner.0;
        starts = inner.1;
      }

  pub same_bars : (n : ℕ) → IsTrue (enables_bar image n) → has_bar own n ≡ has_bar new n
  same_bars n on =
      let h = is_on n on in
      elim (choice n h.less h.starts) [
        | inl b ↦
            let gone = b.gone on in
            let low = absent_low n h.less h.starts b in
            gone ∙ sym (ap (λ m. starts_bar new n && not (m == 0)) low ∙ no_more (starts_bar new n))
        | inr b ↦ own_has n h.less h.starts b.there ∙ sym (has_new n h.less h.starts b)
      ] where
        no_more : (b : Bool) → (b && false) ≡ false
        no_more true = refl
        no_more false = refl

  pub least_sizes : (n : ℕ) → IsTrue (enables_bar image n) → IsTrue (has_bar own n) → bar_size new n ≤ bar_size own n
  least_sizes n on there =
      let h = is_on n on in
      elim (choice n h.less h.starts) [
        | inl b ↦ absurd (both_ways (has_bar own n) (b.gone on) there)
        | inr b ↦ let least = b.least in let size = size_new n h.less h.starts b in omega (arith, least, size)
      ]

  pub same_sizes : assumes_enabled assuming ≡ false → (n : ℕ) → IsTrue (enables_bar image n) → IsTrue (has_bar own n) → bar_size own n ≡ bar_size new n
  same_sizes exact n on there =
      let h = is_on n on in
      elim (choice n h.less h.starts) [
        | inl b ↦ absurd (both_ways (has_bar own n) (b.gone on) there)
        | inr b ↦ b.size exact ∙ sym (size_new n h.less h.starts b)
      ]

  -- of a BAR that shows something, on or off
  pub all_sizes : assumes_enabled assuming ≡ false → (n : ℕ) → n < count → starts_bar image n ≡ true → (shown n ≡ 0 → ⊥) → (has_bar own n ≡ true) × (has_bar new n ≡ true) × (bar_size own n ≡ bar_size new n)
  all_sizes exact n less starts some = elim (choice n less starts) [
    | inl b ↦ absurd (some b.zeros)
    | inr b ↦ (own_has n less starts b.there, has_new n less starts b, b.size exact ∙ sym (size_new n less starts b))
  ]
