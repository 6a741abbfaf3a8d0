-- The BARs of a derived probe: each register reads back a BAR that its value goes with, of the size that is told.
use Rattle.std.specs.Prelude.{◌⊎◌}
use Rattle.std.proofs.Common.{◌≡◌, ◌≢◌, ℕ, ◌+◌, ◌*◌, ◌%◌, ◌^◌, Bool, true, false, ◌&&◌, not, Some, None, inl, inr, refl, arith, sym, ◌∙◌, ap}
use Rattle.std.specs.Bool.{nat_eq, ◌==◌, if◌then◌else◌}
use Rattle.std.specs.Int.{bit_at}
use Rattle.std.proofs.lemmas.Bool.{and_parts, both_ways, cases_Bool, eqb-true, eq-eqb, ne_eqb}
use Rattle.std.proofs.lemmas.Option.{none-some}
use Rattle.pci_spec.specs.Number.{has_bit}
use Rattle.pci_spec.specs.Bar.{BarMask, BarType, BarPair, bar_kind, BarReading, first_broken, is_io, is_wide, type_bits, encodings, has_lawful_size, is_within}
use Rattle.pci_spec.specs.Machine.{without_low}
use Rattle.pci_spec.specs.Resource.{ResourceLine, is_of_register, address_count, tells_bar}
use Rattle.pci_spec.specs.Derived.{Derived, Known, Assumed, Untold, OtherSize, bar_of_size, derived_bar, lower_half, read_back_of}
use Rattle.pci_spec.specs.NoProbe.{Assuming, NoSize, assumes_enabled, register_fault}
use Rattle.pci_spec.proofs.BarLaws.{kind_by}
use Rattle.pci_spec.proofs.Ranges.{width_of, ObeysRules}
use Rattle.pci_spec.proofs.ToldAlike.{IsOfEncoding, same_encoding}

-- ---- registers of one encoding

pub record IsSameKind (a b : ℕ) : Type 0 where
  pub encoding : IsOfEncoding a b
  pub kind : bar_kind a ≡ bar_kind b
  pub second : has_bit a 1 ≡ has_bit b 1

second_bit : (io : Bool) (a b : ℕ) → a % (if io then 4 else 16) ≡ b % (if io then 4 else 16) → bit_at a 1 ≡ bit_at b 1
second_bit true a b same = omega (arith, same)
second_bit false a b same = omega (arith, same)

kind_of_tests : (io : Bool) (a b : ℕ) → is_io a ≡ io → is_io b ≡ io → a % (if io then 4 else 16) ≡ b % (if io then 4 else 16) → bar_kind a ≡ bar_kind b
kind_of_tests true a b x y same = ap (λ t. kind_by t (type_bits a == 2) (type_bits a == 0)) x ∙ sym (ap (λ t. kind_by t (type_bits b == 2) (type_bits b == 0)) y)
kind_of_tests false a b x y same =
    let type : type_bits a ≡ type_bits b = omega (arith, same) in
    let io : is_io a ≡ is_io b = x ∙ sym y in
    λ i. kind_by (io i) (type i == 2) (type i == 0)

pub same_kind : (a b : ℕ) → a % encodings b ≡ b % encodings b → IsSameKind a b
same_kind a b same =
    let encoding = same_encoding a b same in
    record {
      encoding = encoding;
      kind = kind_of_tests (is_io b) a b encoding.io refl same;
      second = ap (λ n. n == 1) (second_bit (is_io b) a b same);
    }

width_of_tests : (io wide narrow : Bool) → width_of (kind_by io wide narrow) ≡ (if not io && wide then 64 else 32)
width_of_tests true wide narrow = refl
width_of_tests false true narrow = refl
width_of_tests false false true = refl
width_of_tests false false false = refl

pub width_of_register : (mask : ℕ) → width_of (bar_kind mask) ≡ (if is_wide mask then 64 else 32)
width_of_register mask = width_of_tests (is_io mask) (type_bits mask == 2) (type_bits mask == 0)

-- ---- registers that keep the rules have no fault

pub keeps_rules : (bar : BarReading) → bar.mask ≢ 0 → ObeysRules bar → first_broken bar ≡ None
keeps_rules bar some r =
    let z : nat_eq bar.mask 0 ≡ false = ne_eqb bar.mask 0 some in
    let e : (bar.value % encodings bar.mask == bar.mask % encodings bar.mask) ≡ true = eq-eqb _ _ r.encoding in
    let io = r.io in
    let memory = r.memory in
    let pair = r.pair in
    let sized = r.sized in
    let within = r.within in
    rules_kept (bar.mask == 0) (bar.value == 0) (bar.value % encodings bar.mask == bar.mask % encodings bar.mask) (is_io bar.mask && has_bit bar.mask 1)
    (not (is_io bar.mask) && has_bit bar.mask 1) (is_wide bar.mask && bar.last) (has_lawful_size (bar_kind bar.mask) bar.whole_mask)
    (is_within 0 bar.whole_value bar.whole_mask) z e io memory pair sized within where
      rules_kept : (none clear same io memory pair size within : Bool) → none ≡ false → same ≡ true → io ≡ false → memory ≡ false → pair ≡ false → size ≡ true → within ≡ true
          → (if none then (if clear then None else Some BarMask)
          else if not same then Some BarMask
          else if io then Some BarMask
          else if memory then Some BarType
          else if pair then Some BarPair
          else if not size then Some BarMask
          else if not within then Some BarMask
          else None) ≡ None
      rules_kept none clear same io memory pair size within a b c d e f g =
          λ i. if a i then (if clear then None else Some BarMask)
          else if not (b i) then Some BarMask
          else if c i then Some BarMask
          else if d i then Some BarType
          else if e i then Some BarPair
          else if not (f i) then Some BarMask
          else if not (g i) then Some BarMask
          else None

pub absent_is_fine : (bar : BarReading) → bar.value ≡ 0 → bar.mask ≡ 0 → first_broken bar ≡ None
absent_is_fine bar v m =
    let z : nat_eq bar.mask 0 ≡ true = eq-eqb bar.mask 0 m in
    let w : nat_eq bar.value 0 ≡ true = eq-eqb bar.value 0 v in
    rw (z, w) refl

-- ---- the cases of a derived BAR

abbrev derived_by : Bool → Bool → Bool → ℕ → ℕ → Derived
derived_by told clear addresses size least =
    if told then Known size else if clear then (if addresses then OtherSize else Known 0) else Untold least

-- a register that is no habit's has no fault only where the least size is assumed of it
pub none_assumed : (assuming : Assuming) (register : ℕ) → (if assumes_enabled assuming then None else Some (NoSize register)) ≡ None → assumes_enabled assuming ≡ true
none_assumed assuming register none = elim (cases_Bool (assumes_enabled assuming)) [
  | inl any ↦ any
  | inr off ↦ absurd (none-some (NoSize register) (sym (sym (ap (λ b. if b then None else Some (NoSize register)) off) ∙ none)))
]

-- the least size is taken only where it is assumed of BARs too
abbrev pub Cases : Assuming → Bool → Bool → Bool → ℕ → ℕ → ℕ → Type 0
Cases assuming told clear addresses size least read_back =
    ((told ≡ true) × (read_back ≡ size))
    ⊎ ((clear ≡ true) × (addresses ≡ false) × (read_back ≡ 0))
    ⊎ ((clear ≡ false) × (assumes_enabled assuming ≡ true) × (read_back ≡ least))

derived_cases : (assuming : Assuming) (register : ℕ) (told clear addresses : Bool) (size least : ℕ)
    → register_fault assuming register (lower_half (derived_by told clear addresses size least)) ≡ None
    → Cases assuming told clear addresses size least (read_back_of (derived_by told clear addresses size least))
derived_cases assuming register true clear addresses size least none = inl (refl, refl)
derived_cases assuming register false true true size least none = absurd (cc)
derived_cases assuming register false true false size least none = inr (inl (refl, refl, refl))
derived_cases assuming register false false addresses size least none = inr (inr (refl, none_assumed assuming register none, refl))

pub bar_cases : (assuming : Assuming) (register : ℕ) (line : ResourceLine) (width value : ℕ) → register_fault assuming register (lower_half (derived_bar line width value)) ≡ None
    → Cases assuming (tells_bar line width value) (value == 0) (is_of_register line) (bar_of_size width value (address_count line)) (bar_of_size width value (encodings value))
    (read_back_of (derived_bar line width value))
unfolding derived_bar
bar_cases assuming register line width value none =
    derived_cases assuming register (tells_bar line width value) (value == 0) (is_of_register line) (bar_of_size width value (address_count line)) (bar_of_size width value (encodings value)) none

pub lower_read_back : (d : Derived) → read_back_of (lower_half d) ≡ read_back_of d % 2 ^ 32
lower_read_back (Known read_back) = refl
lower_read_back (Assumed read_back) = refl
lower_read_back (Untold read_back) = refl
lower_read_back OtherSize = refl

pub aligned_told : (line : ResourceLine) (width value : ℕ) → tells_bar line width value ≡ true → without_low (encodings value) value % address_count line ≡ 0
unfolding tells_bar
aligned_told line width value told = eqb-true _ 0 (and_parts _ (without_low (encodings value) value % address_count line == 0) told).1

pub aligned_by : (io : Bool) (value : ℕ) → without_low (if io then 4 else 16) value % (if io then 4 else 16) ≡ 0
aligned_by true value = omega arith
aligned_by false value = omega arith

-- ---- numbers

pub low_encoding : (io wide : Bool) (rb v low high : ℕ) → v ≡ (if wide then low + 2 ^ 32 * high else low) → rb % (if io then 4 else 16) ≡ v % (if io then 4 else 16)
    → rb % 2 ^ 32 % (if io then 4 else 16) ≡ low % (if io then 4 else 16)
low_encoding true true rb v low high e same = omega (arith, e, same)
low_encoding true false rb v low high e same = omega (arith, e, same)
low_encoding false true rb v low high e same = omega (arith, e, same)
low_encoding false false rb v low high e same = omega (arith, e, same)

-- a register of an encoding of 64 bits isn't 0
pub wide_some : (n : ℕ) → is_wide n ≡ true → n ≡ 0 → ⊥
wide_some n wide none = both_ways false refl (sym (ap is_wide none) ∙ wide)

pub io_of_whole : (wide : Bool) (low high : ℕ) → is_io (if wide then low + 2 ^ 32 * high else low) ≡ is_io low
io_of_whole true low high = ap (λ n. n == 1) (let e : bit_at (low + 2 ^ 32 * high) 0 ≡ bit_at low 0 = omega arith in e)
io_of_whole false low high = refl

pub zero_of_whole : (wide : Bool) (low high : ℕ) → (if wide then low + 2 ^ 32 * high else low) ≡ 0 → low ≡ 0
zero_of_whole true low high e = omega (arith, e)
zero_of_whole false low high e = e
