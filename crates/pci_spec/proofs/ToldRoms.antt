-- The ROM of a function whose probe is derived from lines that are true of it.
use Rattle.std.specs.Prelude.{◌⊎◌}
use Rattle.std.proofs.Common.{◌≡◌, ℕ, ◌+◌, ◌%◌, ◌^◌, ◌<◌, ◌≤◌, Bool, true, false, ◌&&◌, List, None, inl, inr, refl, arith, sym, ◌∙◌, ap, lit<, lit≤}
use Rattle.std.specs.Bool.{nat_le, ◌==◌, if◌then◌else◌, IsTrue}
use Rattle.std.specs.Int.{bit_at}
use Rattle.std.proofs.lemmas.Bool.{and_parts, and_from, and_left, and_right, both_ways, cases_lt, eqb-true, eqb-false, eq-eqb, le-leb, not_from_true}
use Rattle.std.proofs.lemmas.Nat.Bits.{bit_at-lt, bit_at_above, bit_at-zero}
use Rattle.pci_spec.specs.Number.{has_bit, lowest_one, some_from, IsImage}
use Rattle.pci_spec.specs.Header.{layout, command, rom_register}
use Rattle.pci_spec.specs.Bar.{is_within}
use Rattle.pci_spec.specs.Rom.{rom_at, has_rom, rom_is_on, is_rom_size, breaks_rom_rule}
use Rattle.pci_spec.specs.System.{Function}
use Rattle.pci_spec.specs.Machine.{without_low}
use Rattle.pci_spec.specs.Decoded.{IsDecodable, rom_size}
use Rattle.pci_spec.specs.Resource.{ResourceLine, rom_line, address_count, tells_rom, rom_step}
use Rattle.pci_spec.specs.Derived.{Derived, Known, Assumed, Untold, rom_of_size, derived_rom, rom_derived, read_back_of, derived_probe}
use Rattle.pci_spec.specs.NoProbe.{Assuming, assumes_enabled, register_fault, no_probe}
use Rattle.pci_spec.specs.ToldAlike.{enables_rom}
use Rattle.pci_spec.specs.TrueLines.{IsTrueOf}
use Rattle.pci_spec.proofs.Bits.{each_from-by, some_from-at, bit_of_true, bit_at-mod, bit_at-without_low}
use Rattle.pci_spec.proofs.BarLaws.{bit_of_run, number_at-small, rom_run, rom_read_back_shows_size}
use Rattle.pci_spec.proofs.ReadBacks.{IsRomRegister, rom_rules}
use Rattle.pci_spec.proofs.Ranges.{lowest_one-of_run, lawful_rom}
use Rattle.pci_spec.proofs.DerivedBits.{multiple, pow_within, in_run}
use Rattle.pci_spec.proofs.DerivedBytes.{rom_number, rom_no_fault}
use Rattle.pci_spec.proofs.DerivedBars.{none_assumed}
use Rattle.pci_spec.proofs.ToldAlike.{on_is_there}
use Rattle.pci_spec.proofs.ToldBars.{layouts}

-- ---- numbers

rom_mask : (k : ℕ) → 11 ≤ k → k ≤ 24 → rom_of_size (2 ^ k) % 2 ^ 32 + 2 ^ k ≡ 2 ^ 32
rom_mask k least most =
    let e = multiple 11 k least in
    let less = pow_within k 24 most in
    let some = pow_within 11 k least in
    omega (arith, e, less, some)

rom_sized : (k mask : ℕ) → 11 ≤ k → k ≤ 24 → mask ≡ rom_of_size (2 ^ k) % 2 ^ 32 → is_rom_size mask k ≡ true
rom_sized k mask least most is =
    let small : mask < 2 ^ 32 = omega (arith, is) in
    (rom_read_back_shows_size mask k small).1 (least, most, ap (λ m. m + 2 ^ k) is ∙ rom_mask k least most)

rom_within : (k value mask : ℕ) → is_rom_size mask k ≡ true → value < 2 ^ 32 → ((i : ℕ) → 1 ≤ i → i < 11 → bit_at value i ≡ 0) → without_low rom_step value % 2 ^ k ≡ 0
    → is_within 1 value mask ≡ true
rom_within k value mask lawful small low aligned = each_from-by 1 63 (λ i. nat_le (bit_at value i) (bit_at mask i)) (λ i from to. le-leb (bit_at value i) (bit_at mask i) (
    elim (cases_lt i 11) [
      | inl under ↦ let clear = low i from under in omega (arith, clear)
      | inr over ↦ elim (cases_lt i k) [
        | inl below ↦
            let v = bit_at-without_low value 11 i over in
            let m = bit_at-mod (without_low rom_step value) k i below in
            let e = ap (λ n. bit_at n i) aligned in
            let z = bit_at-zero i in
            omega (arith, v, m, e, z)
        | inr at ↦ elim (cases_lt i 32) [
          | inl inside ↦
              let one = bit_of_true mask i (bit_of_run 0 mask k 31 i (rom_run mask k lawful).run (omega arith) to ∙ in_run k i 31 at (omega (arith, inside))) in
              let v = bit_at-lt value i in
              omega (arith, one, v)
          | inr above ↦ let v = bit_at_above value 32 i small above in omega (arith, v)
        ]
      ]
    ]))

-- ---- the cases of a derived ROM

abbrev rom_by : Bool → Bool → Bool → ℕ → ℕ → Derived
rom_by told clear on size least = if told then Known size else if clear then Known 0 else if on then Untold least else Assumed least

abbrev Cases : Assuming → Bool → Bool → Bool → ℕ → ℕ → ℕ → Type 0
Cases assuming told clear on size least read_back =
    ((told ≡ true) × (read_back ≡ size)) ⊎ ((clear ≡ true) × (read_back ≡ 0)) ⊎ ((clear ≡ false) × ((on ≡ false) ⊎ (assumes_enabled assuming ≡ true)) × (read_back ≡ least))

cases_by : (assuming : Assuming) (register : ℕ) (told clear on : Bool) (size least : ℕ) → register_fault assuming register (rom_by told clear on size least) ≡ None
    → Cases assuming told clear on size least (read_back_of (rom_by told clear on size least))
cases_by assuming register true clear on size least none = inl (refl, refl)
cases_by assuming register false true on size least none = inr (inl (refl, refl))
cases_by assuming register false false true size least none = inr (inr (refl, inr (none_assumed assuming register none), refl))
cases_by assuming register false false false size least none = inr (inr (refl, inl refl, refl))

rom_cases : (assuming : Assuming) (register : ℕ) (line : ResourceLine) (enabled : Bool) (value : ℕ) → register_fault assuming register (derived_rom line enabled value) ≡ None
    → Cases assuming (tells_rom line value) (value == 0) (has_bit value 0 && enabled) (rom_of_size (address_count line)) (rom_of_size rom_step) (read_back_of (derived_rom line enabled value))
unfolding derived_rom
rom_cases assuming register line enabled value none =
    cases_by assuming register (tells_rom line value) (value == 0) (has_bit value 0 && enabled) (rom_of_size (address_count line)) (rom_of_size rom_step) none

aligned_told : (line : ResourceLine) (value : ℕ) → tells_rom line value ≡ true → without_low rom_step value % address_count line ≡ 0
unfolding tells_rom
aligned_told line value told = eqb-true _ 0 (and_parts _ (without_low rom_step value % address_count line == 0) told).1

module _ (f : Function) (lines : List ResourceLine) (is : IsImage f.image) (good : IsDecodable f) (told : IsTrueOf lines f.image f.probe) (assuming : Assuming) (none : no_probe assuming f.image lines ≡ None) where
  abbrev new : List ℕ
  new = derived_probe f.image lines

  abbrev value : ℕ
  value = rom_at f.image f.image

  -- the register has no read back and shows 0, or it has one that the value goes with
  record IsAbsentRom : Type 0 where
    zeros : value ≡ 0
    read_back : rom_at f.image new ≡ 0

  record IsSizedRom : Type 0 where
    k : ℕ
    lawful : is_rom_size (rom_at f.image new) k ≡ true
    within : is_within 1 value (rom_at f.image new) ≡ true
    least : enables_rom f.image ≡ true → 2 ^ k ≤ rom_size f.image f.probe
    size : assumes_enabled assuming ≡ false → enables_rom f.image ≡ true → rom_size f.image f.probe ≡ 2 ^ k

  low_clear : IsRomRegister value (rom_at f.image f.probe) → (i : ℕ) → 1 ≤ i → i < 11 → bit_at value i ≡ 0
  low_clear r i from under = let clear = r.low i under in let less = r.under i from (omega (arith, under)) in omega (arith, clear, less)

  small : value < 2 ^ 32
  small = number_at-small f.image (rom_register (layout f.image)) is

  told_case : tells_rom (rom_line lines) value ≡ true → read_back_of (rom_derived f.image lines) ≡ rom_of_size (address_count (rom_line lines)) → IsSizedRom
  told_case t e =
      let fact = told.rom t in
      let k : ℕ = lowest_one 0 (rom_at f.image f.probe) in
      let own = lawful_rom f.image f.probe fact.0 good.rom in
      let run = rom_run (rom_at f.image f.probe) k own.0 in
      let count : address_count (rom_line lines) ≡ 2 ^ k = sym fact.1 in
      let mask : rom_at f.image new ≡ rom_of_size (2 ^ k) % 2 ^ 32 =
      rom_number f.image lines (layouts f good) ∙ ap (λ m. m % 2 ^ 32) e ∙ ap (λ c. rom_of_size c % 2 ^ 32) count in
      let lawful = rom_sized k (rom_at f.image new) run.least run.most mask in
      let aligned = sym (ap (λ c. without_low rom_step value % c) count) ∙ aligned_told (rom_line lines) value t in
      let low : (i : ℕ) → 1 ≤ i → i < 11 → bit_at value i ≡ 0 = elim (rom_rules f.image f.probe good.rom) [
        | inl zeros ↦ λ i from under. let v = ap (λ n. bit_at n i) zeros.1 in let z = bit_at-zero i in v ∙ z
        | inr r ↦ low_clear r
      ] in
      record { k = k; lawful = lawful; within = rom_within k value (rom_at f.image new) lawful small low aligned; least = λ on. omega arith; size = λ exact on. refl }

  assumed_case : (value == 0) ≡ false → ((has_bit value 0 && has_bit (command f.image) 1) ≡ false) ⊎ (assumes_enabled assuming ≡ true) → read_back_of (rom_derived f.image lines) ≡ rom_of_size rom_step → IsSizedRom
  assumed_case some may e =
      let mask : rom_at f.image new ≡ rom_of_size (2 ^ 11) % 2 ^ 32 = rom_number f.image lines (layouts f good) ∙ ap (λ m. m % 2 ^ 32) e in
      let lawful = rom_sized 11 (rom_at f.image new) (lit≤ tt) (lit≤ tt) mask in
      let low : (i : ℕ) → 1 ≤ i → i < 11 → bit_at value i ≡ 0 = elim (rom_rules f.image f.probe good.rom) [
        | inl zeros ↦ absurd (eqb-false value 0 some zeros.1)
        | inr r ↦ low_clear r
      ] in
      record {
        k = 11;
        lawful = lawful;
        within = rom_within 11 value (rom_at f.image new) lawful small low (omega arith);
        least = λ on.
            let there = on_is_there f.image f.probe (and_parts (has_bit (command f.image) 1) (rom_is_on f.image) on).1 in
            let run = rom_run (rom_at f.image f.probe) (lowest_one 0 (rom_at f.image f.probe)) (lawful_rom f.image f.probe there good.rom).0 in
            pow_within 11 (lowest_one 0 (rom_at f.image f.probe)) run.least;
        size = λ exact on.
            let both = and_parts (has_bit (command f.image) 1) (rom_is_on f.image) on in
            elim may [
              | inl off ↦ absurd (both_ways (has_bit value 0 && has_bit (command f.image) 1) off (and_from (has_bit value 0) (has_bit (command f.image) 1) both.1 both.0))
              | inr any ↦ absurd (both_ways (assumes_enabled assuming) exact any)
            ];
      }

  choice : IsAbsentRom ⊎ IsSizedRom
  choice = elim (rom_cases assuming (rom_register (layout f.image)) (rom_line lines) (has_bit (command f.image) 1) value (rom_no_fault f.image lines (layouts f good) assuming none)) [
    | inl known ↦ inr (told_case known.0 known.1)
    | inr other ↦ elim other [
      | inl clear ↦ inl record { zeros = eqb-true value 0 clear.0; read_back = rom_number f.image lines (layouts f good) ∙ ap (λ m. m % 2 ^ 32) clear.1 }
      | inr assumed ↦ inr (assumed_case assumed.0 assumed.1 assumed.2)
    ]
  ]

  pub derived_rom_fine : breaks_rom_rule f.image new ≡ false
  derived_rom_fine = elim choice [
    | inl b ↦
        let v = b.zeros in
        let m = b.read_back in
        and_left (has_rom f.image new) _ (not_from_true _ (and_from (value == 0) (rom_at f.image new == 0) (eq-eqb value 0 v) (eq-eqb (rom_at f.image new) 0 m)))
    | inr b ↦
        let run = rom_run (rom_at f.image new) b.k b.lawful in
        let most = run.most in
        let found = some_from-at 0 64 (is_rom_size (rom_at f.image new)) b.k (omega arith) (omega (arith, most)) b.lawful in
        and_right (has_rom f.image new) _ (not_from_true _ (and_from (some_from 0 64 (is_rom_size (rom_at f.image new))) (is_within 1 value (rom_at f.image new)) found b.within))
  ]

  -- a ROM that is on has a size
  sized_of_on : IsTrue (enables_rom f.image) → IsSizedRom
  sized_of_on on = elim choice [
    | inl b ↦
        let bit = eqb-true (bit_at value 0) 1 (and_parts (has_bit (command f.image) 1) (rom_is_on f.image) on).1 in
        let v = b.zeros in
        absurd (let no : ⊥ = omega (arith, bit, v) in no)
    | inr b ↦ b
  ]

  size_new : (b : IsSizedRom) → rom_size f.image new ≡ 2 ^ b.k
  size_new b =
      let run = rom_run (rom_at f.image new) b.k b.lawful in
      let most = run.most in
      ap (λ j. 2 ^ j) (lowest_one-of_run 0 (rom_at f.image new) b.k 31 (omega arith) (omega (arith, most)) (lit< tt) run.run)

  pub least_rom : IsTrue (enables_rom f.image) → rom_size f.image new ≤ rom_size f.image f.probe
  least_rom on =
      let b = sized_of_on on in
      let least = b.least on in
      let size = size_new b in
      omega (arith, least, size)

  pub same_rom : assumes_enabled assuming ≡ false → IsTrue (enables_rom f.image) → rom_size f.image f.probe ≡ rom_size f.image new
  same_rom exact on = let b = sized_of_on on in b.size exact on ∙ sym (size_new b)
