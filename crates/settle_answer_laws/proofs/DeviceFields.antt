-- The bits of a device's registers at a byte: they are those of the register in which the byte lies.
use Rattle.std.proofs.Common.{◌≡◌, ℕ, ◌+◌, ◌*◌, ◌-◌, ◌<◌, ◌≤◌, List, false, ◌&&◌, ◌||◌, inl, inr, refl, sym, ◌∙◌, ap, arith, lit<}
use Rattle.std.specs.Bool.{nat_le, nat_lt, ◌==◌, if◌then◌else◌}
use Rattle.std.proofs.lemmas.Bool.{and_left, and_right, cases_lt, cond_both, le-ltb, lt-leb, ne_eqb, or_from}
use Rattle.std.proofs.lemmas.Nat.Bits.{bit_at-zero}
use Rattle.std.specs.Int.{bit_at}
use Rattle.pci_spec.specs.Number.{has_bit, number_at}
use Rattle.pci_spec.specs.Header.{bar_register}
use Rattle.pci_spec.specs.Bar.{bar_at, encodings, starts_bar}
use Rattle.pci_spec.specs.Machine.{Field, bar_field, field_has, in_fields, plain_field, without_low, writable_by}
use Rattle.plan_spec.proofs.Planning.Moved.{kind_fields}

no_bit : (i : ℕ) → has_bit 0 i ≡ false
no_bit i = ne_eqb (bit_at 0 i) 1 (λ one. let zero = bit_at-zero i in omega (arith, one, zero))

module _ (place i : ℕ) where
  -- a field has none where the byte isn't in it, or it has no bits
  field_off : (x : Field) → (x.offset ≤ place → place < x.offset + x.width → x.bits ≡ 0) → field_has place i x ≡ false
  field_off x none = elim (cases_lt place x.offset) [
    | inl low ↦ and_left _ _ (and_left _ _ (lt-leb x.offset place low))
    | inr from ↦ elim (cases_lt place (x.offset + x.width)) [
      | inr high ↦ and_left _ _ (and_right _ _ (le-ltb place (x.offset + x.width) high))
      | inl to ↦ and_right _ _ (ap (λ n. has_bit n (8 * (place - x.offset) + i)) (none from to) ∙ no_bit (8 * (place - x.offset) + i))
    ]
  ]

  -- two fields of the same bytes have the same where they have the same bits, or the byte isn't in them
  field_same : (offset width bits other : ℕ) → (offset ≤ place → place < offset + width → other ≡ bits)
      → field_has place i record { offset = offset; width = width; bits = other } ≡ field_has place i record { offset = offset; width = width; bits = bits }
  field_same offset width bits other same = elim (cases_lt place offset) [
    | inl low ↦ and_left _ _ (and_left _ _ (lt-leb offset place low)) ∙ sym (and_left _ _ (and_left _ _ (lt-leb offset place low)))
    | inr from ↦ elim (cases_lt place (offset + width)) [
      | inr high ↦ and_left _ _ (and_right _ _ (le-ltb place (offset + width) high)) ∙ sym (and_left _ _ (and_right _ _ (le-ltb place (offset + width) high)))
      | inl to ↦ ap (λ n. nat_le offset place && nat_lt place (offset + width) && has_bit n (8 * (place - offset) + i)) (same from to)
    ]
  ]

bar_bits_zero : (probe : List ℕ) (n : ℕ) → bar_at probe n ≡ 0 → (bar_field probe n).bits ≡ 0
bar_bits_zero probe n zero =
    cond_both (starts_bar probe n) (without_low (encodings (bar_at probe n)) (bar_at probe n)) (bar_at probe n) (λ x. x ≡ 0)
    (λ starts. ap (λ m. without_low (encodings m) m) zero) (λ upper. zero)

bar_bits_same : (probe other : List ℕ) (n : ℕ) → starts_bar other n ≡ starts_bar probe n → bar_at other n ≡ bar_at probe n → (bar_field other n).bits ≡ (bar_field probe n).bits
bar_bits_same probe other n starts bar = λ i. if starts i then without_low (encodings (bar i)) (bar i) else bar i

-- the registers of the BARs in which a byte lies have no bits
abbrev pub AreNoBars : List ℕ → ℕ → Type 0
AreNoBars probe place = (n : ℕ) → n < 6 → bar_register n ≤ place → place < bar_register n + 4 → bar_at probe n ≡ 0

-- they are the same
abbrev pub AreSameBars : List ℕ → List ℕ → ℕ → Type 0
AreSameBars probe other place = (n : ℕ) → n < 6 → bar_register n ≤ place → place < bar_register n + 4
    → (starts_bar other n ≡ starts_bar probe n) × (bar_at other n ≡ bar_at probe n)

module _ (place i : ℕ) where
  pub no_fields : (probe : List ℕ) (rom : ℕ) → AreNoBars probe place → (48 ≤ place → place < 52 → rom ≡ 0) → in_fields (kind_fields false probe rom) place i ≡ false
  no_fields probe rom none no_rom =
      or_from _ _ (bar 0 (lit< tt)) (or_from _ _ (bar 1 (lit< tt)) (or_from _ _ (bar 2 (lit< tt)) (or_from _ _ (bar 3 (lit< tt)) (or_from _ _ (bar 4 (lit< tt)) (or_from _ _ (bar 5 (lit< tt))
      (or_from _ _ (field_off place i record { offset = 0x30; width = 4; bits = rom } no_rom) refl))))))
    where
      bar : (n : ℕ) → n < 6 → field_has place i (bar_field probe n) ≡ false
      bar n small = field_off place i (bar_field probe n) (λ from to. bar_bits_zero probe n (none n small from to))

  module _ (probe other : List ℕ) (same : AreSameBars probe other place) where
    bar_same : (n : ℕ) → n < 6 → field_has place i (bar_field other n) ≡ field_has place i (bar_field probe n)
    bar_same n small = field_same place i (bar_register n) 4 (bar_field probe n).bits (bar_field other n).bits (λ from to.
        let both = same n small from to in bar_bits_same probe other n both.0 both.1)

    pub same_fields : (rom rom' : ℕ) → (48 ≤ place → place < 52 → rom' ≡ rom) → in_fields (kind_fields false other rom') place i ≡ in_fields (kind_fields false probe rom) place i
    same_fields rom rom' same_rom =
        let a = bar_same 0 (lit< tt) in
        let b = bar_same 1 (lit< tt) in
        let c = bar_same 2 (lit< tt) in
        let d = bar_same 3 (lit< tt) in
        let e = bar_same 4 (lit< tt) in
        let g = bar_same 5 (lit< tt) in
        let h = field_same place i 0x30 4 rom rom' same_rom in
        λ j. a j || (b j || (c j || (d j || (e j || (g j || (h j || false))))))

    pub same_writable : (48 ≤ place → place < 52 → number_at other 0x30 4 ≡ number_at probe 0x30 4) → in_fields (writable_by false other) place i ≡ in_fields (writable_by false probe) place i
    same_writable same_rom =
        let a = bar_same 0 (lit< tt) in
        let b = bar_same 1 (lit< tt) in
        let c = bar_same 2 (lit< tt) in
        let d = bar_same 3 (lit< tt) in
        let e = bar_same 4 (lit< tt) in
        let g = bar_same 5 (lit< tt) in
        let enable = field_same place i 0x30 1 (if number_at probe 0x30 4 == 0 then 0 else 1) (if number_at other 0x30 4 == 0 then 0 else 1) (λ from to.
        ap (λ n. if n == 0 then 0 else 1) (same_rom from (omega (arith, to)))) in
        let h = field_same place i 0x30 4 (number_at probe 0x30 4) (number_at other 0x30 4) same_rom in
        λ j. a j || (b j || (c j || (d j || (e j || (g j || (enable j || (h j || (field_has place i (plain_field 4 2 0x0547) || (field_has place i (plain_field 0x3c 1 0xff) || false)))))))))
