-- What a BAR register decodes to, from what its rules say.
use Rattle.std.proofs.Common.{◌≡◌, ◌≢◌, ◌⊎◌, ℕ, ◌+◌, ◌*◌, ◌^◌, ◌%◌, List, refl, Bool, true, false, not, ◌&&◌, inl, inr, sym, ◌∙◌, ap, subst, Option, Some, None, if◌then◌else◌}
use Rattle.std.specs.Bool.{nat_eq}
use Rattle.std.proofs.lemmas.Bool.{ne_eqb, cases_Bool}
use Rattle.pci_spec.specs.Number.{has_bit, lowest_one}
use Rattle.pci_spec.specs.Header.{bar_register}
use Rattle.pci_spec.specs.Bar.{BarKind, Memory64, BarFault, BarMask, BarType, BarPair, bar_at, whole_bar, bar_kind, is_io, is_wide, type_bits, is_prefetchable, encodings, is_lawful, is_within, BarReading, bar_reading, first_broken}
use Rattle.pci_spec.specs.Decoded.{decoded_bar}
use Rattle.pci_spec.proofs.Ranges.{first_bit, first_bit-of_register, lowest_one-of_lawful, has_lawful_size-of_lawful}
use Rattle.pci_image.specs.declared.bar.Bar.{Bar}
use Rattle.pci_image.specs.declared.bar.BarKind.{BarKind as CodeKind}
use Rattle.pci_image.specs.declared.bar.BarKind.TheVariants.{Io, Mem32, Mem64}
use Rattle.pci_image.specs.Bars.{decoded_kind_of, decoded_bar_of, broken_encoding, broken_size, IsPlaced}

-- ---- sizes and places

-- a lawful size and a value within it break no rule
pub size-kept : (kind : BarKind) (value mask k : ℕ) → is_lawful kind mask k ≡ true → is_within 0 value mask ≡ true → broken_size kind value mask ≡ None
size-kept kind value mask k lawful within =
    let sized = has_lawful_size-of_lawful kind mask k lawful in
    rw (sized, within) refl

-- ---- the rules in their order

-- where the first three rules are kept, the rest decides
passes : (first second third : Bool) (rest : Option BarFault)
    → (if first then Some BarMask else if second then Some BarMask else if third then Some BarType else None) ≡ None
    → (if first then Some BarMask else if second then Some BarMask else if third then Some BarType else rest) ≡ rest
passes true second third rest h = cc
passes false true third rest h = cc
passes false false true rest h = cc
passes false false false rest h = refl

module _ (bar : BarReading) (nonzero : bar.mask ≢ 0) (encoding : broken_encoding bar.value bar.mask ≡ None) where
  -- what is left of the rules after the encoding
  after_encoding : first_broken bar ≡ (if is_wide bar.mask && bar.last then Some BarPair else broken_size (bar_kind bar.mask) bar.whole_value bar.whole_mask)
  after_encoding =
      rw (ne_eqb bar.mask 0 nonzero)
      (passes (not (nat_eq (bar.value % encodings bar.mask) (bar.mask % encodings bar.mask))) (is_io bar.mask && has_bit bar.mask 1) (not (is_io bar.mask) && has_bit bar.mask 1)
      (if is_wide bar.mask && bar.last then Some BarPair else broken_size (bar_kind bar.mask) bar.whole_value bar.whole_mask) encoding)

  -- of a register of one half
  pub after_narrow : is_wide bar.mask ≡ false → first_broken bar ≡ broken_size (bar_kind bar.mask) bar.whole_value bar.whole_mask
  after_narrow narrow = after_encoding ∙ rw narrow refl

  -- of two registers
  pub after_pair : is_wide bar.mask ≡ true → bar.last ≡ false → first_broken bar ≡ broken_size (bar_kind bar.mask) bar.whole_value bar.whole_mask
  after_pair wide more = after_encoding ∙ rw (wide, more) refl

-- whether a register is the lower half of a 64-bit BAR, by its kind
pub wide-of_kind : (mask : ℕ) → bar_kind mask ≡ Memory64 → is_wide mask ≡ true
wide-of_kind mask kind = elim (cases_Bool (is_io mask)) [
  | inl io ↦ let no = rw io at kind in cc
  | inr memory ↦ elim (cases_Bool (nat_eq (type_bits mask) 2)) [
    | inl wide ↦ rw (memory, wide) refl
    | inr other ↦ elim (cases_Bool (nat_eq (type_bits mask) 0)) [
      | inl narrow ↦ let no = rw (memory, other, narrow) at kind in cc
      | inr reserved ↦ let no = rw (memory, other, reserved) at kind in cc
    ]
  ]
]

-- and is none where its kind is another
pub narrow-of_kind : (mask : ℕ) → (bar_kind mask ≡ Memory64 → ⊥) → is_wide mask ≡ false
narrow-of_kind mask other = elim (cases_Bool (is_io mask)) [
  | inl io ↦ rw io refl
  | inr memory ↦ elim (cases_Bool (nat_eq (type_bits mask) 2)) [
    | inl wide ↦ absurd (other (rw (memory, wide) refl))
    | inr narrow ↦ rw (memory, narrow) refl
  ]
]

-- the code's kinds but the last one are of one register
pub narrow_kind : (kind : CodeKind) → (kind ≡ Io) ⊎ (kind ≡ Mem32) → decoded_kind_of kind ≡ Memory64 → ⊥
narrow_kind Io h e = cc
narrow_kind Mem32 h e = cc
narrow_kind Mem64 (inl h) e = cc
narrow_kind Mem64 (inr h) e = cc

-- ---- what is decoded

-- a BAR with the range of its lawful size is what the register decodes to
pub placed-decodes : (image probe : List ℕ) (n value mask : ℕ) (kind : BarKind) (prefetchable : Bool) (bar : Bar)
    → kind ≡ bar_kind (bar_at probe n) → prefetchable ≡ is_prefetchable (bar_at probe n)
    → value ≡ whole_bar probe image n → mask ≡ whole_bar probe probe n
    → IsPlaced (bar_register n) kind prefetchable value mask bar → decoded_bar_of bar ≡ decoded_bar image probe n
placed-decodes image probe n value mask kind prefetchable bar is_kind is_prefetch is_value is_mask (k, lawful, is) =
    let lowest : lowest_one (if is_io (bar_at probe n) then 2 else 4) mask ≡ k =
    subst (λ from. lowest_one from mask ≡ k) (ap first_bit is_kind ∙ first_bit-of_register (bar_at probe n)) (lowest_one-of_lawful kind mask k lawful).0 in
    is ∙ rw (← is_value, ← is_mask, lowest, is_kind, is_prefetch) refl

module _ (last : Bool) (image probe : List ℕ) (n value mask whole_value whole_mask : ℕ) (prefetchable : Bool) (bar : Bar)
    (nonzero : mask ≢ 0) (encoding : broken_encoding value mask ≡ None) (is_prefetch : prefetchable ≡ is_prefetchable mask)
    (is_value : value ≡ bar_at image n) (is_mask : mask ≡ bar_at probe n) where
  -- the read back has ones
  nonzero' : bar_at probe n ≢ 0
  nonzero' = rw is_mask at nonzero

  -- the encoding breaks no rule
  encoding' : broken_encoding (bar_at image n) (bar_at probe n) ≡ None
  encoding' = rw (is_value, is_mask) at encoding

  -- what a register of one half decodes to
  pub narrow-decoded : (kind : BarKind) → kind ≡ bar_kind mask → (kind ≡ Memory64 → ⊥) → whole_value ≡ value → whole_mask ≡ mask
      → broken_size kind whole_value whole_mask ≡ None → IsPlaced (bar_register n) kind prefetchable whole_value whole_mask bar
      → (first_broken (bar_reading last image probe n) ≡ None) × ((bar_at probe n ≢ 0) × (decoded_bar_of bar ≡ decoded_bar image probe n))
  narrow-decoded kind is_kind narrow is_whole is_whole_mask size is_placed =
      let kind' : kind ≡ bar_kind (bar_at probe n) = rw is_mask at is_kind in
      let half : is_wide (bar_at probe n) ≡ false = narrow-of_kind (bar_at probe n) (λ e. narrow (kind' ∙ e)) in
      let value' : whole_value ≡ whole_bar probe image n = is_whole ∙ is_value ∙ rw half refl in
      let mask' : whole_mask ≡ whole_bar probe probe n = is_whole_mask ∙ is_mask ∙ rw half refl in
      let size' : broken_size (bar_kind (bar_at probe n)) (whole_bar probe image n) (whole_bar probe probe n) ≡ None = rw (kind', value', mask') at size in (
        after_narrow (bar_reading last image probe n) nonzero' encoding' half ∙ size',
        (nonzero', placed-decodes image probe n whole_value whole_mask kind prefetchable bar kind' (is_prefetch ∙ ap is_prefetchable is_mask) value' mask' is_placed),
      )

  -- what two registers decode to
  pub pair-decoded : (kind : BarKind) → kind ≡ bar_kind mask → kind ≡ Memory64 → last ≡ false
      → whole_value ≡ bar_at image n + 2 ^ 32 * bar_at image (n + 1) → whole_mask ≡ bar_at probe n + 2 ^ 32 * bar_at probe (n + 1)
      → broken_size kind whole_value whole_mask ≡ None → IsPlaced (bar_register n) kind prefetchable whole_value whole_mask bar
      → (first_broken (bar_reading last image probe n) ≡ None) × ((bar_at probe n ≢ 0) × (decoded_bar_of bar ≡ decoded_bar image probe n))
  pair-decoded kind is_kind pair more is_whole is_whole_mask size is_placed =
      let kind' : kind ≡ bar_kind (bar_at probe n) = rw is_mask at is_kind in
      let wide : is_wide (bar_at probe n) ≡ true = wide-of_kind (bar_at probe n) (sym kind' ∙ pair) in
      let value' : whole_value ≡ whole_bar probe image n = rw wide is_whole in
      let mask' : whole_mask ≡ whole_bar probe probe n = rw wide is_whole_mask in
      let size' : broken_size (bar_kind (bar_at probe n)) (whole_bar probe image n) (whole_bar probe probe n) ≡ None = rw (kind', value', mask') at size in (
        after_pair (bar_reading last image probe n) nonzero' encoding' wide more ∙ size',
        (nonzero', placed-decodes image probe n whole_value whole_mask kind prefetchable bar kind' (is_prefetch ∙ ap is_prefetchable is_mask) value' mask' is_placed),
      )
