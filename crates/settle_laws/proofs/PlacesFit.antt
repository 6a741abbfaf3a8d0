-- An image that differs in address bits alone from another, register by register.
use Rattle.std.proofs.Common.{◌≡◌, ℕ, ◌+◌, ◌-◌, ◌^◌, ◌<◌, ◌≤◌, inl, inr, List, refl, Bool, true, false, arith, sym, ◌∙◌, ap}
use Rattle.std.specs.Bool.{if◌then◌else◌}
use Rattle.std.specs.Int.{bit_at}
use Rattle.std.proofs.lemmas.Bool.{cases_Bool, cases_lt}
use Rattle.pci_spec.specs.Number.{byte_at, IsImage}
use Rattle.pci_spec.specs.Bar.{IoBar, Memory32, Memory64, Reserved, first_bit}
use Rattle.pci_spec.specs.Window.{WindowKind, IoWindow, MemoryWindow, PrefetchWindow, Bounds, bounds_for, is_wide_window}
use Rattle.pci_spec.specs.System.{Function, Bar, Rom}
use Rattle.pci_spec.specs.Machine.{in_fields, address_fields}
use Rattle.plan_spec.specs.Place.{nibble_of}
use Rattle.plan_spec.proofs.Planning.BitsFit.{BitsFit}
use Rattle.plan_spec.proofs.Planning.Registers.{register_bit, datum_bit_at}
use Rattle.plan_spec.proofs.Planning.WindowFits.{AreKept, PartsFit, open_kept}
use Rattle.settle_spec.specs.Items.{highest_in}
use Rattle.judge_spec.specs.Windows.{with_number, with_bounds}
use Rattle.settle_laws.proofs.Numbers.{with_elsewhere, with_image, with_inside}

-- ---- what is written where only address bits differ

-- an image with the bits of a function's that aren't address bits
pub record HasBits (f : Function) (image : List ℕ) : Type 0 where
  pub whole : IsImage image
  pub bits : (place i : ℕ) → place < 256 → i < 8 → in_fields (address_fields f.image f.probe) place i ≡ false → bit_at (byte_at image place) i ≡ bit_at (byte_at f.image place) i

module _ (f : Function) (is : IsImage f.image) where
  pub with_fit : (w o v : ℕ) (image : List ℕ) → o + w ≤ 256 → BitsFit f o w v → HasBits f image → HasBits f (with_number w o v image)
  with_fit w o v image room fit h = record {
    whole = with_image w o v image h.whole;
    bits = λ place i inside small plain. elim (cases_lt place o) [
      | inl before ↦ ap (λ b. bit_at b i) (with_elsewhere w o v place image (inl before)) ∙ h.bits place i inside small plain
      | inr from ↦ elim (cases_lt place (o + w)) [
        | inr after ↦ ap (λ b. bit_at b i) (with_elsewhere w o v place image (inr after)) ∙ h.bits place i inside small plain
        | inl to ↦
            let j = place - o in
            let at : o + j ≡ place = omega (arith, from) in
            let short : j < w = omega (arith, from, to) in
            let full = h.whole.full in
            ap (λ p. bit_at (byte_at (with_number w o v image) p) i) (sym at)
            ∙ ap (λ b. bit_at b i) (with_inside w o v j image short (omega (arith, full, room)))
            ∙ datum_bit_at v j i small
            ∙ fit j i short small (ap (λ p. in_fields (address_fields f.image f.probe) p i) at ∙ plain)
            ∙ register_bit f.image o is w j i short small
            ∙ ap (λ p. bit_at (byte_at f.image p) i) at
      ]
    ];
  }

  pub bounds_fit : (c : WindowKind) (v : Bounds) (image : List ℕ) → PartsFit f c v → HasBits f image → HasBits f (with_bounds c v image)
  bounds_fit IoWindow v image parts h =
      with_fit 2 0x32 v.limit_upper _ (omega arith) parts.limit_upper (with_fit 2 0x30 v.base_upper _ (omega arith) parts.base_upper
      (with_fit 1 0x1d v.limit _ (omega arith) parts.limit (with_fit 1 0x1c v.base image (omega arith) parts.base h)))
  bounds_fit MemoryWindow v image parts h = with_fit 2 0x22 v.limit _ (omega arith) parts.limit (with_fit 2 0x20 v.base image (omega arith) parts.base h)
  bounds_fit PrefetchWindow v image parts h =
      with_fit 4 0x2c v.limit_upper _ (omega arith) parts.limit_upper (with_fit 4 0x28 v.base_upper _ (omega arith) parts.base_upper
      (with_fit 2 0x26 v.limit _ (omega arith) parts.limit (with_fit 2 0x24 v.base image (omega arith) parts.base h)))

-- ---- how far places reach

pub encoding_width : (io wide narrow : Bool) → (if io then 4 else 16) ≡ 2 ^ first_bit (if io then IoBar else if wide then Memory64 else if narrow then Memory32 else Reserved)
encoding_width true wide narrow = refl
encoding_width false true narrow = refl
encoding_width false false true = refl
encoding_width false false false = refl

-- the registers of a window that ends by the highest address that it can hold are in keeping with their low nibbles
pub bounds_kept : (c : WindowKind) (f : Function) (first last : ℕ) → nibble_of c f ≤ 1 → first ≤ last → last ≤ highest_in c f.probe → AreKept c (nibble_of c f) (bounds_for c (nibble_of c f) first last)
bounds_kept IoWindow f first last few order low = elim (cases_Bool (is_wide_window IoWindow f.probe)) [
  | inl wide ↦
      let n : nibble_of IoWindow f ≡ 1 = ap (λ t. if t then 1 else 0) wide in
      let h : highest_in IoWindow f.probe ≡ 0xffff_ffff = ap (λ t. if t then 0xffff_ffff else 0xffff) wide in
      record {
        base_nibble = omega (arith, few);
        limit_nibble = omega (arith, few);
        base_small = omega (arith, few);
        limit_small = omega (arith, few);
        base_upper_small = omega (arith, n, h, order, low);
        limit_upper_small = omega (arith, n, h, low);
      }
  | inr narrow ↦ (let h : highest_in IoWindow f.probe ≡ 0xffff = ap (λ t. if t then 0xffff_ffff else 0xffff) narrow in open_kept IoWindow (nibble_of IoWindow f) first last few order (omega (arith, low, h)))
]
bounds_kept MemoryWindow f first last few order low = open_kept MemoryWindow (nibble_of MemoryWindow f) first last few order (omega (arith, low))
bounds_kept PrefetchWindow f first last few order low = open_kept PrefetchWindow (nibble_of PrefetchWindow f) first last few order (elim (cases_Bool (is_wide_window PrefetchWindow f.probe)) [
  | inl wide ↦
      let n : nibble_of PrefetchWindow f ≡ 1 = ap (λ t. if t then 1 else 0) wide in
      let h : highest_in PrefetchWindow f.probe ≡ 0xffff_ffff_ffff_ffff = ap (λ t. if t then 0xffff_ffff_ffff_ffff else 0xffff_ffff) wide in
      (omega (arith, low, h), λ none. let no : ⊥ = omega (arith, n, none) in absurd no)
  | inr narrow ↦ (let h : highest_in PrefetchWindow f.probe ≡ 0xffff_ffff = ap (λ t. if t then 0xffff_ffff_ffff_ffff else 0xffff_ffff) narrow in (omega (arith, low, h), λ none. omega (arith, low, h)))
])

pub one_bar : (m n : ℕ) → Bar m ≡ Bar n → m ≡ n
one_bar m n e = cc

pub no_bar : (n : ℕ) → Rom ≡ Bar n → ⊥
no_bar n e = cc
