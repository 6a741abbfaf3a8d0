-- A function with the enable bit of its ROM set shows what it showed before, but for that bit.
use Rattle.std.proofs.Common.{◌≡◌, ◌≢◌, ℕ, ◌+◌, ◌/◌, ◌%◌, ◌^◌, ◌≤◌, inl, inr, List, refl, true, false, ◌&&◌, not, arith, sym, ◌∙◌, ap, subst, set}
use Rattle.std.specs.Bool.{◌==◌, if◌then◌else◌}
use Rattle.std.proofs.lemmas.Bool.{cases_Bool, cases_eq, and_parts, not-true, both_ways}
use Rattle.std.proofs.lemmas.List.{get_or-set_same, get_or-set_other, length-set}
use Rattle.pci_spec.specs.Number.{byte_at, has_bit, IsImage}
use Rattle.pci_spec.specs.Header.{layout, rom_register}
use Rattle.pci_spec.specs.Rom.{has_rom}
use Rattle.pci_spec.specs.System.{Function}
use Rattle.plan_spec.specs.PlanPromise.{with_rom_on}
use Rattle.pci_spec.proofs.Bits.{bit_of_false}

-- only the first byte of the ROM register may differ, in its bit 0, and where there is no ROM it doesn't
pub record IsRomOn (f g : Function) : Type 0 where
  pub slot : g.slot ≡ f.slot
  pub probe : g.probe ≡ f.probe
  pub image : IsImage g.image
  pub bytes : (place : ℕ) → place ≢ rom_register (layout f.image) → byte_at g.image place ≡ byte_at f.image place
  pub half : byte_at g.image (rom_register (layout f.image)) / 2 ≡ byte_at f.image (rom_register (layout f.image)) / 2
  pub more : byte_at f.image (rom_register (layout f.image)) ≤ byte_at g.image (rom_register (layout f.image))
  pub none : has_rom f.image f.probe ≡ false → g.image ≡ f.image

pub rom_place : (kind : ℕ) → (0x30 ≤ rom_register kind) × (rom_register kind ≤ 0x38)
rom_place kind = elim (cases_Bool (kind == 1)) [
  | inl b ↦ (let e : rom_register kind ≡ 0x38 = ap (λ t. if t then 0x38 else 0x30) b in (omega (arith, e), omega (arith, e)))
  | inr d ↦ (let e : rom_register kind ≡ 0x30 = ap (λ t. if t then 0x38 else 0x30) d in (omega (arith, e), omega (arith, e)))
]

rom_itself : (f : Function) → IsImage f.image → IsRomOn f f
rom_itself f is = record { slot = refl; probe = refl; image = is; bytes = λ place other. refl; half = refl; more = omega arith; none = λ n. refl }

abbrev lit_byte : Function → ℕ
lit_byte f = byte_at f.image (rom_register (layout f.image))

abbrev lit_image : Function → List ℕ
lit_image f = set f.image (rom_register (layout f.image)) (lit_byte f + 1)

module _ (f : Function) (is : IsImage f.image) (there : has_rom f.image f.probe ≡ true) (dark : has_bit (lit_byte f) 0 ≡ false) where
  even : lit_byte f % 2 ≡ 0
  even = let e : lit_byte f / 2 ^ 0 % 2 ≡ 0 = bit_of_false (lit_byte f) 0 dark in omega (arith, e)

  at_rom : byte_at (lit_image f) (rom_register (layout f.image)) ≡ lit_byte f + 1
  at_rom =
      let r = rom_place (layout f.image) in
      let high = r.1 in
      let full = is.full in
      get_or-set_same f.image (rom_register (layout f.image)) (lit_byte f + 1) 0 (omega (arith, high, full))

  elsewhere : (place : ℕ) → place ≢ rom_register (layout f.image) → byte_at (lit_image f) place ≡ byte_at f.image place
  elsewhere place other = get_or-set_other f.image (rom_register (layout f.image)) place (lit_byte f + 1) 0 other

  lit_bytes : IsImage (lit_image f)
  lit_bytes = record {
    full = length-set f.image (rom_register (layout f.image)) (lit_byte f + 1) ∙ is.full;
    bytes = λ place. elim (cases_eq place (rom_register (layout f.image))) [
      | inl here ↦
          let b = is.bytes (rom_register (layout f.image)) in
          let now : byte_at (lit_image f) place ≡ lit_byte f + 1 = ap (byte_at (lit_image f)) here ∙ at_rom in
          omega (arith, now, b, even)
      | inr other ↦ let b = is.bytes place in let now = elsewhere place other in omega (arith, b, now)
    ];
  }

  lit_rom : IsRomOn f (record f { image = lit_image f })
  lit_rom = record {
    slot = refl;
    probe = refl;
    image = lit_bytes;
    bytes = elsewhere;
    half = omega (arith, at_rom, even);
    more = omega (arith, at_rom);
    none = λ n. absurd (both_ways (has_rom f.image f.probe) n there);
  }

pub rom_on : (f : Function) → IsImage f.image → IsRomOn f (with_rom_on f)
rom_on f is = elim (cases_Bool (has_rom f.image f.probe && not (has_bit (lit_byte f) 0))) [
  | inl lit ↦
      let parts = and_parts (has_rom f.image f.probe) (not (has_bit (lit_byte f) 0)) lit in
      subst (IsRomOn f) (sym (ap (λ b. if b then record f { image = lit_image f } else f) lit)) (lit_rom f is parts.0 (not-true (has_bit (lit_byte f) 0) parts.1))
  | inr off ↦ subst (IsRomOn f) (sym (ap (λ b. if b then record f { image = lit_image f } else f) off)) (rom_itself f is)
]
