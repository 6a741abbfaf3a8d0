-- The number that places a ROM fits its register.
use Rattle.std.proofs.Common.{◌≡◌, ℕ, ◌+◌, ◌%◌, ◌^◌, ◌<◌, ◌≤◌, inl, inr, true, false, cond, arith, ◌∙◌, ap}
use Rattle.std.specs.Bool.{if◌then◌else◌}
use Rattle.std.specs.Int.{bit_at}
use Rattle.std.proofs.lemmas.Bool.{cases_Bool}
use Rattle.std.proofs.lemmas.Nat.{mod_below, pow_below}
use Rattle.pci_spec.specs.Number.{lowest_one, IsImage}
use Rattle.pci_spec.specs.Header.{layout, rom_register}
use Rattle.pci_spec.specs.Rom.{rom_at, has_rom, breaks_rom_rule}
use Rattle.pci_spec.specs.Decoded.{rom_size}
use Rattle.pci_spec.specs.System.{Function, is_bridge}
use Rattle.plan_spec.specs.Planning.Showing.{rom_value}
use Rattle.plan_spec.proofs.Planning.Registers.{number_below}
use Rattle.plan_spec.proofs.Planning.AddressBits.{field_rom}
use Rattle.plan_spec.proofs.Planning.BarValues.{rom_fits, rom_run}
use Rattle.plan_spec.proofs.Planning.BitsFit.{BitsFit, fits_field}

-- what the register has to hold with the ROM at a place
abbrev pub rom_by : Function → ℕ → ℕ
rom_by f place = if has_rom f.image f.probe then rom_value f.image place else rom_at f.image f.image

module _ (f : Function) (is : IsImage f.image) (place : ℕ) (fine : breaks_rom_rule f.image f.probe ≡ false)
    (at : has_rom f.image f.probe ≡ true → (place % rom_size f.image f.probe ≡ 0) × (place + rom_size f.image f.probe ≤ 2 ^ 32)) where
  pub rom_there : has_rom f.image f.probe ≡ true → rom_by f place ≡ rom_value f.image place
  rom_there there = ap (λ t. cond t (rom_value f.image place) (rom_at f.image f.image)) there

  rom_absent : has_rom f.image f.probe ≡ false → rom_by f place ≡ rom_at f.image f.image
  rom_absent none = ap (λ t. cond t (rom_value f.image place) (rom_at f.image f.image)) none

  pub rom_number_fits : BitsFit f (rom_register (layout f.image)) 4 (rom_by f place)
  rom_number_fits = fits_field f (rom_register (layout f.image)) 4 (rom_at f.image f.probe) (rom_by f place) (field_rom (is_bridge f) f.probe (rom_at f.image f.probe))
      (λ b inside dark. elim (cases_Bool (has_rom f.image f.probe)) [
        | inl there ↦
            let found = at there in
            ap (λ n. bit_at n b) (rom_there there) ∙ rom_fits f.image f.probe place there fine found.0 found.1 b (omega (arith, inside)) (inr dark)
        | inr none ↦ ap (λ n. bit_at n b) (rom_absent none)
      ])

  pub rom_number_small : rom_by f place < 2 ^ 32
  rom_number_small = elim (cases_Bool (has_rom f.image f.probe)) [
    | inl there ↦
        let found = at there in
        let room = found.1 in
        let run = (rom_run f.image f.probe place there fine found.0 room).0 in
        let least = pow_below 10 (lowest_one 0 (rom_at f.image f.probe)) (omega (arith, run)) in
        let low = mod_below (rom_at f.image f.image) (2 ^ 1) (omega arith) in
        let e = rom_there there in
        omega (arith, e, room, least, low)
    | inr none ↦ (let e = rom_absent none in let small = number_below f.image (rom_register (layout f.image)) is 4 in omega (arith, e, small))
  ]
