-- The ROM of a filling, by its record.
use Rattle.std.proofs.Common.{◌≡◌, ◌+◌, ◌%◌, ◌^◌, ◌<◌, Bool, true, false, cond, sym, ◌∙◌, ap, refl, Option, Some, None, if◌then◌else◌}
use Rattle.std.specs.Option.{is_some, option_map}
use Rattle.std.proofs.lemmas.Bool.{and_from}
use Rattle.std.proofs.lemmas.List.Elements.{All-contains}
use Rattle.pci_spec.specs.Number.{number_at}
use Rattle.pci_spec.specs.Header.{layout, rom_register}
use Rattle.pci_spec.specs.Rom.{rom_at, rom_is_on, has_rom}
use Rattle.pci_spec.specs.Decoded.{aligned_range, rom_size}
use Rattle.pci_spec.specs.Decoded as decoded
use Rattle.pci_spec.specs.System.{IsFunction, Rom}
use Rattle.plan_spec.specs.Planning.Showing.{rom_value}
use Rattle.plan_spec.specs.Planning.Numbers.{place_at, rom_number}
use Rattle.plan_spec.proofs.Planning.Reach.{rom_place}
use Rattle.plan_spec.proofs.Planning.RomFits.{rom_number_small}
use Rattle.pci_image.specs.declared.rom.Rom.{Rom as CodeRom}
use Rattle.pci_image.specs.Roms.{decoded_rom_of}
use Rattle.pci_plan.specs.declared.numbers.Filling.{Filling}
use Rattle.pci_plan.specs.Fillings.{FillingOf}

some_of_map : (o : Option CodeRom) → is_some (option_map decoded_rom_of o) ≡ is_some o
some_of_map None = refl
some_of_map (Some rom) = refl

some_if : (b : Bool) (rom : decoded.DecodedRom) → is_some (if b then Some rom else None) ≡ b
some_if true rom = refl
some_if false rom = refl

module _ (filling : Filling) (of : FillingOf filling) where
  -- the record has a ROM where the function does
  pub rom_is : is_some filling.record.now.rom ≡ has_rom of.function.image of.function.probe
  rom_is =
      let f = of.function in
      sym (some_of_map filling.record.now.rom) ∙ ap (λ (r : decoded.Record). is_some r.rom) of.recorded.value
      ∙ some_if (has_rom f.image f.probe) record { register = rom_register (layout f.image); on = rom_is_on f.image; range = aligned_range (rom_at f.image f.image) (rom_size f.image f.probe) }

  -- where there is one, its register holds the place, over the enable bit that stands there
  pub rom_number_is : is_some filling.record.now.rom ≡ true
      → filling.places.now.rom + number_at filling.image.now.0 (rom_register (layout of.function.image)) 4 % 2 ≡ rom_number of.roots of.system of.pools of.function
  rom_number_is some =
      let f = of.function in
      let there : has_rom f.image f.probe ≡ true = sym rom_is ∙ some in
      ap (λ place. place + number_at filling.image.now.0 (rom_register (layout f.image)) 4 % 2) (of.places Rom (and_from (has_rom f.image f.probe) true there refl))
      ∙ ap (λ image. place_at of.roots of.system of.pools f Rom + number_at image (rom_register (layout f.image)) 4 % 2) of.image
      ∙ sym (ap (λ t. cond t (rom_value f.image (place_at of.roots of.system of.pools f Rom)) (rom_at f.image f.image)) there)

  pub rom_absent_is : is_some filling.record.now.rom ≡ false → number_at filling.image.now.0 (rom_register (layout of.function.image)) 4 ≡ rom_number of.roots of.system of.pools of.function
  rom_absent_is none =
      let f = of.function in
      ap (λ image. number_at image (rom_register (layout f.image)) 4) of.image
      ∙ sym (ap (λ t. cond t (rom_value f.image (place_at of.roots of.system of.pools f Rom)) (rom_at f.image f.image)) (sym rom_is ∙ none))

  pub rom_small : rom_number of.roots of.system of.pools of.function < 2 ^ 32
  rom_small =
      let f = of.function in
      let is : IsFunction f = All-contains IsFunction of.system f of.plannable.system.each of.recorded.listed in
      rom_number_small f is.image (place_at of.roots of.system of.pools f Rom) of.recorded.decodable.rom
      (λ there. rom_place of.roots of.system of.pools of.plannable (place_at of.roots of.system of.pools) of.tables f of.recorded.listed there)
