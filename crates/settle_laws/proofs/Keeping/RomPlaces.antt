-- A new place of a ROM is a multiple of two: its size is one.
use Rattle.std.proofs.Common.{◌≡◌, ◌%◌, refl, true, false, Some, arith, ◌∙◌, ap}
use Rattle.std.specs.List.{Contains}
use Rattle.pci_spec.specs.Number.{lowest_one}
use Rattle.pci_spec.specs.Rom.{rom_at, has_rom, breaks_rom_rule}
use Rattle.pci_spec.specs.System.{System, Function, Memory, Rom}
use Rattle.pci_spec.proofs.BarLaws.{rom_run}
use Rattle.pci_spec.proofs.Ranges.{lawful_rom}
use Rattle.settle_spec.specs.FirstPlace.{Extent}
use Rattle.settle_spec.specs.Lists.{Request}
use Rattle.settle_spec.specs.Items.{Placed}
use Rattle.settle_spec.specs.Keeping.Places.{new_place}
use Rattle.settle_laws.proofs.NewPlaces.{HasPlace}
use Rattle.settle_laws.proofs.Keeping.NewPlaces.{new_place_is}
use Rattle.settle_spec.specs.Kept.{Kept}
use Rattle.settle_laws.specs.Keeping.PlacesLaws.{CanSettle}
use Rattle.settle_laws.proofs.RomPlaces.{even_by, rom_part}

-- The law: a new place of a ROM is even.
pub rom_is_even : (q : Request) (s : System) (k : Kept) → CanSettle q s k → (f : Function) → Contains s f → has_rom f.image f.probe ≡ true → breaks_rom_rule f.image f.probe ≡ false → (p : Placed)
    → new_place q s k record { function = f; part = Rom } ≡ Some p → p.at % 2 ≡ 0
rom_is_even q s k can f listed there fine p found =
    let is : HasPlace q s Memory f Rom p = new_place_is q s k can f listed Rom (rom_part f) p found in
    let e = lowest_one 0 (rom_at f.image f.probe) in
    let large = (rom_run (rom_at f.image f.probe) e (lawful_rom f.image f.probe there fine).0).least in
    even_by e p.at (omega (arith, large)) (ap (λ (x : Extent). p.at % x.alignment) (is.own refl) ∙ is.multiple)
