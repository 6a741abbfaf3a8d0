-- What a function is filled with.
use Rattle.std.specs.Prelude.{◌≡◌, ℕ, List, IsTrue}
use Rattle.pci_spec.specs.Window.{WindowKind}
use Rattle.pci_spec.specs.System.{System, Function, Part}
use Rattle.plan_spec.specs.Plan.{Pools, class_of}
use Rattle.plan_spec.specs.Planning.Plannable.{IsPlannable}
use Rattle.plan_spec.specs.Planning.Table.{is_placed, IsTable}
use Rattle.plan_spec.specs.Planning.Numbers.{place_at}
use Rattle.pci_plan.specs.declared.numbers.Filling.{Filling}
use Rattle.pci_place.specs.Needs.{AreAllNeeds}
use Rattle.pci_place.specs.Places.{first_in}
use Rattle.pci_place.specs.Records.{IsRecordInSystem}

-- A filling is that of a function of a system that can be planned: it has the function's record, its image, and the place of
-- each part that has one.
pub record FillingOf (filling : Filling) : Type 0 where
  pub roots : List ℕ
  pub system : System
  pub pools : Pools
  pub function : Function
  pub plannable : IsPlannable roots system pools
  pub tables : (c : WindowKind) → IsTable roots system pools c (place_at roots system pools)
  pub recorded : IsRecordInSystem system function filling.record.now
  pub image : filling.image.now.0 ≡ function.image
  pub places : (part : Part)
      → IsTrue (is_placed system pools (class_of system pools function part) function part)
      → first_in filling.places.now part ≡ place_at roots system pools function part
  pub needs : AreAllNeeds roots system pools filling.needs.now
