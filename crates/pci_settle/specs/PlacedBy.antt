-- What settling is made of, as the code has it.
use Rattle.std.specs.Prelude.{List}
use Rattle.settle_spec.specs.Lists.{Request}
use Rattle.settle_spec.specs.Kept.{Kept}
use Rattle.settle_laws.specs.KeptLaws.{WishesNothing}
use Rattle.pci_tree.specs.Admission.{Admission}
use Rattle.pci_place.specs.Above.{system_in}
use Rattle.pci_first_fit.specs.declared.list.Lists.{Lists}
use Rattle.pci_first_fit.specs.declared.over.OpenWindows.{OpenWindows}
use Rattle.pci_first_fit.specs.Slots.{demand_value}
use Rattle.pci_first_fit.specs.Over.{AreOpenOver}
use Rattle.pci_settle_places.specs.Live.{HasAllPlaces}
use Rattle.pci_settle_places.specs.Answers.{AreFlagsOfTold}
use Rattle.pci_settle.specs.declared.tables.Tables.{Tables}
use Rattle.pci_settle.specs.Requests.{IsAskedOf}
use Rattle.pci_settle.specs.Told.{TellsKeeping}

-- the lists are those that are asked for, and tables tell of places, of what is kept, and which told ranges stand; nothing is
-- wished
pub record IsPlacedBy (q : Request) (keep : Kept) (a : Admission) (lists : Lists) (overs : List OpenWindows)
    (tables : Tables) : Type 0 where
  pub asked : IsAskedOf q a.roots (demand_value lists)
  pub overs_are : AreOpenOver q (system_in a) overs
  pub places : HasAllPlaces q (system_in a) keep tables.places.now
  pub tells : TellsKeeping q (system_in a) keep tables.grown.now tables.staying.now
  pub stand : AreFlagsOfTold q (system_in a) tables.standing.now
  pub unwished : WishesNothing keep
