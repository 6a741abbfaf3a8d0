-- What closing is asked for, as the code has it.
use Rattle.std.specs.Prelude.{List}
use Rattle.settle_spec.specs.Lists.{Request}
use Rattle.settle_spec.specs.Kept.{Kept, unwished}
use Rattle.pci_tree.specs.Admission.{Admission}
use Rattle.pci_place.specs.Above.{system_in}
use Rattle.pci_first_fit.specs.declared.list.Lists.{Lists}
use Rattle.pci_first_fit.specs.declared.over.OpenWindows.{OpenWindows}
use Rattle.pci_first_fit.specs.Slots.{demand_value}
use Rattle.pci_first_fit.specs.Over.{AreOpenOver}
use Rattle.pci_settle_places.specs.Answers.{AreFlagsOfTold}
use Rattle.pci_settle.specs.declared.dump.Images.{Images}
use Rattle.pci_settle.specs.declared.tables.Tables.{Tables}
use Rattle.pci_settle.specs.Requests.{IsAskedOf}
use Rattle.pci_settle.specs.Told.{IsTableOf}
use Rattle.pci_settle.specs.Dumps.{IsSettledDump}

-- the lists are those that are asked for; tables tell what stays, and which told ranges stand; and images show what is settled,
-- with and without wishes
pub record IsClosedBy (q : Request) (keep : Kept) (a : Admission) (lists : Lists) (overs : List OpenWindows)
    (images : Images) (tables : Tables) : Type 0 where
  pub asked : IsAskedOf q a.roots (demand_value lists)
  pub overs_are : AreOpenOver q (system_in a) overs
  pub stays : IsTableOf (system_in a) keep.stays tables.staying.now
  pub stand : AreFlagsOfTold q (system_in a) tables.standing.now
  pub plain : IsSettledDump q (unwished keep) a images.plain.now
  pub settled : IsSettledDump q keep a images.settled.now
