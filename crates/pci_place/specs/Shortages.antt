-- What a class lacks in the code, as the definitions have it.
use Rattle.plan_spec.specs.Plan as plan
use Rattle.pci_place.specs.declared.room.Shortage.{Shortage}

abbrev pub shortage_value : Shortage → plan.Shortage
shortage_value lacking =
    record { needed = lacking.needed; start = lacking.start; available = lacking.available }
