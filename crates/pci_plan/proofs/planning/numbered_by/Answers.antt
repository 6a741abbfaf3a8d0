use Rattle.std.proofs.Common.{sym, subst}
use Rattle.pci_place.specs.Pools.{pools_value}
use Rattle.pci_plan.specs.Numbered.{CanBeNumbered}
use Rattle.pci_plan.proofs.planning.numbered_by.Goals as goal

pub number_all-requires : goal.number_all-requires
number_all-requires g c =
    subst (CanBeNumbered c.args.admitted.now (pools_value c.args.pools.now) c.args.needs.now) (sym c.as_slice.ensures.value)
    record { plannable = c.requires.plannable; needs = c.requires.needs; count = c.in_ok-places.ensures.count; places = c.in_ok-places.ensures.places }
