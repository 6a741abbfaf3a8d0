use Rattle.std.proofs.Common.{refl}
use Rattle.std.proofs.lemmas.Result.{IfOk-weaker, IfErr-weaker}
use Rattle.pci_place.specs.Above.{system_in}
use Rattle.pci_first_fit.specs.Slots.{demand_value}
use Rattle.pci_settle_places.proofs.NothingLeft.{can_be_left, new_places, new_unplaced}
use Rattle.pci_settle_places.proofs.anew.place_anew.Goals as goal

pub place-requires : goal.place-requires
place-requires g c = can_be_left c.args.admitted.now.roots (system_in c.args.admitted.now) (demand_value c.args.lists.now) _ refl refl refl

pub returns-clause-places : goal.returns-clause-places
returns-clause-places g c =
    IfOk-weaker c.place.result _ _ (λ table are. new_places c.args.admitted.now.roots (system_in c.args.admitted.now) (demand_value c.args.lists.now) _ refl refl refl table.items are) c.place.ensures.places

pub returns-clause-fault : goal.returns-clause-fault
returns-clause-fault g c =
    IfErr-weaker c.place.result _ _ (λ e is. new_unplaced c.args.admitted.now.roots (system_in c.args.admitted.now) (demand_value c.args.lists.now) _ refl refl refl e is) c.place.ensures.fault
