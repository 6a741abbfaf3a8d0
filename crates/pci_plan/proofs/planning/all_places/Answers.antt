use Rattle.std.proofs.Common.{List, sym, subst, arith}
use Rattle.pci_place.specs.Above.{system_in}
use Rattle.pci_place.specs.Places.{HasPlaces}
use Rattle.pci_place.specs.Pools.{pools_value}
use Rattle.pci_place.specs.declared.place.Places.{Places}
use Rattle.pci_plan.proofs.AllPlaces.{all_placed, written_back}
use Rattle.pci_plan.proofs.planning.all_places.Goals as goal

pub returns-clause-places : goal.returns-clause-places
returns-clause-places g c =
    let a = c.args.admitted.now in
    let s = system_in a in
    let pools = pools_value c.args.pools.now in
    let io : List Places = c.place_class.new.places in
    let memory : List Places = c.place_class-2.new.places in
    let all : List Places = c.place_class-3.new.places in
    let count = c.in_ok-place_class.ensures.others.count in
    let count-2 = c.in_ok-place_class-2.ensures.others.count in
    let count-3 = c.in_ok-place_class-3.ensures.others.count in
    let same = written_back c.in_ok-places.places.len all c.in_ok-places.places.items (omega (arith, count, count-2, count-3)) in
    λ k. subst (λ ps. HasPlaces a.roots s pools k ps) (sym same)
    (all_placed a.roots s pools io memory all c.in_ok-place_class.ensures.placed c.in_ok-place_class-2.ensures.others c.in_ok-place_class-2.ensures.placed c.in_ok-place_class-3.ensures.others c.in_ok-place_class-3.ensures.placed k)
