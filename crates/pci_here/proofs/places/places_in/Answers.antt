use Rattle.std.proofs.Common.{◌≤◌, length, map, take, string_bytes, subst, arith}
use Rattle.std.proofs.lemmas.List.{take_all}
use Rattle.pci_here.specs.Places.{ArePlacesOfNames}
use Rattle.pci_here.proofs.Named.{names_step}
use Rattle.pci_here.proofs.places.places_in.Goals as goal

pub loop-name-preserved : goal.loop-name-preserved
loop-name-preserved c =
    subst (λ ns. ArePlacesOfNames ns c.args.domain c.add_place.new.places.items)
    (names_step c.args.names.now c.loop-name.name-index c.name-item.result c.as_str.result.now c.loop-name-test.true c.name-item.is c.as_str.ensures.value)
    (c.in_ok-add_place.ensures (map string_bytes (take c.loop-name.name-index c.args.names.now)) c.loop-name.invariant)

pub returns : goal.returns
returns c =
    let all : length c.args.names.now ≤ c.loop-name.name-index = omega arith in
    subst (λ l. ArePlacesOfNames (map string_bytes l) c.args.domain c.loop-name.places.items) (take_all c.loop-name.name-index c.args.names.now all) c.loop-name.invariant
