use Rattle.std.proofs.Common.{sym, map}
use Rattle.pci_base.specs.Ranges.{decoded_range_of}
use Rattle.pci_first_fit.specs.Spots.{extent_value}
use Rattle.pci_grow.proofs.Walks.{place_next, place_here, place_none}
use Rattle.pci_grow.proofs.list.first_place.Goals as goal

pub returns-in-Some-clause-place : goal.returns-in-Some-clause-place
returns-in-Some-clause-place c =
    place_here c.args.bus (map decoded_range_of c.args.taken.now) (extent_value c.args.extent) c.args.list.now c.loop-one.one-index _ _
    c.loop-one-test.true c.loop-one.invariant (sym c.in-Some.ensures.place)

pub loop-one-preserved : goal.loop-one-preserved
loop-one-preserved c =
    place_next c.args.bus (map decoded_range_of c.args.taken.now) (extent_value c.args.extent) c.args.list.now c.loop-one.one-index _
    c.loop-one-test.true c.loop-one.invariant (sym c.in_default.ensures.place)

pub returns-clause-place : goal.returns-clause-place
returns-clause-place c =
    place_none c.args.bus (map decoded_range_of c.args.taken.now) (extent_value c.args.extent) c.args.list.now c.loop-one.one-index _
    c.loop-one-test.false c.loop-one.invariant
