use Rattle.std.proofs.Common.{get_or, arith}
use Rattle.plan_spec.proofs.Planning.Tallies.{window_small}
use Rattle.pci_base.specs.WindowKinds.{kind_value}
use Rattle.pci_place.proofs.RootNeeds.{limited_at}
use Rattle.pci_place.proofs.need.tally_of.Goals as goal

pub and-requires-clause-size : goal.and-requires-clause-size
and-requires-clause-size c =
    let need = get_or c.args.of_bus.now c.in-Some.bridge.secondary 0 in
    let e = c.window_size_of.ensures in
    let small = window_small (kind_value c.args.class) need (limited_at c.args.of_bus.now c.requires.limited c.in-Some.bridge.secondary) in
    omega (arith, e, small)
