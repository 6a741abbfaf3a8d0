use Rattle.std.proofs.Common.{map, arith, sym}
use Rattle.pci_base.specs.Ranges.{decoded_range_of}
use Rattle.pci_first_fit.specs.Spots.{extent_value}
use Rattle.pci_first_fit.proofs.Spots.{no_range}
use Rattle.pci_first_fit.proofs.FirstPlaces.{place_skips, place_none}
use Rattle.pci_first_fit.proofs.Starts.{searched_next}
use Rattle.pci_first_fit.proofs.spot.first_place.Goals as goal

pub spot_in-requires-clause-reached : goal.spot_in-requires-clause-reached
spot_in-requires-clause-reached c = c.loop-index.invariant.reached no_range c.loop-index-test.true

pub returns-in-Some-clause-place : goal.returns-in-Some-clause-place
returns-in-Some-clause-place c =
    sym (place_skips _ _ _ _ no_range _ c.loop-index.invariant.before c.loop-index-test.true (sym c.in-Some.ensures.place))

pub loop-index-preserved : goal.loop-index-preserved
loop-index-preserved c =
    searched_next _ _ _ _ _ _ _ _ no_range c.loop-index.invariant c.loop-index-test.true (sym c.in_default.ensures.place)
    c.lowest-from.ensures.lowest c.lowest-from.ensures.index

pub returns-clause-place : goal.returns-clause-place
returns-clause-place c =
    let past = c.loop-index-test.false in
    sym (place_none (map decoded_range_of c.args.taken.now) (extent_value c.args.extent) c.args.ranges.now (λ k d less. c.loop-index.invariant.before k d (omega (arith, less, past))))
