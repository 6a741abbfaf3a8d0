use Rattle.pci_grow.proofs.Gathered.{places_more}
use Rattle.pci_grow.proofs.there.held_with_places.Goals as goal

pub loop-index-preserved : goal.loop-index-preserved
loop-index-preserved c =
    places_more _ _ _ _ _ c.requires.count c.loop-index-test.true _ c.loop-index.invariant _ c.around_both-all.ensures.first c.around_both-all.ensures.last
