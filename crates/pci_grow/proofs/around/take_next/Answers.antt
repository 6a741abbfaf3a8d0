use Rattle.std.proofs.Common.{subst, sym}
use Rattle.pci_first_fit.specs.Spots.{IsBetweenTaken}
use Rattle.pci_grow.specs.Arounds.{AreRisingAtBothEnds, IsSearch, IsBelowLateSearch}
use Rattle.pci_grow.proofs.Searches.{still_in_order, search_stays}
use Rattle.pci_grow.proofs.around.take_next.Goals as goal

pub returns-clause-listed : goal.returns-clause-listed
returns-clause-listed g c =
    let between = subst (λ xs. IsBetweenTaken xs c.args.search.now.extent c.in-Some.spot) c.as_slice.ensures.value c.in-Some.ensures.between in
    subst AreRisingAtBothEnds (sym c.in_ok-insert.ensures.items) (still_in_order _ c.args.search.now.extent c.in-Some.spot c.requires.listed between)

pub returns-clause-search : goal.returns-clause-search
returns-clause-search g c =
    let between = subst (λ xs. IsBetweenTaken xs c.args.search.now.extent c.in-Some.spot) c.as_slice.ensures.value c.in-Some.ensures.between in
    let below = subst (λ xs. IsBelowLateSearch xs c.next_spot.new.search c.in-Some.spot) c.as_slice.ensures.value c.in-Some.ensures.index in
    let search = subst (λ xs. IsSearch c.args.around.now xs c.next_spot.new.search) c.as_slice.ensures.value c.in-Some.ensures.search in
    search_stays _ _ c.args.search.now.extent c.in-Some.spot c.requires.listed.rising (record { between = between; put = c.in_ok-insert.ensures.items }) c.args.around.now
    c.next_spot.new.search below search
