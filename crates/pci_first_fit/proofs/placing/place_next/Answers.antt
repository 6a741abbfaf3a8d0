use Rattle.std.proofs.Common.{sym, subst}
use Rattle.pci_first_fit.specs.Spots.{AreRisingRanges, IsBetweenTaken, IsStart}
use Rattle.pci_first_fit.proofs.Inserted.{inserted}
use Rattle.pci_first_fit.proofs.Cursors.{start_stays}
use Rattle.pci_first_fit.proofs.placing.place_next.Goals as goal

pub returns-clause-listed : goal.returns-clause-listed
returns-clause-listed g c =
    let spot = c.first_place.new.start.spot in
    let between = subst (λ xs. IsBetweenTaken xs c.args.extent spot) c.as_slice.ensures.value (c.first_place.ensures.between c.if-not-first_place.false) in
    subst AreRisingRanges (sym c.in_ok-insert.ensures.items) (inserted _ c.args.extent spot c.requires.listed between)

pub returns-clause-start : goal.returns-clause-start
returns-clause-start g c =
    let spot = c.first_place.new.start.spot in
    let between = subst (λ xs. IsBetweenTaken xs c.args.extent spot) c.as_slice.ensures.value (c.first_place.ensures.between c.if-not-first_place.false) in
    start_stays _ _ c.args.extent spot c.requires.listed (record { between = between; put = c.in_ok-insert.ensures.items }) c.args.ranges.now c.args.extent c.first_place.new.start c.requires.extent
    (subst (λ xs. IsStart c.args.ranges.now xs c.args.extent c.first_place.new.start) c.as_slice.ensures.value c.first_place.ensures.start)
