use Rattle.std.proofs.Common.{◌≡◌, ◌+◌, ◌-◌, ◌<◌, ◌^◌, SomeIff, sym, subst}
use Rattle.std.specs.List.{insert}
use Rattle.pci_first_fit.specs.Spots.{AreRisingRanges, IsSpotAt, extent_range}
use Rattle.pci_first_fit.specs.Windows.{laid_last}
use Rattle.pci_first_fit.proofs.Inserted.{inserted}
use Rattle.pci_first_fit.proofs.LaidOut.{laid_none, laid_is, laid_by}
use Rattle.pci_first_fit.proofs.window.laid_next.Goals as goal

pub returns-in_default-clause-end : goal.returns-in_default-clause-end
returns-in_default-clause-end g c =
    subst (λ xs. laid_last xs c.args.extent + 1 < 2 ^ 64 → ⊥) c.as_slice.ensures.value (laid_none c.as_slice.result.now c.args.extent c.requires.extent c.in_default.ensures.none)

pub returns-clause-end : goal.returns-clause-end
returns-clause-end g c =
    let found = subst (λ xs. IsSpotAt xs 0 c.args.extent c.in-Some.spot) c.as_slice.ensures.value c.in-Some.ensures.found in
    subst (λ n. SomeIff c.checked_add.result (n + (c.args.extent.size - 1) + 1 < 2 ^ 64) (n + (c.args.extent.size - 1) + 1))
    (sym (laid_is c.args.taken.now.items c.args.extent c.in-Some.spot c.requires.extent found)) c.checked_add.ensures

pub returns-clause-laid : goal.returns-clause-laid
returns-clause-laid g c =
    let found = subst (λ xs. IsSpotAt xs 0 c.args.extent c.in-Some.spot) c.as_slice.ensures.value c.in-Some.ensures.found in
    laid_by c.args.taken.now.items c.insert.new.self.items c.args.extent c.in-Some.spot.index found.between.within
    (subst (λ n. c.insert.new.self.items ≡ insert c.args.taken.now.items c.in-Some.spot.index (extent_range c.args.extent n))
    (sym (laid_is c.args.taken.now.items c.args.extent c.in-Some.spot c.requires.extent found)) c.in_ok-insert.ensures.items)
    c.checked_add.result

pub returns-clause-listed : goal.returns-clause-listed
returns-clause-listed g c =
    let found = subst (λ xs. IsSpotAt xs 0 c.args.extent c.in-Some.spot) c.as_slice.ensures.value c.in-Some.ensures.found in
    subst AreRisingRanges (sym c.in_ok-insert.ensures.items) (inserted c.args.taken.now.items c.args.extent c.in-Some.spot c.requires.listed found.between)
