use Rattle.std.proofs.Common.{rules, ◌<◌, ◌^◌, ◌∙◌, ap, sym, true, false}
use Rattle.pci_first_fit.specs.Spots.{spot_place}
use Rattle.pci_first_fit.proofs.FirstPlaces.{first_at, none_at}
use Rattle.pci_first_fit.proofs.spot.spot_in.Goals as goal

pub returns-in_err-spot-clause-place : goal.returns-in_err-spot-clause-place
returns-in_err-spot-clause-place c =
    let small : c.args.range.last < 2 ^ 64 = search rules in
    ap spot_place c.from_residual.ensures ∙ sym (none_at _ _ _ c.requires.extent.alignment small c.in_err-spot.ensures.none)

pub returns-then-ends_in-clause-place : goal.returns-then-ends_in-clause-place
returns-then-ends_in-clause-place c =
    sym (first_at _ _ _ _ c.requires.extent.alignment c.in_ok-spot.ensures.found.least true (sym c.if-ends_in.true ∙ c.ends_in.ensures))

pub returns-else-ends_in-clause-place : goal.returns-else-ends_in-clause-place
returns-else-ends_in-clause-place c =
    sym (first_at _ _ _ _ c.requires.extent.alignment c.in_ok-spot.ensures.found.least false (sym c.if-ends_in.false ∙ c.ends_in.ensures))
