use Rattle.std.proofs.Common.{sym, ap, ◌∙◌}
use Rattle.pci_first_fit.specs.Spots.{place_if}
use Rattle.pci_first_fit.proofs.Behind.{place_off}
use Rattle.pci_first_fit.proofs.placing.first_off.Goals as goal

pub returns-then-not-first_place-clause-place : goal.returns-then-not-first_place-clause-place
returns-then-not-first_place-clause-place g c =
    ap (λ b. place_if b c.first_place.new.start.spot.at) (sym c.if-not-first_place.true) ∙ c.first_place.ensures.place
    ∙ sym (place_off c.args.ranges.now c.args.behind.now c.args.taken.now c.new-all.result.items c.extend_from_slice.new.self.items c.extend_from_slice-2.new.self.items c.sort_by_first.new.taken.items c.as_slice.result.now c.args.extent c.requires
    c.new-all.ensures.items c.in_ok-extend_from_slice.ensures.items c.in_ok-extend_from_slice-2.ensures.items c.sort_by_first.ensures.permutation c.as_slice.ensures.value)

pub returns-clause-place : goal.returns-clause-place
returns-clause-place g c =
    ap (λ b. place_if b c.first_place.new.start.spot.at) (sym c.if-not-first_place.false) ∙ c.first_place.ensures.place
    ∙ sym (place_off c.args.ranges.now c.args.behind.now c.args.taken.now c.new-all.result.items c.extend_from_slice.new.self.items c.extend_from_slice-2.new.self.items c.sort_by_first.new.taken.items c.as_slice.result.now c.args.extent c.requires
    c.new-all.ensures.items c.in_ok-extend_from_slice.ensures.items c.in_ok-extend_from_slice-2.ensures.items c.sort_by_first.ensures.permutation c.as_slice.ensures.value)
