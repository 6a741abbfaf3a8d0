use Rattle.std.proofs.Common.{ap, ◌∙◌, sym, arith}
use Rattle.pci_grow.specs.LastPlaces.{late_place}
use Rattle.pci_grow.proofs.Late.{place_at, place_below, none_there}
use Rattle.pci_grow.proofs.last_place.last_place.Goals as goal

pub returns-in_err-spot-clause-place : goal.returns-in_err-spot-clause-place
returns-in_err-spot-clause-place c = ap late_place c.from_residual.ensures ∙ sym (none_there _ _ _ c.requires.extent c.in_err-spot.ensures.none)

pub returns-then-range-spot-clause-place : goal.returns-then-range-spot-clause-place
returns-then-range-spot-clause-place c =
    sym (place_at _ _ _ _ c.requires.extent c.in_ok-spot.ensures.found c.if-range-spot.true)

pub returns-else-range-spot-clause-place : goal.returns-else-range-spot-clause-place
returns-else-range-spot-clause-place c =
    sym (place_below _ _ _ _ c.requires.extent c.in_ok-spot.ensures.found (λ from. absurd (let no : ⊥ = omega (arith, from, c.if-range-spot.false) in no)))
