use Rattle.std.proofs.Common.{◌≡◌, ◌∙◌, sym, ap, arith, codes, drop, refl}
use Rattle.pci_spec.specs.Why.{scaled_text}
use Rattle.pci_listing.specs.Amounts.{unit_text}
use Rattle.pci_listing.proofs.Amounts.{next_unit, this_unit, last_unit}
use Rattle.pci_listing.proofs.amount.amount_of.Goals as goal

pub loop-unit-init : goal.loop-unit-init
loop-unit-init c = refl

pub returns-then-scaled-ne0-clause-text : goal.returns-then-scaled-ne0-clause-text
returns-then-scaled-ne0-clause-text c =
    sym (this_unit c.loop-unit.unit c.loop-unit.scaled c.loop-unit-test.true c.if-scaled-ne0.true) ∙ c.loop-unit.invariant

pub loop-unit-preserved : goal.loop-unit-preserved
loop-unit-preserved c = sym (next_unit c.loop-unit.unit c.loop-unit.scaled c.loop-unit-test.true c.if-scaled-ne0.false) ∙ c.loop-unit.invariant

pub returns-clause-text : goal.returns-clause-text
returns-clause-text c =
    let last : c.loop-unit.unit ≡ 6 = omega (arith, c.loop-unit-test.false, c.loop-unit.auto.unit-end) in
    sym (last_unit c.loop-unit.scaled)
    ∙ ap (λ u. scaled_text (drop u (codes "KMGTPE")) (unit_text u) c.loop-unit.scaled) (sym last) ∙ c.loop-unit.invariant
