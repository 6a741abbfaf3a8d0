use Rattle.std.proofs.Common.{◌+◌, ◌∙◌, sym, ap, subst}
use Rattle.pci_settle_places.proofs.Stretching.{AreFoundTo, found_add, found_skip, found_all, not_elsewhere}
use Rattle.pci_settle_places.proofs.stretch.sought_rows.Goals.{then-can_be_sought+in_ok-add_rows, else-can_be_sought}
use Rattle.pci_settle_places.proofs.stretch.sought_rows.Goals as goal

pub loop-stretch-preserved : goal.loop-stretch-preserved
loop-stretch-preserved g c =
    let w = c.args.sought.now in
    let all = c.args.stretches.now in
    let n = c.loop-stretch.stretch-index in
    let old = c.loop-stretch.found.items in
    elim c.if-can_be_sought.branch [
      | then-can_be_sought+in_ok-add_rows b ↦
          found_add w all n c.stretch-item.result c.loop-stretch-test.true c.stretch-item.is old c.if-can_be_sought.found.items c.loop-stretch.invariant
          (ap (λ v. v.items) b.found-is ∙ b.in_ok-add_rows.ensures)
      | else-can_be_sought b ↦
          subst (λ v. AreFoundTo w all (n + 1) v.items) (sym b.found-is)
          (found_skip w all n c.stretch-item.result c.loop-stretch-test.true c.stretch-item.is old c.loop-stretch.invariant
          (λ l covered behind. not_elsewhere w l behind (c.can_be_sought.ensures b.if-can_be_sought.false l covered)))
    ]

pub returns : goal.returns
returns g c = λ lines are.
    found_all c.args.sought.now c.args.stretches.now c.loop-stretch.stretch-index c.loop-stretch.found.items lines c.loop-stretch-test.false c.loop-stretch.invariant are
