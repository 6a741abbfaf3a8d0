use Rattle.std.proofs.Common.{◌∙◌, ◌-◌, length, map, get_or, refl, sym, ap}
use Rattle.pci_spec.specs.Text.{Block}
use Rattle.pci_plan.specs.Writes.{write_value}
use Rattle.pci_settle.proofs.StagedWrites.{closing_step}
use Rattle.pci_settle.proofs.writes.add_closings.Goals as goal

pub loop-done-preserved : goal.loop-done-preserved
loop-done-preserved g c = λ q s keep are.
    let start = c.args.stages.now.start.now in
    let k = length start - 1 - c.loop-done.done in
    closing_step q s keep c.args.stages.now are c.loop-done.done c.loop-done-test.true (get_or start k c.index-stages-k.result) c.index-stages-k-in-loop-done.result k refl
    (ap (get_or start k) c.index-stages-k.is) c.index-stages-k-in-loop-done.is
    c.probe.inside.image.0 (ap (λ (x : Block). x.image) (c.probe.view_is ∙ sym c.index-stages-k-in-loop-done.is))
    (map write_value c.args.writes.now.items) _ _ c.in_ok-add_closing.ensures (c.loop-done.invariant q s keep are)
