use Rattle.std.proofs.Common.{◌∙◌, map, get_or, sym, ap}
use Rattle.pci_spec.specs.Text.{Block}
use Rattle.pci_plan.specs.Writes.{write_value}
use Rattle.pci_settle.proofs.StagedWrites.{setting_step}
use Rattle.pci_settle.proofs.writes.add_settings.Goals as goal

pub loop-k-preserved : goal.loop-k-preserved
loop-k-preserved g c = λ q s keep are.
    let k = c.loop-k.k in
    let start = c.args.stages.now.start.now in
    let settled = c.args.stages.now.settled.now in
    setting_step q s keep c.args.stages.now are k c.loop-k-test.true (get_or start k c.index-stages-k.result) (get_or settled k c.index-stages-k-in-loop-k-2.result)
    (ap (get_or start k) c.index-stages-k.is) (ap (get_or settled k) c.index-stages-k-in-loop-k-2.is)
    (map write_value c.args.writes.now.items) _ _ c.index-stages-k-in-loop-k.result c.index-stages-k-in-loop-k.is c.probe.inside.image.0 (ap (λ (x : Block). x.image) (c.probe.view_is ∙ sym c.index-stages-k-in-loop-k.is))
    c.in_ok-add_setting.ensures (c.loop-k.invariant q s keep are)
