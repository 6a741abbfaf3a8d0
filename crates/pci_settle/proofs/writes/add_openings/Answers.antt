use Rattle.std.proofs.Common.{◌∙◌, map, sym, ap}
use Rattle.pci_spec.specs.Header.{command}
use Rattle.pci_spec.specs.Text.{Block}
use Rattle.pci_plan.specs.Writes.{write_value}
use Rattle.pci_settle.proofs.StagedWrites.{opening_step}
use Rattle.pci_settle.proofs.writes.add_openings.Goals as goal

pub loop-k-preserved : goal.loop-k-preserved
loop-k-preserved g c = λ q s keep are.
    opening_step q s keep c.args.stages.now are c.loop-k.k c.loop-k-test.true c.index-stages-k.result c.index-stages-k-in-loop-k.result c.index-stages-k.is c.index-stages-k-in-loop-k.is
    (map write_value c.args.writes.now.items) _ _ _ _ c.in_ok-add_command.ensures (ap (λ (x : Block). x.slot) (c.old.view_is ∙ sym c.index-stages-k.is))
    (c.u16-command.ensures ∙ ap (λ (x : Block). command x.image) (c.new.view_is ∙ sym c.index-stages-k-in-loop-k.is))
    (c.loop-k.invariant q s keep are)
