use Rattle.std.proofs.Common.{◌&&◌, not, sym, ◌∙◌, ap, add-one}
use Rattle.pci_spec.specs.Bar.{starts_bar, is_wide, bar_at}
use Rattle.pci_image.proofs.bar.starts_bar.Goals as goal
use Rattle.pci_image.proofs.bar.starts_bar.Goals.{then-starts, else-starts}

pub loop-i-preserved : goal.loop-i-preserved
loop-i-preserved c =
    let probe = c.args.probe.now.0 in
    let i = c.loop-i.i in
    ap not (elim c.if-starts.branch [
      | then-starts w ↦
          w.starts-is ∙ w.is_wide.ensures ∙ ap is_wide c.u32-before.ensures
          ∙ sym (ap (λ s. s && is_wide (bar_at probe i)) (sym c.loop-i.invariant ∙ w.if-starts.true))
      | else-starts w ↦
          w.starts-is ∙ w.if-starts.false ∙ sym (ap (λ s. s && is_wide (bar_at probe i)) (sym c.loop-i.invariant ∙ w.if-starts.false))
    ]) ∙ ap (starts_bar probe) (sym (add-one i))
