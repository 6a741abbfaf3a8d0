use Rattle.std.proofs.Common.{below_more, sym, ◌∙◌}
use Rattle.pci_function.proofs.stray.stray_byte.Goals as goal

pub loop-offset-preserved : goal.loop-offset-preserved
loop-offset-preserved c = below_more _ _ c.loop-offset.invariant (sym c.is_stray.ensures ∙ c.if-is_stray.false)
