use Rattle.std.proofs.Common.{arith, below_more}
use Rattle.std.proofs.lemmas.Bool.{or_parts}
use Rattle.pci_image.specs.Layouts.{layout_number}
use Rattle.pci_function.proofs.Registers.{no_stray}
use Rattle.pci_function.proofs.stray.has_stray.Goals as goal

pub loop-offset-preserved : goal.loop-offset-preserved
loop-offset-preserved c = λ none.
    let parts = or_parts c.loop-offset.found _ none in
    below_more _ _ (c.loop-offset.invariant parts.0)
    (no_stray (layout_number c.args.layout) c.args.probe.now.0 c.loop-offset.offset _ (c.address_bytes-is_address.ensures c.loop-offset.offset (omega arith)) parts.1)
