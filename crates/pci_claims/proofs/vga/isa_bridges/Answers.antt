use Rattle.std.proofs.Common.{◌∙◌, ap, arith}
use Rattle.std.proofs.lemmas.List.{take_all}
use Rattle.pci_claims.specs.Vga.{isa_bridges_shown}
use Rattle.pci_claims.proofs.VgaBridges.{isa_by_any_probe}
use Rattle.pci_claims.proofs.vga.isa_bridges.Goals as goal

pub returns : goal.returns
returns g c probe same =
    c.loop-block.invariant
    ∙ ap isa_bridges_shown (take_all c.loop-block.block-index c.blocks-block-items.result.now (omega arith) ∙ c.blocks-block-items.ensures.value)
    ∙ isa_by_any_probe c.args.dump.now probe same
