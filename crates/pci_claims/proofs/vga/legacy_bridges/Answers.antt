use Rattle.std.proofs.Common.{◌∙◌, ap, arith}
use Rattle.std.proofs.lemmas.List.{take_all}
use Rattle.pci_model.specs.WordsValue.{vga_value}
use Rattle.pci_claims.specs.Vga.{legacy_bridges_shown}
use Rattle.pci_claims.proofs.VgaBridges.{by_any_probe}
use Rattle.pci_claims.proofs.vga.legacy_bridges.Goals as goal

pub returns : goal.returns
returns g c probe same =
    c.loop-block.invariant
    ∙ ap (legacy_bridges_shown (vga_value c.args.word)) (take_all c.loop-block.block-index c.blocks-block-items.result.now (omega arith) ∙ c.blocks-block-items.ensures.value)
    ∙ by_any_probe (vga_value c.args.word) c.args.dump.now probe same
