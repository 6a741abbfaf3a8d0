use Rattle.std.proofs.Common.{◌∙◌, ap, arith}
use Rattle.std.specs.Option.{option_map}
use Rattle.std.proofs.lemmas.List.{take_all}
use Rattle.pci_model.specs.WordsValue.{vga_value}
use Rattle.pci_claims.specs.Vga.{palette_bridges_shown}
use Rattle.pci_claims.proofs.VgaBridges.{palette_by_any_probe}
use Rattle.pci_claims.proofs.vga.palette_bridges.Goals as goal

pub returns : goal.returns
returns g c probe same =
    let word = c.palette_word-word.result in
    c.loop-block.invariant
    ∙ ap (palette_bridges_shown (vga_value word)) (take_all c.loop-block.block-index c.blocks-block-items.result.now (omega arith) ∙ c.blocks-block-items.ensures.value)
    ∙ palette_by_any_probe (option_map vga_value c.args.word) (vga_value word) c.args.dump.now probe c.palette_word-word.ensures same
