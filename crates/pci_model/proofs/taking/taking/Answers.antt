use Rattle.std.proofs.Common.{List, ◌∙◌, ap, arith}
use Rattle.std.proofs.lemmas.List.{take_all}
use Rattle.pci_spec.specs.Text.{Block}
use Rattle.pci_model.specs.Subtractive.{taking_blocks}
use Rattle.pci_model.specs.WordsValue.{words_value}
use Rattle.pci_model.proofs.Takings.{all_taking}
use Rattle.pci_model.proofs.taking.taking.Goals as goal

pub returns : goal.returns
returns g c probe same =
    let w = words_value c.args.words in
    let blocks = c.blocks-blocks.result.now in
    c.loop-block.invariant
    ∙ ap (taking_blocks w blocks) (take_all c.loop-block.block-index blocks (omega arith))
    ∙ ap (λ (bs : List Block). taking_blocks w bs bs) c.blocks-blocks.ensures.value
    ∙ all_taking w c.args.dump.now probe same
