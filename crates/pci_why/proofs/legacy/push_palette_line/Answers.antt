use Rattle.std.proofs.Common.{◌++◌, ◌∙◌, ap}
use Rattle.std.specs.String.{string_bytes}
use Rattle.std.proofs.lemmas.Result.{on_ok_weaker}
use Rattle.pci_spec.specs.Registers.{COMMAND}
use Rattle.pci_why.specs.Lines.{fixed_line}
use Rattle.pci_why.proofs.legacy.push_palette_line.Goals as goal

pub returns : goal.returns
returns g c = on_ok_weaker c.push_fixed_line.result
    (λ last. last ∙ ap (λ name. string_bytes c.args.text.now ++ fixed_line c.args.word.now c.args.slot COMMAND name) c.palette_name-name.ensures)
    c.push_fixed_line.ensures
