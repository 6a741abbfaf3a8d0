use Rattle.std.proofs.Common.{◌∙◌, ap}
use Rattle.judge_spec.specs.Taken.{isa_aside_by, snoop_aside_by, vga_aside_by}
use Rattle.pci_model.specs.WordsValue.{words_value}
use Rattle.pci_model.proofs.aside.first_aside.Goals as goal

pub returns : goal.returns
returns c slot =
    let w = words_value c.args.words in
    let probe = c.windows_aside.new.probe.0 in
    c.snoop_aside.ensures slot probe
    ∙ ap (snoop_aside_by w) (c.isa_aside.ensures slot probe ∙ ap (isa_aside_by w) (c.vga_aside.ensures slot probe ∙ ap (vga_aside_by w) (c.windows_aside.ensures slot)))
