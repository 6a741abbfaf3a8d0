use Rattle.pci_json.proofs.Cuts.{parts_cut}
use Rattle.pci_json.proofs.lines.cut.Goals as goal

pub returns-clause-parts : goal.returns-clause-parts
returns-clause-parts c =
    let text = c.args.text.now in
    let whole = parts_cut c.args.end text c.requires.some in
    cc (whole, c.around.ensures.before, c.around.ensures.after, c.far_place_of.ensures.value)
