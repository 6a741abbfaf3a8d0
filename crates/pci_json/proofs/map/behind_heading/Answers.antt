use Rattle.std.proofs.Common.{◌∙◌, sym, ap}
use Rattle.pci_json.proofs.Steps.{no_parts}
use Rattle.pci_json.specs.Documents.{behind_heading}
use Rattle.pci_json.proofs.map.behind_heading.Goals as goal

pub returns : goal.returns
returns c =
    let none = no_parts 10 c.loop-rest.rest.now c.is_empty.result c.is_empty.ensures c.loop-rest-test.false in
    none ∙ sym (ap (behind_heading c.args.name.now) none) ∙ c.loop-rest.invariant.left
