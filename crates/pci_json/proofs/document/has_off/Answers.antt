use Rattle.std.proofs.Common.{◌∙◌, sym, ap}
use Rattle.pci_json.proofs.Steps.{no_parts}
use Rattle.pci_json.specs.Documents.{has_off}
use Rattle.pci_json.proofs.document.has_off.Goals as goal

pub returns : goal.returns
returns c = sym (ap has_off (no_parts 10 c.loop-rest.rest.now c.is_empty.result c.is_empty.ensures c.loop-rest-test.false)) ∙ c.loop-rest.invariant.written
