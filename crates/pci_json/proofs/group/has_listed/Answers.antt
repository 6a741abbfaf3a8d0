use Rattle.std.proofs.Common.{◌∙◌, sym, ap}
use Rattle.pci_json.specs.Groups.{inner_of, has_listed}
use Rattle.pci_json.proofs.Steps.{no_parts}
use Rattle.pci_json.proofs.group.has_listed.Goals as goal

pub returns : goal.returns
returns c = sym (ap (λ ls. has_listed c.args.kind (inner_of ls)) (no_parts 10 c.loop-rest.rest.now c.is_empty.result c.is_empty.ensures c.loop-rest-test.false)) ∙ c.loop-rest.invariant.written
