use Rattle.std.proofs.Common.{sym, ap}
use Rattle.pci_json.specs.Groups.{inner_of, has_any}
use Rattle.pci_json.proofs.Steps.{no_parts}
use Rattle.pci_json.proofs.group.begins_inner.Goals as goal

pub returns-then-is_empty : goal.returns-then-is_empty
returns-then-is_empty c = sym (ap (λ ls. has_any (inner_of ls)) (no_parts 10 c.args.text.now c.is_empty.result c.is_empty.ensures c.if-is_empty.true))
