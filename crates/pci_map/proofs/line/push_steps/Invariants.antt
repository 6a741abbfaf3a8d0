use Rattle.std.proofs.Common.{◌≡◌, ◌*◌, ◌++◌}
use Rattle.std.specs.String.{string_bytes}
use Rattle.judge_spec.specs.MapText.{indent}
use Rattle.pci_map.proofs.line.push_steps.Given as goal

abbrev pub invariant-loop : goal.invariant-loop
invariant-loop g l = string_bytes l.text ≡ string_bytes l.initial.text ++ indent (32 * l.counter)
