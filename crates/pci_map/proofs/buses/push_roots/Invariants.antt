use Rattle.std.specs.List.{range_with_len}
use Rattle.std.specs.String.{string_bytes}
use Rattle.pci_spec.specs.System.{System}
use Rattle.pci_claims.specs.Values.{code_given_value, told_value}
use Rattle.pci_map.specs.Mapped.{IsSystemWith}
use Rattle.pci_map.specs.Buses.{AreRootsTold}
use Rattle.pci_map.proofs.buses.push_roots.Given as goal

abbrev pub invariant-loop-bus : goal.invariant-loop-bus
invariant-loop-bus g l =
    (s : System) → IsSystemWith (told_value l.mapped.told) (code_given_value l.mapped.given) l.mapped.outline.now l.mapped.above.now l.mapped.ways.now l.mapped.takers.now s
    → AreRootsTold (told_value l.mapped.told) (code_given_value l.mapped.given) l.mapped.outline.now.roots s (range_with_len 0 l.bus) (string_bytes l.initial.text) (string_bytes l.text)
