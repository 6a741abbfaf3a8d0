use Rattle.std.proofs.Common.{take}
use Rattle.std.specs.List.{Contains}
use Rattle.std.specs.String.{string_bytes}
use Rattle.pci_spec.specs.System.{System}
use Rattle.pci_base.specs.Space.{space_of}
use Rattle.pci_claims.specs.Values.{code_given_value, told_value}
use Rattle.pci_map.specs.Mapped.{IsSystemWith}
use Rattle.pci_map.specs.Buses.{AreTakingsTold}
use Rattle.pci_map.proofs.takings.push_takings.Given as goal

abbrev pub invariant-loop-taker : goal.invariant-loop-taker
invariant-loop-taker g l =
    (s : System) → IsSystemWith (told_value l.walk.mapped.now.told) (code_given_value l.walk.mapped.now.given) l.walk.mapped.now.outline.now l.walk.mapped.now.above.now l.walk.mapped.now.ways.now l.walk.mapped.now.takers.now s
    → Contains l.walk.mapped.now.outline.now.roots l.root
    → AreTakingsTold record { told = told_value l.walk.mapped.now.told; given = code_given_value l.walk.mapped.now.given; roots = l.walk.mapped.now.outline.now.roots; system = s; space = space_of l.walk.space } l.root
    (take l.taker-index l.walk.mapped.now.takers.now) (string_bytes l.initial.text) (string_bytes l.text)
