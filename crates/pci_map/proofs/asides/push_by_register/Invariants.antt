use Rattle.std.proofs.Common.{◌*◌}
use Rattle.pci_spec.specs.System.{System, Io, Memory}
use Rattle.pci_tree.specs.Outline.{Tree}
use Rattle.judge_spec.specs.ToldClaims.{Told}
use Rattle.pci_claims.specs.Values.{code_given_value}
use Rattle.pci_map.specs.Above.{AreSentAbove}
use Rattle.pci_map.specs.Ways.{AreWays}
use Rattle.pci_map.specs.Asides.{AreFoundBy, IsNamedBelow, AreAsides}
use Rattle.pci_map.proofs.asides.push_by_register.Given as goal

abbrev pub invariant-loop-register : goal.invariant-loop-register
invariant-loop-register g l =
    (told : Told) (t : Tree) (s : System) → AreSentAbove (code_given_value l.routes.given) t s l.routes.above.now → AreWays (code_given_value l.routes.given) t.roots s l.routes.ways.now → AreFoundBy s l.function.slot Io l.function.io.now → AreFoundBy s l.function.slot Memory l.function.memory.now
    → AreAsides told (code_given_value l.routes.given) t.roots s (IsNamedBelow l.function.slot (4 * l.register)) l.initial.asides l.asides
