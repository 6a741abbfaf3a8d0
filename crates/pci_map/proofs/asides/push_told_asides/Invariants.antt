use Rattle.std.proofs.Common.{◌≤◌}
use Rattle.pci_spec.specs.System.{System}
use Rattle.pci_claims.specs.Values.{code_given_value, told_value}
use Rattle.pci_map.specs.Mapped.{IsSystemOf}
use Rattle.pci_map.specs.Ways.{AreWays}
use Rattle.pci_map.specs.Asides.{IsRangeFrom, AreAsides}
use Rattle.pci_map.proofs.asides.push_told_asides.Given as goal

abbrev pub invariant-loop-i : goal.invariant-loop-i
invariant-loop-i g l = record {
  from : l.fn.first ≤ l.i;
  written : (s : System) → IsSystemOf (told_value l.mapped.told) (code_given_value l.routes.given) l.mapped.outline.now l.routes.above.now s → AreWays (code_given_value l.routes.given) l.mapped.outline.now.roots s l.routes.ways.now
      → AreAsides (told_value l.mapped.told) (code_given_value l.routes.given) l.mapped.outline.now.roots s (IsRangeFrom l.fn.first l.i) l.initial.asides l.asides;
}
