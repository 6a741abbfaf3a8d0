use Rattle.std.proofs.Common.{◌≡◌, map, take}
use Rattle.std.specs.List.{flat_map}
use Rattle.pci_claims.specs.Values.{legacy_value}
use Rattle.pci_model_settle.specs.ClaimLines.{claim_line, part_lines}
use Rattle.pci_model_settle.specs.LineValues.{line_value}
use Rattle.pci_model_settle.proofs.claim_lines.claims_of.Given as goal

abbrev pub invariant-loop-bridge : goal.invariant-loop-bridge
invariant-loop-bridge g l =
    map line_value l.out.items ≡ map claim_line (flat_map (part_lines l.part) (map legacy_value (take l.bridge-index l.bridges)))
