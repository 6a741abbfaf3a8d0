use Rattle.std.proofs.Common.{◌≡◌, ◌+◌, length, map, take}
use Rattle.std.specs.List.{flat_map}
use Rattle.pci_claims.specs.Values.{legacy_value}
use Rattle.pci_model_settle.specs.ClaimLines.{part_lines}
use Rattle.pci_model_settle.proofs.claim_lines.lines_left.Given as goal

abbrev pub invariant-loop-bridge : goal.invariant-loop-bridge
invariant-loop-bridge l =
    l.left + length (flat_map (part_lines l.part) (map legacy_value (take l.bridge-index l.bridges))) ≡ l.lines
