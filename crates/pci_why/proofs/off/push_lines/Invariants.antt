use Rattle.std.proofs.Common.{◌≡◌, ◌++◌, map, take}
use Rattle.std.specs.List.{flat_map}
use Rattle.std.specs.String.{string_bytes}
use Rattle.pci_spec.specs.Why.{off_line}
use Rattle.judge_spec.specs.Why.{range_off_line}
use Rattle.pci_claims.specs.Off.{off_value, off_part_line}
use Rattle.pci_why.proofs.off.push_lines.Given as goal

abbrev pub invariant-loop-one : goal.invariant-loop-one
invariant-loop-one g l = string_bytes l.text ≡ string_bytes l.initial.text ++ flat_map (off_part_line off_line range_off_line) (map off_value (take l.one-index l.off))
