use Rattle.std.proofs.Common.{◌≡◌, ◌++◌, map, take}
use Rattle.std.specs.List.{flat_map}
use Rattle.std.specs.String.{string_bytes}
use Rattle.judge_spec.specs.MapText.{map_off_line, map_told_line}
use Rattle.pci_claims.specs.Off.{off_value, off_part_line}
use Rattle.pci_map.proofs.off.push_lines.Given as goal

abbrev pub invariant-loop-one : goal.invariant-loop-one
invariant-loop-one g l = string_bytes l.text ≡ string_bytes l.initial.text ++ flat_map (off_part_line map_off_line (map_told_line 1)) (map off_value (take l.one-index l.off))
