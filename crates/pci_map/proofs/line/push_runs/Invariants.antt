use Rattle.std.proofs.Common.{◌≡◌, ◌++◌, map, take}
use Rattle.std.specs.List.{flat_map}
use Rattle.std.specs.String.{string_bytes}
use Rattle.judge_spec.specs.MapText.{free_line}
use Rattle.pci_base.specs.Ranges.{decoded_range_of}
use Rattle.pci_base.specs.Space.{space_of}
use Rattle.pci_map.proofs.line.push_runs.Given as goal

abbrev pub invariant-loop-run : goal.invariant-loop-run
invariant-loop-run g l = string_bytes l.text ≡ string_bytes l.initial.text ++ flat_map (free_line l.depth (space_of l.space)) (map decoded_range_of (take l.run-index l.runs))
