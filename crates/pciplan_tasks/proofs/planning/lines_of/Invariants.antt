use Rattle.std.proofs.Common.{◌≡◌, map, take}
use Rattle.std.specs.List.{flat_map}
use Rattle.std.specs.String.{string_bytes}
use Rattle.pci_spec.specs.Line.{write_line}
use Rattle.pci_plan.specs.Writes.{write_value}
use Rattle.pciplan_tasks.proofs.planning.lines_of.Given as goal

abbrev pub invariant-loop-write : goal.invariant-loop-write
invariant-loop-write g l = string_bytes l.text ≡ flat_map write_line (map write_value (take l.write-index l.writes))
