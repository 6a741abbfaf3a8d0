use Rattle.std.proofs.Common.{◌≡◌, ◌++◌, map, take}
use Rattle.std.specs.List.{flat_map}
use Rattle.std.specs.String.{string_bytes}
use Rattle.pci_plan.specs.Writes.{write_value}
use Rattle.pci_script.specs.Scripts.{compare_line}
use Rattle.pci_script.proofs.lines.push_compares.Given as goal

abbrev pub invariant-loop-register : goal.invariant-loop-register
invariant-loop-register g l =
    string_bytes l.text ≡ string_bytes l.initial.text ++ flat_map (compare_line l.form) (map write_value (take l.register-index l.registers))
