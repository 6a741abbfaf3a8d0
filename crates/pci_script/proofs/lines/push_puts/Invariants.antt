use Rattle.std.proofs.Common.{◌≡◌, ◌++◌, map, take}
use Rattle.std.specs.String.{string_bytes}
use Rattle.pci_plan.specs.Writes.{write_value}
use Rattle.pci_script.specs.Scripts.{put_lines}
use Rattle.pci_script.proofs.lines.push_puts.Given as goal

abbrev pub invariant-loop-i : goal.invariant-loop-i
invariant-loop-i g l = string_bytes l.text ≡ string_bytes l.initial.text ++ put_lines l.form 1 (map write_value (take l.i l.writes))
