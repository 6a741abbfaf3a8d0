use Rattle.std.proofs.Common.{◌≤◌, length, take, IsTrue}
use Rattle.std.specs.List.{All}
use Rattle.pci_spec.specs.Text.{is_title_byte}
use Rattle.pci_dump.proofs.parse.last_title_len.Given as goal

abbrev pub invariant-loop-i : goal.invariant-loop-i
invariant-loop-i l = record { within : l.i ≤ length l.bytes; each : All (λ c. IsTrue (is_title_byte c)) (take l.i l.bytes) }
