use Rattle.std.proofs.Common.{◌≡◌, ◌-◌, ◌/◌, ◌^◌, ◌++◌}
use Rattle.std.specs.String.{string_bytes}
use Rattle.pci_spec.specs.Line.{hex_number}
use Rattle.pci_listing.proofs.hex_text.push_hex.Given as goal

abbrev pub invariant-loop-done : goal.invariant-loop-done
invariant-loop-done g l = string_bytes l.text ≡ string_bytes l.initial.text ++ hex_number l.done (l.number / 16 ^ (l.digits - l.done))
