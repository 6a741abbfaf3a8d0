use Rattle.std.proofs.Common.{◌≡◌, take, false}
use Rattle.std.specs.Prelude.{map}
use Rattle.std.specs.List.{list_any}
use Rattle.pci_spec.specs.Slot.{same_slot}
use Rattle.pci_claims.specs.Values.{legacy_value}
use Rattle.pci_claims.proofs.bus_claims.has_part.Given as goal

abbrev pub invariant-loop-entry : goal.invariant-loop-entry
invariant-loop-entry l = list_any (λ entry. same_slot entry.slot l.slot) (map legacy_value (take l.entry-index l.entry-items)) ≡ false
