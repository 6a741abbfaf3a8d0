use Rattle.std.proofs.Common.{◌≡◌, map, take, false}
use Rattle.std.specs.List.{list_any}
use Rattle.pci_spec.specs.Slot.{same_slot}
use Rattle.pci_claims.specs.Values.{taking_value}
use Rattle.pci_why.proofs.unclaimed.is_taking.Given as goal

abbrev pub invariant-loop-entry : goal.invariant-loop-entry
invariant-loop-entry l = list_any (λ e. same_slot e.slot l.slot) (map taking_value (take l.entry-index l.given.unclaimed.now)) ≡ false
