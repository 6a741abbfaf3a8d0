use Rattle.std.proofs.Common.{◌≡◌, map, take, false, ◌&&◌, not}
use Rattle.std.specs.List.{list_any}
use Rattle.pci_spec.specs.Slot.{same_slot}
use Rattle.pci_claims.specs.Values.{legacy_value}
use Rattle.pci_why.proofs.legacy.is_narrow.Given as goal

abbrev pub invariant-loop-entry : goal.invariant-loop-entry
invariant-loop-entry l = list_any (λ e. same_slot e.slot l.slot && not e.is_wide) (map legacy_value (take l.entry-index l.bridges)) ≡ false
