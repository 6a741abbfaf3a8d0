use Rattle.std.proofs.Common.{◌≡◌, take, false}
use Rattle.std.specs.List.{list_any}
use Rattle.pci_spec.specs.Slot.{same_slot}
use Rattle.pci_claims.proofs.isa.has_isa.Given as goal

abbrev pub invariant-loop-other : goal.invariant-loop-other
invariant-loop-other l = list_any (λ other. same_slot other l.slot) (take l.other-index l.given.isa.now) ≡ false
