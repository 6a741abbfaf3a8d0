use Rattle.std.proofs.Common.{◌≡◌, drop}
use Rattle.std.specs.List.{list_any}
use Rattle.pci_spec.specs.Slot.{same_slot}
use Rattle.pci_first_fit.proofs.slots.Slots.has.Given as goal

abbrev pub invariant-loop-one : goal.invariant-loop-one
invariant-loop-one l =
    list_any (same_slot l.bridge) (drop l.one-index l.self.bridges.now) ≡ list_any (same_slot l.bridge) l.self.bridges.now
