use Rattle.std.proofs.Common.{List}
use Rattle.pci_spec.specs.Slot.{Slot}
use Rattle.pci_kept.specs.Flags.{AreFlags}
use Rattle.pci_settle.proofs.WishesLists.{AreFlagsTo}
use Rattle.pci_settle.proofs.wishes_asked.flags_by_function.Given as goal

abbrev pub invariant-loop-k : goal.invariant-loop-k
invariant-loop-k g l = (slots : List Slot) → AreFlags slots l.flags → AreFlagsTo l.records slots l.k l.own.items
