use Rattle.pci_settle.specs.Before.{AreOwnBefore}
use Rattle.pci_settle.proofs.wishes_before.own_before.Given as goal

abbrev pub invariant-loop-k : goal.invariant-loop-k
invariant-loop-k g l = AreOwnBefore l.records l.tables l.k l.parts.items
