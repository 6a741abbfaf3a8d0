use Rattle.std.proofs.Common.{take}
use Rattle.pci_why.specs.Free.{AreOfOthers}
use Rattle.pci_why.proofs.free.pieces_of_others.Given as goal

abbrev pub invariant-loop-claim : goal.invariant-loop-claim
invariant-loop-claim g l = AreOfOthers (take l.claim-index l.claims) l.slot l.reg l.out.items
