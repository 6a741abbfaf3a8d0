use Rattle.std.proofs.Common.{arith, refl}
use Rattle.pci_grow.proofs.Facts.{over_of, over_within}
use Rattle.pci_grow.proofs.board.Board.bridge_over.Goals as goal

pub returns-clause-over : goal.returns-clause-over
returns-clause-over c = λ q s asked. over_of q s c.args.self.now asked c.args.bus (omega arith) _ refl

pub returns-clause-within : goal.returns-clause-within
returns-clause-within c = λ over. over_within c.args.self.now over c.args.bus (omega arith) _ refl
