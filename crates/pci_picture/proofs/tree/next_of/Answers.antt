use Rattle.pci_picture.proofs.Trees.{next_found}
use Rattle.pci_picture.proofs.tree.next_of.Goals as goal

pub returns-clause-some : goal.returns-clause-some
returns-clause-some g c =
    next_found c.args.board.now.functions.items c.deref.result.now c.args.rest c.get.result c.if-rest.false c.deref.ensures.value c.get.ensures.lookup
