use Rattle.std.proofs.Common.{arith}
use Rattle.pci_faults.proofs.Owning.{given_none, given_more, given_all}
use Rattle.pci_faults.proofs.meetings.add_pieces.Goals as goal

pub loop-piece-init : goal.loop-piece-init
loop-piece-init g c = given_none c.args.owner c.args.owners.now

pub loop-piece-preserved : goal.loop-piece-preserved
loop-piece-preserved g c =
    given_more c.args.pieces.now c.loop-piece.piece-index _ c.args.owner c.args.owners.now c.loop-piece.owners c.add.new.self (omega arith) c.loop-piece.invariant c.in_ok-add.ensures

pub returns : goal.returns
returns g c = given_all c.args.pieces.now c.loop-piece.piece-index c.args.owner c.args.owners.now c.loop-piece.owners (omega arith) c.loop-piece.invariant
