use Rattle.std.proofs.Common.{arith}
use Rattle.pci_faults.proofs.Owning.{owned_here, none_owned_yet, none_owned_more, none_owned_at_all, none_past, none_from}
use Rattle.pci_faults.proofs.meetings.first_owned.Goals.{in-Some+else-found-piece, in_default}
use Rattle.pci_faults.proofs.meetings.first_owned.Goals as goal

pub loop-piece-init : goal.loop-piece-init
loop-piece-init g c = none_owned_yet c.args.owners.now

pub returns-then-found-piece : goal.returns-then-found-piece
returns-then-found-piece g c =
    owned_here c.args.owners.now c.args.pieces.now c.loop-piece.piece-index _ c.in-Some.found c.requires (omega arith) c.loop-piece.invariant c.in-Some.ensures c.if-found-piece.true

pub loop-piece-preserved : goal.loop-piece-preserved
loop-piece-preserved g c = elim c.match-first_from.branch [
  | in-Some+else-found-piece w ↦ none_owned_more c.args.owners.now c.args.pieces.now c.loop-piece.piece-index _ (omega arith) c.loop-piece.invariant
      (none_past c.args.owners.now _ w.in-Some.found w.in-Some.ensures w.if-found-piece.false)
  | in_default w ↦ none_owned_more c.args.owners.now c.args.pieces.now c.loop-piece.piece-index _ (omega arith) c.loop-piece.invariant (none_from c.args.owners.now _ w.in_default.ensures)
]

pub returns : goal.returns
returns g c = none_owned_at_all c.args.owners.now c.args.pieces.now c.loop-piece.piece-index (omega arith) c.loop-piece.invariant
