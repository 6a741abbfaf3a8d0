use Rattle.std.proofs.Common.{◌+◌, ◌++◌, [], arith, subst, sym, ap, ◌∙◌, take}
use Rattle.std.proofs.lemmas.List.{take_all}
use Rattle.pci_base.specs.Space.{space_of}
use Rattle.pci_claims.specs.Passed.{ArePiecesOf}
use Rattle.pci_claims.proofs.Bridging.{no_pieces, pieces_more, pieces_less, same_of}
use Rattle.pci_claims.proofs.passed.pieces_of.Goals as goal
use Rattle.pci_claims.proofs.passed.pieces_of.Goals.{then-eq+in_ok-more+in_ok-extend_from_slice, else-eq}

pub loop-entry-preserved : goal.loop-entry-preserved
loop-entry-preserved g c = elim c.if-eq.branch [
  | then-eq+in_ok-more+in_ok-extend_from_slice w ↦
      pieces_more c.args.part c.args.entries.now c.loop-entry.entry-index c.entry-item.result c.args.slot (space_of c.args.space) c.loop-entry.out.items w.in_ok-more.more.items c.if-eq.out.items
      c.loop-entry.invariant (omega arith) c.entry-item.is (same_of c.entry-item.result.slot c.args.slot _ (sym c.eq.ensures ∙ w.if-eq.true)) w.in_ok-more.ensures
      (ap (λ v. v.items) w.out-is ∙ w.in_ok-extend_from_slice.ensures.items ∙ ap (λ xs. c.loop-entry.out.items ++ xs) w.deref.ensures.value)
  | else-eq w ↦
      subst (λ xs. ArePiecesOf c.args.part (take (c.loop-entry.entry-index + 1) c.args.entries.now) c.args.slot (space_of c.args.space) xs) (sym (ap (λ v. v.items) w.out-is))
      (pieces_less c.args.part c.args.entries.now c.loop-entry.entry-index c.entry-item.result c.args.slot (space_of c.args.space) c.loop-entry.out.items
      c.loop-entry.invariant (omega arith) c.entry-item.is (same_of c.entry-item.result.slot c.args.slot _ (sym c.eq.ensures ∙ w.if-eq.false)))
]

pub loop-entry-init : goal.loop-entry-init
loop-entry-init g c = subst (λ xs. ArePiecesOf c.args.part [] c.args.slot (space_of c.args.space) xs) (sym c.new-out.ensures.items) (no_pieces c.args.part c.args.slot (space_of c.args.space))

pub returns : goal.returns
returns g c = subst (λ xs. ArePiecesOf c.args.part xs c.args.slot (space_of c.args.space) c.loop-entry.out.items) (take_all c.loop-entry.entry-index c.args.entries.now (omega arith)) c.loop-entry.invariant
