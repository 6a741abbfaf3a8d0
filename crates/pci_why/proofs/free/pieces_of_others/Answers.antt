use Rattle.std.proofs.Common.{◌+◌, ◌≤◌, ◌++◌, List, take, subst, sym, ap, ◌∙◌}
use Rattle.std.specs.List.{All}
use Rattle.std.proofs.lemmas.Bool.{iff_false}
use Rattle.pci_base.specs.declared.range.Range.{Range}
use Rattle.pci_why.specs.Free.{AreOfOthers}
use Rattle.pci_why.proofs.Others.{others_more, others_less}
use Rattle.pci_why.proofs.free.pieces_of_others.Goals.{then-is_other+in_ok-extend_from_slice, else-is_other}
use Rattle.pci_why.proofs.free.pieces_of_others.Goals as goal

pub loop-claim-preserved : goal.loop-claim-preserved
loop-claim-preserved g c = elim c.if-is_other.branch [
  | then-is_other+in_ok-extend_from_slice w ↦
      others_more c.args.claims.now c.loop-claim.claim-index c.claim-item.result c.args.slot c.args.reg c.loop-claim.out.items c.loop-claim-test.true c.claim-item.is c.loop-claim.invariant
      c.if-is_other.out.items (c.is_other.ensures.0 w.if-is_other.true)
      (subst (λ (rs : List Range). All (λ r. r.first ≤ r.last) rs) w.pieces.ensures.value w.pieces.ensures.canonical.each)
      (ap (λ v. v.items) w.out-is ∙ w.in_ok-extend_from_slice.ensures.items ∙ ap (λ rs. c.loop-claim.out.items ++ rs) w.pieces.ensures.value)
  | else-is_other w ↦
      subst (λ (rs : List Range). AreOfOthers (take (c.loop-claim.claim-index + 1) c.args.claims.now) c.args.slot c.args.reg rs) (sym (ap (λ v. v.items) w.out-is))
      (others_less c.args.claims.now c.loop-claim.claim-index c.claim-item.result c.args.slot c.args.reg c.loop-claim.out.items c.loop-claim-test.true c.claim-item.is c.loop-claim.invariant
      (λ other. iff_false c.is_other.ensures w.if-is_other.false other))
]
