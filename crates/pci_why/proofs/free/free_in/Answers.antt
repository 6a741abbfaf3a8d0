use Rattle.std.proofs.Common.{List, subst}
use Rattle.std.proofs.lemmas.Result.{IfOk-weaker}
use Rattle.pci_spec.specs.System.{Space, window_space}
use Rattle.pci_base.specs.declared.range.Range.{Range}
use Rattle.pci_base.specs.Space.{space_of, kind_in}
use Rattle.pci_claims.specs.Claim.{Claimed}
use Rattle.pci_claims.specs.Gathered.{IsCommon}
use Rattle.pci_claims.specs.Reached.{IsStartedReachTo}
use Rattle.pci_claims.specs.Found.{region_of_found}
use Rattle.pci_why.specs.Missed.{IsOutsideRange}
use Rattle.pci_why.specs.Free.{AreOfOthers, AreClaimsBeside}
use Rattle.pci_why.proofs.Freed.{reach_of_kind, region_low, free_exact}
use Rattle.pci_why.proofs.Roomy.{space_same}
use Rattle.pci_why.proofs.free.free_in.Goals as goal

pub returns-clause-exact : goal.returns-clause-exact
returns-clause-exact g c =
    let space = space_of c.args.moving.now.space in
    let q = c.args.moving.now.region in
    let room = c.args.room.now in
    let left = c.in_ok-others_left.others_left.items in
    let others = c.in_ok-pieces_of_others.field-0.items in
    IfOk-weaker c.common.result _ _
    (λ v both told given t is bus s f part tree nested listed region.
    free_exact told given t.roots s (region_of_found q part space) (region_low f part space q region) room.claims
    (subst (λ (sp : Space). AreClaimsBeside told given t.roots s q.slot.bus sp room.claims) (space_same space q.prefetch)
    (subst (λ n. AreClaimsBeside told given t.roots s n (window_space (kind_in space q.prefetch)) room.claims) bus (is.claims s tree nested)))
    room.reach others c.in_ok-taken.taken.items left v.items c.whole.result
    (reach_of_kind given t.roots s space q.prefetch q.slot.bus room.reach (subst (λ n. IsStartedReachTo given t.roots s (kind_in space q.prefetch) n room.reach) bus (is.reached s tree.records)))
    (subst (λ (l : List Claimed). AreOfOthers l q.slot q.reg others) c.claims.ensures c.in_ok-pieces_of_others.ensures)
    c.in_ok-taken.ensures c.whole.ensures.exact
    (subst (λ (rs : List Range). IsOutsideRange c.whole.result rs left) c.deref.ensures.value c.in_ok-others_left.ensures)
    (subst (λ (rs : List Range). IsCommon rs left v.items) c.reach.ensures.value
    (subst (λ (rs : List Range). IsCommon c.reach.result.now rs v.items) c.deref-2.ensures.value both)))
    c.common.ensures
