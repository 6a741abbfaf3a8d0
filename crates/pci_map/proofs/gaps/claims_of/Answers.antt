use Rattle.std.proofs.Common.{List, ap, sym, subst, take, ◌∙◌, ◌++◌}
use Rattle.pci_base.specs.Space.{space_of}
use Rattle.pci_base.specs.declared.range.Range.{Range}
use Rattle.pci_claims.specs.Values.{code_given_value}
use Rattle.pci_map.specs.Gaps.{AreClaimedBy}
use Rattle.pci_map.proofs.Covering.{none_claimed, one_claimed, all_claimed}
use Rattle.pci_map.proofs.gaps.claims_of.Goals as goal

pub loop-seat-init : goal.loop-seat-init
loop-seat-init g c =
    subst (λ (xs : List Range). AreClaimedBy (code_given_value c.args.given.now) (space_of c.args.space) (take 0 c.args.seats.now) xs) (sym c.new-out.ensures.items)
    (none_claimed (code_given_value c.args.given.now) (space_of c.args.space) c.args.seats.now)

pub loop-seat-preserved : goal.loop-seat-preserved
loop-seat-preserved g c =
    one_claimed (code_given_value c.args.given.now) (space_of c.args.space) c.args.seats.now c.loop-seat.seat-index c.seat-item.result c.loop-seat.out.items c.in_ok-more.more.items _
    c.loop-seat-test.true c.seat-item.is c.loop-seat.invariant c.in_ok-more.ensures (c.in_ok-extend_from_slice.ensures.items ∙ ap (λ (xs : List Range). c.loop-seat.out.items ++ xs) c.deref.ensures.value)

pub returns : goal.returns
returns g c = all_claimed (code_given_value c.args.given.now) (space_of c.args.space) c.args.seats.now c.loop-seat.seat-index c.loop-seat.out.items c.loop-seat-test.false c.loop-seat.invariant
