use Rattle.std.proofs.Common.{List, ◌+◌, arith, ap, subst, sym, take}
use Rattle.pci_base.specs.declared.range.Range.{Range}
use Rattle.pci_claims.specs.Values.{code_given_value}
use Rattle.pci_claims.specs.Passed.{IsLetOn}
use Rattle.pci_claims.specs.Reached.{IsReachAlong}
use Rattle.pci_claims.proofs.Reaching.{reach_more, reach_past}
use Rattle.pci_claims.proofs.reach.reach_along.Goals as goal
use Rattle.pci_claims.proofs.reach.reach_along.Goals.{in-Some+in_ok-reach-2, in_default}

pub loop-slot-preserved : goal.loop-slot-preserved
loop-slot-preserved g c = elim c.match-record_at.branch [
  | in-Some+in_ok-reach-2 w ↦
      subst (λ (xs : List Range). IsReachAlong (code_given_value c.args.given.now) c.args.through c.args.records.now c.args.way.now.root (take (c.loop-slot.slot-index + 1) c.args.way.now.bridges.now) xs) (sym (ap (λ v. v.items) w.reach-is))
      (reach_more (code_given_value c.args.given.now) c.args.through c.args.records.now c.args.way.now.root c.args.way.now.bridges.now c.loop-slot.slot-index c.slot-item.result w.in-Some.bridge.now c.loop-slot.reach.items w.in_ok-reach-2.reach.items
      c.requires.rising (omega arith) c.slot-item.is w.in-Some.ensures.0 w.in-Some.ensures.1 c.loop-slot.invariant
      (subst (λ (xs : List Range). IsLetOn (code_given_value c.args.given.now) c.args.through xs w.in-Some.bridge.now w.in_ok-reach-2.reach.items) w.deref.ensures.value w.in_ok-reach-2.ensures))
  | in_default w ↦
      subst (λ (xs : List Range). IsReachAlong (code_given_value c.args.given.now) c.args.through c.args.records.now c.args.way.now.root (take (c.loop-slot.slot-index + 1) c.args.way.now.bridges.now) xs) (sym (ap (λ v. v.items) w.reach-is))
      (reach_past (code_given_value c.args.given.now) c.args.through c.args.records.now c.args.way.now.root c.args.way.now.bridges.now c.loop-slot.slot-index c.slot-item.result c.loop-slot.reach.items (omega arith) c.slot-item.is w.in_default.ensures c.loop-slot.invariant)
]
