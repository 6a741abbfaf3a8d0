use Rattle.std.proofs.Common.{List, ℕ, arith, subst}
use Rattle.pci_spec.specs.System.{Space}
use Rattle.pci_base.specs.declared.range.Range.{Range}
use Rattle.pci_base.specs.WindowKinds.{kind_value}
use Rattle.pci_tree.specs.Ranges.{Holds, Covers}
use Rattle.pci_claims.specs.Values.{code_given_value}
use Rattle.pci_claims.specs.Sent.{IsSentTo}
use Rattle.pci_faults.specs.Missed.{IsLeastMissed}
use Rattle.pci_faults.proofs.Stopping.{passes_more, passes_past, passes_whole, stops_here}
use Rattle.pci_faults.proofs.first_unreached.first_stop.Goals as goal
use Rattle.pci_faults.proofs.first_unreached.first_stop.Goals.{in-Some+in_ok-passed+in_default-least_missed, in_default}

pub returns-in-Some-least_missed : goal.returns-in-Some-least_missed
returns-in-Some-least_missed g c =
    stops_here (code_given_value c.args.given.now) (kind_value c.args.kind) c.args.way.now.records.now c.args.way.now.root c.args.range c.args.way.now.bridges.now c.loop-slot.slot-index c.slot-item.result c.in-Some.bridge.now
    c.in_ok-sent.sent.items c.in_ok-passed.passed.items c.in-Some-least_missed.address c.requires.rising (omega arith) c.slot-item.is c.in-Some.ensures.0 c.in-Some.ensures.1
    (subst (λ (sp : Space). IsSentTo (code_given_value c.args.given.now) sp c.args.way.now.root c.in_ok-sent.sent.items) c.of.ensures c.in_ok-sent.ensures) c.in_ok-passed.ensures.record
    (subst (λ (xs : List Range). IsLeastMissed c.args.range c.in_ok-sent.sent.items xs c.in-Some-least_missed.address) c.deref-in-Some.ensures.value
    (subst (λ (xs : List Range). IsLeastMissed c.args.range xs c.deref-in-Some.result.now c.in-Some-least_missed.address) c.deref.ensures.value c.in-Some-least_missed.ensures))
    c.loop-slot.invariant

pub loop-slot-preserved : goal.loop-slot-preserved
loop-slot-preserved g c = elim c.match-record_at.branch [
  | in-Some+in_ok-passed+in_default-least_missed w ↦
      passes_more (code_given_value c.args.given.now) (kind_value c.args.kind) c.args.way.now.records.now c.args.way.now.root c.args.range c.args.way.now.bridges.now c.loop-slot.slot-index c.slot-item.result w.in-Some.bridge.now
      c.in_ok-sent.sent.items w.in_ok-passed.passed.items c.requires.rising (omega arith) c.slot-item.is w.in-Some.ensures.0 w.in-Some.ensures.1
      (subst (λ (sp : Space). IsSentTo (code_given_value c.args.given.now) sp c.args.way.now.root c.in_ok-sent.sent.items) c.of.ensures c.in_ok-sent.ensures) w.in_ok-passed.ensures.record
      (subst (λ (xs : List Range). (a : ℕ) → Holds c.args.range a → Covers c.in_ok-sent.sent.items a → Covers xs a) w.deref-in-Some.ensures.value
      (subst (λ (xs : List Range). (a : ℕ) → Holds c.args.range a → Covers xs a → Covers w.deref-in-Some.result.now a) w.deref.ensures.value w.in_default-least_missed.ensures))
      c.loop-slot.invariant
  | in_default w ↦
      passes_past (code_given_value c.args.given.now) (kind_value c.args.kind) c.args.way.now.records.now c.args.way.now.root c.args.range c.args.way.now.bridges.now c.loop-slot.slot-index c.slot-item.result (omega arith) c.slot-item.is w.in_default.ensures c.loop-slot.invariant
]

pub returns : goal.returns
returns g c = passes_whole (code_given_value c.args.given.now) (kind_value c.args.kind) c.args.way.now.records.now c.args.way.now.root c.args.range c.args.way.now.bridges.now c.loop-slot.slot-index (omega arith) c.loop-slot.invariant
