use Rattle.std.proofs.Common.{◌+◌, length, subst, sym, arith, ap, ◌∙◌, get_or, None}
use Rattle.std.specs.List.{All}
use Rattle.std.proofs.lemmas.Bool.{both_ways}
use Rattle.std.proofs.lemmas.List.{length_push}
use Rattle.pci_base.specs.WindowKinds.{kind_value}
use Rattle.pci_tree.specs.Ranges.{IsCanonical}
use Rattle.pci_tree.specs.Roots.{buses_of}
use Rattle.pci_tree.specs.Reaches.{IsReachOf, IsStep}
use Rattle.pci_tree.proofs.Reaching.{step_reach, more_at, above_below}
use Rattle.pci_tree.proofs.reach.reaches.Goals as goal

pub reach_of_bus-requires-clause-lower : goal.reach_of_bus-requires-clause-lower
reach_of_bus-requires-clause-lower g c =
    above_below c.args.records.now c.loop-bus.bus _ (get_or c.args.bridge_to_bus.now c.loop-bus.bus None) c.requires.forest (ap length c.deref.ensures.value ∙ c.loop-bus.invariant.size)
    (c.requires.bridge_to_bus c.loop-bus.bus (omega arith))

pub reach_of_bus-requires-clause-canonical : goal.reach_of_bus-requires-clause-canonical
reach_of_bus-requires-clause-canonical g c =
    subst (All IsCanonical) (sym c.deref.ensures.value) (λ k d lt. (c.loop-bus.invariant.exact k d (omega arith)).canonical)

pub loop-bus-preserved : goal.loop-bus-preserved
loop-bus-preserved g c = record {
  size = ap length c.in_ok-push.ensures.items ∙ length_push c.loop-bus.out.items _ ∙ ap (λ n. n + 1) c.loop-bus.invariant.size;
  exact = more_at (λ k r. IsReachOf c.args.records.now (buses_of c.args.roots.now) (kind_value c.args.kind) k r) c.loop-bus.out.items _ _ c.loop-bus.bus
      c.in_ok-push.ensures.items c.loop-bus.invariant.size c.loop-bus.invariant.exact
      (step_reach c.args.records.now (buses_of c.args.roots.now) (kind_value c.args.kind) c.loop-bus.bus c.loop-bus.out.items (get_or c.args.bridge_to_bus.now c.loop-bus.bus None)
      c.has.result c.in_ok-ranges.ranges.items c.requires.forest (c.requires.bridge_to_bus c.loop-bus.bus (omega arith)) (λ is. c.has.ensures.0 is)
      (λ is root. both_ways _ is (c.has.ensures.1 root)) c.loop-bus.invariant.exact
      (subst (λ xs. IsStep xs c.args.records.now (get_or c.args.bridge_to_bus.now c.loop-bus.bus None) (kind_value c.args.kind) c.has.result c.in_ok-ranges.ranges.items)
      c.deref.ensures.value c.in_ok-ranges.ensures));
}
