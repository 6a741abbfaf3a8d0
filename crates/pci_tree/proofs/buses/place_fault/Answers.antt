use Rattle.std.proofs.Common.{refl, sym, ◌∙◌, subst, arith, None, get_or}
use Rattle.std.specs.List.{Contains}
use Rattle.std.proofs.lemmas.Bool.{both_ways}
use Rattle.pci_tree.specs.Roots.{buses_of}
use Rattle.pci_tree.specs.BusNumbers.{IsLeastEnd}
use Rattle.pci_tree.proofs.LeastEnds.{not_led}
use Rattle.pci_tree.proofs.buses.place_fault.Goals as goal

pub returns-then-not-has_upstream_bridge : goal.returns-then-not-has_upstream_bridge
returns-then-not-has_upstream_bridge c = (
  refl,
  not_led (buses_of c.args.roots.now) c.args.records.now c.args.function.now.slot.bus (get_or c.args.ends.now c.bus-bus.result None)
      (subst (λ n. IsLeastEnd c.args.records.now n (get_or c.args.ends.now c.bus-bus.result None)) c.bus-bus.ensures (c.requires.ends c.bus-bus.result (omega arith)))
      (sym c.has_upstream_bridge.ensures ∙ c.if-not-has_upstream_bridge.true) (λ root. both_ways _ c.if-not-has.true (c.has.ensures.1 (subst (Contains (buses_of c.args.roots.now)) (sym c.bus-bus.ensures) root))),
  c.is_not_lone.ensures.0 c.if-not-is_not_lone.false,
)
