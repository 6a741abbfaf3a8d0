use Rattle.std.proofs.Common.{refl, sym, subst, arith, None, get_or}
use Rattle.std.specs.List.{Contains}
use Rattle.std.proofs.lemmas.Bool.{both_ways}
use Rattle.pci_tree.specs.Roots.{buses_of}
use Rattle.pci_tree.specs.BusNumbers.{IsLeastEnd}
use Rattle.pci_tree.proofs.BusTests.{lawful_buses}
use Rattle.pci_tree.proofs.LeastEnds.{inside_from, inside_to}
use Rattle.pci_tree.proofs.buses.has_lawful_buses.Goals as goal

pub returns-then-has : goal.returns-then-has
returns-then-has c = (
  λ h. lawful_buses (buses_of c.args.roots.now) c.args.records.now c.args.slot c.args.bridge.now c.bus-bus.result c.bus-bus.ensures (c.has_order.ensures.0 c.if-not-has_order.false)
      (c.is_apart_from_earlier.ensures.0 c.if-not-is_apart_from_earlier.false) (c.has_no_root_behind.ensures.0 c.if-not-has_no_root_behind.false)
      (λ off. absurd (off (subst (Contains (buses_of c.args.roots.now)) c.bus-bus.ensures (c.has.ensures.0 c.if-has.true)))),
  λ h. refl,
)

pub returns : goal.returns
returns c =
    let least : IsLeastEnd c.args.records.now c.args.slot.bus (get_or c.args.ends.now c.bus-bus.result None) =
    subst (λ n. IsLeastEnd c.args.records.now n (get_or c.args.ends.now c.bus-bus.result None)) c.bus-bus.ensures (c.requires.ends c.bus-bus.result (omega arith)) in (
      λ h. lawful_buses (buses_of c.args.roots.now) c.args.records.now c.args.slot c.args.bridge.now c.bus-bus.result c.bus-bus.ensures (c.has_order.ensures.0 c.if-not-has_order.false)
          (c.is_apart_from_earlier.ensures.0 c.if-not-is_apart_from_earlier.false) (c.has_no_root_behind.ensures.0 c.if-not-has_no_root_behind.false)
          (inside_from (buses_of c.args.roots.now) c.args.records.now c.args.slot c.args.bridge.now (get_or c.args.ends.now c.bus-bus.result None) least (c.ends_within.ensures.0 h)),
      λ all. c.ends_within.ensures.1 (inside_to (buses_of c.args.roots.now) c.args.records.now c.args.slot c.args.bridge.now (get_or c.args.ends.now c.bus-bus.result None) least
          (λ root. both_ways _ c.if-has.false (c.has.ensures.1 (subst (Contains (buses_of c.args.roots.now)) (sym c.bus-bus.ensures) root))) all.inside),
    )
