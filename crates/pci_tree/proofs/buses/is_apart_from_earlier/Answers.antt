use Rattle.std.proofs.Common.{refl, subst, sym}
use Rattle.std.proofs.lemmas.Bool.{both_ways, false≢true}
use Rattle.std.specs.List.{Contains}
use Rattle.pci_tree.specs.Roots.{buses_of}
use Rattle.pci_tree.specs.Outline.{IsBusPart}
use Rattle.pci_tree.proofs.BusTests.{apart_on_bus, apart_beside, apart_of_all, apart_all, apart_on_own}
use Rattle.pci_tree.specs.BusNumbers.{AreSiblings}
use Rattle.pci_tree.proofs.buses.is_apart_from_earlier.Goals as goal
use Rattle.pci_tree.proofs.buses.is_apart_from_earlier.Goals.{then-are_siblings+else-not-is_apart_from_lower, else-are_siblings}

pub returns-then-not-has : goal.returns-then-not-has
returns-then-not-has c =
    apart_on_own (buses_of c.args.roots.now) c.args.records.now c.on_bus.result.now c.args.slot c.args.bridge.now
    (subst (λ bus. IsBusPart c.args.records.now bus c.on_bus.result.now) c.bus-own.ensures c.on_bus.ensures)
    (λ root. both_ways _ c.if-not-has.true (c.has.ensures.1 (subst (Contains (buses_of c.args.roots.now)) (sym c.bus-own.ensures) root)))
    c.is_apart_from_lower.ensures

pub returns-then-not-is_apart_from_lower : goal.returns-then-not-is_apart_from_lower
returns-then-not-is_apart_from_lower c = (
  λ h. absurd (false≢true h),
  λ all. absurd (
      let side : AreSiblings (buses_of c.args.roots.now) c.loop-bus.bus c.args.slot.bus =
      subst (AreSiblings (buses_of c.args.roots.now) c.loop-bus.bus) c.bus-own.ensures (c.are_siblings.ensures.0 c.if-are_siblings.true) in
      both_ways _ c.if-not-is_apart_from_lower.true
      (c.is_apart_from_lower-then-are_siblings.ensures.1
      (apart_of_all c.loop-bus.bus (buses_of c.args.roots.now) c.args.records.now c.on_bus-part.result.now c.args.slot c.args.bridge.now c.on_bus-part.ensures side all))),
)

pub loop-bus-preserved : goal.loop-bus-preserved
loop-bus-preserved c = elim c.if-are_siblings.branch [
  | then-are_siblings+else-not-is_apart_from_lower w ↦
      apart_on_bus c.loop-bus.bus (buses_of c.args.roots.now) c.args.records.now w.on_bus-part.result.now c.args.slot c.args.bridge.now w.on_bus-part.ensures
      (w.is_apart_from_lower-then-are_siblings.ensures.0 w.if-not-is_apart_from_lower.false) c.loop-bus.invariant
  | else-are_siblings w ↦
      apart_beside c.loop-bus.bus (buses_of c.args.roots.now) c.args.records.now c.args.slot c.args.bridge.now
      (λ side. both_ways _ w.if-are_siblings.false (c.are_siblings.ensures.1 (subst (AreSiblings (buses_of c.args.roots.now) c.loop-bus.bus) (sym c.bus-own.ensures) side)))
      c.loop-bus.invariant
]

pub returns : goal.returns
returns c = (
  λ h. apart_all c.loop-bus.bus (buses_of c.args.roots.now) c.args.records.now c.args.slot c.args.bridge.now c.loop-bus-test.false c.requires.slots c.loop-bus.invariant,
  λ h. refl,
)
