use Rattle.std.proofs.Common.{refl, arith}
use Rattle.std.proofs.lemmas.Bool.{both_ways, false≢true}
use Rattle.pci_tree.specs.Roots.{buses_of}
use Rattle.pci_tree.proofs.BusTests.{clear_more}
use Rattle.pci_tree.proofs.buses.has_no_root_behind.Goals as goal

pub returns-then-has : goal.returns-then-has
returns-then-has c = (
  λ h. absurd (false≢true h),
  λ none. absurd (none c.loop-bus.bus (c.has.ensures.0 c.if-has.true) (omega arith, omega arith)),
)

pub loop-bus-preserved : goal.loop-bus-preserved
loop-bus-preserved c = clear_more c.loop-bus.bus (buses_of c.args.roots.now) c.args.bridge.now (λ both. both_ways _ c.if-has.false (c.has.ensures.1 both.0)) c.loop-bus.invariant

pub returns : goal.returns
returns c = (
  λ h root has behind. (let high = behind.1 in c.loop-bus.invariant root (omega (arith, high)) has behind),
  λ h. refl,
)
