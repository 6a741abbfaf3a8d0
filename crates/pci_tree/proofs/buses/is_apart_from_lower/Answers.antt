use Rattle.std.proofs.Common.{refl, subst}
use Rattle.std.proofs.lemmas.List.{take_all}
use Rattle.std.proofs.lemmas.List.Elements.{All-more}
use Rattle.pci_function.specs.declared.record.Record.{Record}
use Rattle.pci_tree.specs.BusNumbers.{IsApartFrom, IsApartFromLower}
use Rattle.pci_tree.proofs.buses.is_apart_from_lower.Goals as goal

pub loop-function-preserved : goal.loop-function-preserved
loop-function-preserved c =
    All-more (λ (r : Record). IsApartFrom r c.args.slot c.args.bridge.now) c.args.part.now c.loop-function.function-index c.function-item.result c.loop-function-test.true c.loop-function.invariant
    (subst (λ (r : Record). IsApartFrom r c.args.slot c.args.bridge.now) c.function-item.is (c.is_apart_from.ensures.0 c.if-not-is_apart_from.false))

pub returns : goal.returns
returns c = (
  λ h. subst (λ xs. IsApartFromLower xs c.args.slot c.args.bridge.now) (take_all c.loop-function.function-index c.args.part.now c.loop-function-test.false) c.loop-function.invariant,
  λ h. refl,
)
