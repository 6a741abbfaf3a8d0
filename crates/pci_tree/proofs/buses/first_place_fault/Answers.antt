use Rattle.std.proofs.Common.{subst, sym}
use Rattle.std.specs.List.{All}
use Rattle.std.proofs.lemmas.List.{take_all}
use Rattle.std.proofs.lemmas.List.Elements.{All-more}
use Rattle.pci_tree.specs.Roots.{buses_of}
use Rattle.pci_tree.specs.BusNumbers.{IsInPlace}
use Rattle.pci_tree.proofs.FirstPlaces.{before_index}
use Rattle.pci_tree.proofs.buses.first_place_fault.Goals as goal

pub loop-function-preserved : goal.loop-function-preserved
loop-function-preserved c =
    All-more (IsInPlace (buses_of c.args.roots.now) c.args.records.now) c.args.records.now c.loop-function.function-index c.function-item.result c.loop-function-test.true c.loop-function.invariant
    (subst (IsInPlace (buses_of c.args.roots.now) c.args.records.now) c.function-item.is c.in-None.ensures)

pub returns-in-Some : goal.returns-in-Some
returns-in-Some c = record {
  r = c.function-item.result;
  has = (c.loop-function.function-index, c.loop-function-test.true, sym c.function-item.is);
  is = c.in-Some.ensures;
  before =
      before_index (IsInPlace (buses_of c.args.roots.now) c.args.records.now) c.args.records.now c.loop-function.function-index c.function-item.result c.requires.rising c.loop-function-test.true c.function-item.is
      c.loop-function.invariant;
}

pub returns : goal.returns
returns c =
    subst (All (IsInPlace (buses_of c.args.roots.now) c.args.records.now)) (take_all c.loop-function.function-index c.args.records.now c.loop-function-test.false) c.loop-function.invariant
