use Rattle.std.proofs.Common.{subst, ◌∙◌, arith}
use Rattle.std.proofs.lemmas.List.{length-set}
use Rattle.pci_picture.specs.Roots.{AreBusesAbove, listed_functions}
use Rattle.pci_picture.proofs.Roots.{root_found, roots_more}
use Rattle.pci_picture.proofs.board.Board.roots.Goals as goal

pub loop-bus-preserved : goal.loop-bus-preserved
loop-bus-preserved g c =
    let functions = listed_functions c.args.self.now.functions.items in
    record {
      size = length-set c.loop-bus.roots _ _ ∙ c.loop-bus.invariant.size;
      known =
          roots_more functions c.loop-bus.roots c.loop-bus.bus c.root_from.result (omega (arith, c.loop-bus.invariant.size))
          (c.root_from.ensures
          ∙ root_found functions c.buses_above-above.result c.loop-bus.bus
          (subst (λ l. AreBusesAbove (listed_functions l) c.buses_above-above.result) c.as_slice.ensures.value c.buses_above-above.ensures) (omega arith))
          c.loop-bus.invariant.known;
    }
