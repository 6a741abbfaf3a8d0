use Rattle.std.proofs.Common.{◌+◌, rules, length, take, set, ap, subst, ◌∙◌, sym}
use Rattle.std.proofs.lemmas.List.{length-set, take_all}
use Rattle.pci_picture.specs.Roots.{AreBridges, listed_functions}
use Rattle.pci_picture.proofs.Roots.{above_all, bridges_more, bridges_none, bridges_same}
use Rattle.pci_picture.proofs.board.buses_above.Goals as goal
use Rattle.pci_picture.proofs.board.buses_above.Goals.{in-Some, in_default}

pub loop-function-init : goal.loop-function-init
loop-function-init c = record { size = search rules; filled = λ bus small. bridges_none bus small }

pub loop-function-preserved : goal.loop-function-preserved
loop-function-preserved c =
    let functions = c.args.functions.now in
    let i = c.loop-function.function-index in
    elim c.match-function.branch [
      | in-Some w ↦ record {
        size = ap length w.above-is ∙ length-set c.loop-function.above _ _ ∙ c.loop-function.invariant.size;
        filled = subst (AreBridges (listed_functions (take (i + 1) functions)))
            (sym (w.above-is ∙ ap (set c.loop-function.above w.in-Some.buses.secondary) w.earlier.ensures))
            (bridges_more functions i c.function-item.result w.in-Some.buses c.loop-function.above w.bus_of.result c.loop-function-test.true c.function-item.is w.in-Some.is
            c.loop-function.invariant.size w.bus_of.ensures
            c.loop-function.invariant.filled);
      }
      | in_default w ↦ record {
        size = ap length w.above-is ∙ c.loop-function.invariant.size;
        filled = subst (AreBridges (listed_functions (take (i + 1) functions))) (sym w.above-is)
            (bridges_same functions i c.function-item.result c.loop-function.above c.loop-function-test.true c.function-item.is w.in_default.is
            c.loop-function.invariant.filled);
      }
    ]

pub returns : goal.returns
returns c =
    above_all (listed_functions c.args.functions.now) c.loop-function.above c.loop-function.invariant.size
    (subst (λ l. AreBridges (listed_functions l) c.loop-function.above) (take_all c.loop-function.function-index c.args.functions.now c.loop-function-test.false)
    c.loop-function.invariant.filled)
