use Rattle.std.proofs.Common.{◌+◌, rules, length, take, set, Some, ap, subst, ◌∙◌, sym}
use Rattle.std.proofs.lemmas.List.{length-set, take_all}
use Rattle.pci_tree.specs.BusNumbers.{AreLeastEnds}
use Rattle.pci_tree.proofs.LeastEnds.{ends_none, ends_more, ends_same}
use Rattle.pci_tree.proofs.buses.least_subordinates.Goals as goal
use Rattle.pci_tree.proofs.buses.least_subordinates.Goals.{in-Some, in_default}

pub loop-function-init : goal.loop-function-init
loop-function-init c = record { size = search rules; filled = λ bus small. ends_none bus small }

pub loop-function-preserved : goal.loop-function-preserved
loop-function-preserved c = elim c.match-function.branch [
  | in-Some w ↦ record {
    size = ap length w.table-is ∙ length-set c.loop-function.table _ _ ∙ c.loop-function.invariant.size;
    filled = subst (λ t. AreLeastEnds (take (c.loop-function.function-index + 1) c.args.records.now) t)
        (sym (w.table-is ∙ ap (λ n. set c.loop-function.table w.in-Some.bridge.secondary (Some n)) w.lesser.ensures))
        (ends_more c.args.records.now c.loop-function.function-index c.function-item.result w.in-Some.bridge c.loop-function.table c.loop-function-test.true c.function-item.is w.in-Some.is
        c.loop-function.invariant.size c.loop-function.invariant.filled);
  }
  | in_default w ↦ record {
    size = ap length w.table-is ∙ c.loop-function.invariant.size;
    filled = subst (λ t. AreLeastEnds (take (c.loop-function.function-index + 1) c.args.records.now) t) (sym w.table-is)
        (ends_same c.args.records.now c.loop-function.function-index c.function-item.result c.loop-function.table c.loop-function-test.true c.function-item.is w.in_default.is
        c.loop-function.invariant.filled);
  }
]

pub returns : goal.returns
returns c = subst (λ xs. AreLeastEnds xs c.loop-function.table) (take_all c.loop-function.function-index c.args.records.now c.loop-function-test.false) c.loop-function.invariant.filled
