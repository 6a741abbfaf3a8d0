use Rattle.std.proofs.Common.{◌+◌, arith, rules, length, ap, subst, ◌∙◌, sym}
use Rattle.std.proofs.lemmas.List.{length-set}
use Rattle.pci_tree.proofs.Tables.{IsTableBelow, table_none, table_same, table_more, whole_table}
use Rattle.pci_tree.proofs.path.bridge_to_bus.Goals as goal
use Rattle.pci_tree.proofs.path.bridge_to_bus.Goals.{in-Some, in_default}

pub loop-place-init : goal.loop-place-init
loop-place-init c = record { size = search rules; filled = λ bus small. table_none c.args.records.now bus small }

pub loop-place-preserved : goal.loop-place-preserved
loop-place-preserved c = elim c.match-function.branch [
  | in-Some w ↦ record {
    size = ap length w.bridge_to_bus-is ∙ length-set c.loop-place.bridge_to_bus _ _ ∙ c.loop-place.invariant.size;
    filled = subst (λ t. IsTableBelow (c.loop-place.place + 1) c.args.records.now t) (sym w.bridge_to_bus-is)
        (table_more c.loop-place.place c.args.records.now c.index-records-place.result w.in-Some.bridge c.loop-place.bridge_to_bus c.loop-place-test.true c.index-records-place.is w.in-Some.is
        c.loop-place.invariant.size c.loop-place.invariant.filled);
  }
  | in_default w ↦ record {
    size = ap length w.bridge_to_bus-is ∙ c.loop-place.invariant.size;
    filled = subst (λ t. IsTableBelow (c.loop-place.place + 1) c.args.records.now t) (sym w.bridge_to_bus-is)
        (table_same c.loop-place.place c.args.records.now c.index-records-place.result c.loop-place.bridge_to_bus c.loop-place-test.true c.index-records-place.is w.in_default.is
        c.loop-place.invariant.filled);
  }
]

pub returns : goal.returns
returns c = whole_table c.loop-place.place c.args.records.now c.loop-place.bridge_to_bus (omega arith) c.loop-place.invariant.filled
