use Rattle.std.proofs.Common.{◌+◌, arith, rules, length, ap, subst, ◌∙◌, sym}
use Rattle.std.proofs.lemmas.List.{length-set}
use Rattle.pci_tree.proofs.Tables.{IsTableBelow, table_none, table_same, table_more, whole_table}
use Rattle.pci_kept.proofs.place.bridges_over.Goals as goal
use Rattle.pci_kept.proofs.place.bridges_over.Goals.{in-Some, in_default}

pub loop-index-init : goal.loop-index-init
loop-index-init c = record { size = search rules; filled = λ bus small. table_none c.args.records.now bus small }

pub loop-index-preserved : goal.loop-index-preserved
loop-index-preserved c = elim c.match-function.branch [
  | in-Some w ↦ record {
    size = ap length w.over-is ∙ length-set c.loop-index.over _ _ ∙ c.loop-index.invariant.size;
    filled = subst (λ t. IsTableBelow (c.loop-index.index + 1) c.args.records.now t) (sym w.over-is)
        (table_more c.loop-index.index c.args.records.now c.index-records-index.result w.in-Some.bridge c.loop-index.over c.loop-index-test.true c.index-records-index.is w.in-Some.is
        c.loop-index.invariant.size c.loop-index.invariant.filled);
  }
  | in_default w ↦ record {
    size = ap length w.over-is ∙ c.loop-index.invariant.size;
    filled = subst (λ t. IsTableBelow (c.loop-index.index + 1) c.args.records.now t) (sym w.over-is)
        (table_same c.loop-index.index c.args.records.now c.index-records-index.result c.loop-index.over c.loop-index-test.true c.index-records-index.is w.in_default.is
        c.loop-index.invariant.filled);
  }
]

pub returns : goal.returns
returns c = whole_table c.loop-index.index c.args.records.now c.loop-index.over (omega arith) c.loop-index.invariant.filled
