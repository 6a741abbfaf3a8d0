use Rattle.std.proofs.Common.{rules, ltb, arith}
use Rattle.std.proofs.lemmas.Bool.{ltb-true, ltb-false}
use Rattle.std.proofs.lemmas.List.Sorted.{IsPartitionPoint-from_clause, IsPartitionedBy-ltb}
use Rattle.pci_base.specs.declared.range.Range.{Range}
use Rattle.pci_first_fit.proofs.Inserted.{firsts_sorted}
use Rattle.pci_grow.proofs.row.first_from.Goals as goal

pub returns-clause-before : goal.returns-clause-before
returns-clause-before c k d low =
    ltb-true _ _ ((IsPartitionPoint-from_clause (λ (r : Range). ltb r.first c.args.at) c.args.row.now c.partition_point.result c.partition_point.ensures.partitioned
    (IsPartitionedBy-ltb (λ (r : Range). r.first) c.args.row.now c.args.at (firsts_sorted c.args.row.now c.requires)) (λ a r f q. search rules)).0 k d (omega arith) low)

pub returns-clause-after : goal.returns-clause-after
returns-clause-after c k d from within =
    ltb-false _ _ ((IsPartitionPoint-from_clause (λ (r : Range). ltb r.first c.args.at) c.args.row.now c.partition_point.result c.partition_point.ensures.partitioned
    (IsPartitionedBy-ltb (λ (r : Range). r.first) c.args.row.now c.args.at (firsts_sorted c.args.row.now c.requires)) (λ a r f q. search rules)).1 k d from within)
