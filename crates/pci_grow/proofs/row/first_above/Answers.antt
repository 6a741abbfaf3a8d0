use Rattle.std.proofs.Common.{rules, leb, arith}
use Rattle.std.proofs.lemmas.Bool.{leb-true, leb-false}
use Rattle.std.proofs.lemmas.List.Sorted.{IsPartitionPoint-from_clause, IsPartitionedBy-leb}
use Rattle.pci_base.specs.declared.range.Range.{Range}
use Rattle.pci_first_fit.proofs.Inserted.{firsts_sorted}
use Rattle.pci_grow.proofs.row.first_above.Goals as goal

pub returns-clause-before : goal.returns-clause-before
returns-clause-before c k d low =
    leb-true _ _ ((IsPartitionPoint-from_clause (λ (r : Range). leb r.first c.args.last) c.args.row.now c.partition_point.result c.partition_point.ensures.partitioned
    (IsPartitionedBy-leb (λ (r : Range). r.first) c.args.row.now c.args.last (firsts_sorted c.args.row.now c.requires)) (λ a r f q. search rules)).0 k d (omega arith) low)

pub returns-clause-after : goal.returns-clause-after
returns-clause-after c k d from within =
    leb-false _ _ ((IsPartitionPoint-from_clause (λ (r : Range). leb r.first c.args.last) c.args.row.now c.partition_point.result c.partition_point.ensures.partitioned
    (IsPartitionedBy-leb (λ (r : Range). r.first) c.args.row.now c.args.last (firsts_sorted c.args.row.now c.requires)) (λ a r f q. search rules)).1 k d from within)
