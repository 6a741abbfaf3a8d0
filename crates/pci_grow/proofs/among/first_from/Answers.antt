use Rattle.std.proofs.Common.{rules, ltb}
use Rattle.std.proofs.lemmas.Bool.{ltb-true, ltb-false}
use Rattle.std.proofs.lemmas.List.Sorted.{IsPartitionPoint-from_clause, IsPartitionedBy-ltb}
use Rattle.pci_first_fit.specs.Lines.{line_level}
use Rattle.pci_grow.proofs.among.first_from.Goals as goal

pub returns-clause-before : goal.returns-clause-before
returns-clause-before c k d low high =
    ltb-true _ _ ((IsPartitionPoint-from_clause (λ l. ltb l.level c.args.level) c.args.lines.now c.partition_point.result c.partition_point.ensures.partitioned
    (IsPartitionedBy-ltb line_level c.args.lines.now c.args.level c.requires) (λ a r f q. search rules)).0 k d low high)

pub returns-clause-after : goal.returns-clause-after
returns-clause-after c k d low high =
    ltb-false _ _ ((IsPartitionPoint-from_clause (λ l. ltb l.level c.args.level) c.args.lines.now c.partition_point.result c.partition_point.ensures.partitioned
    (IsPartitionedBy-ltb line_level c.args.lines.now c.args.level c.requires) (λ a r f q. search rules)).1 k d low high)
