use Rattle.std.proofs.Common.{arith, leb, ltb, rules, refl}
use Rattle.std.proofs.lemmas.List.Sorted.{IsPartitionPoint-from_clause, IsPartitionedBy-leb, IsPartitionedBy-ltb}
use Rattle.pci_picture.proofs.Marks.{part_found, within_points}
use Rattle.pci_picture.proofs.tellings.with_key.Goals as goal

pub returns : goal.returns
returns c sorted =
    let keys = c.args.keys.now in
    let key = c.args.key in
    let begin = c.partition_point-begin.result in
    let end = c.partition_point-end.result in
    let points =
    within_points (λ one. one.key) key keys begin end (omega arith) (omega arith)
    (IsPartitionPoint-from_clause (λ x. ltb x.key key) keys begin c.partition_point-begin.ensures.partitioned
    (IsPartitionedBy-ltb (λ x. x.key) keys key sorted) (λ a r f q. search rules))
    (IsPartitionPoint-from_clause (λ x. leb x.key key) keys end c.partition_point-end.ensures.partitioned
    (IsPartitionedBy-leb (λ x. x.key) keys key sorted) (λ a r f q. search rules)) in
    part_found c.get.result keys keys _ c.unwrap_or.result _ begin end c.unwrap_or.ensures c.get.ensures.lookup.0 refl points.0 (omega arith) points.1
