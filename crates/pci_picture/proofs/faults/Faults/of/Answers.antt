use Rattle.std.proofs.Common.{◌≡◌, true, false, arith, leb, ltb, rules, subst, sym}
use Rattle.std.specs.List.Sorted.{IsNonDecreasingBy, IsPartitionPoint}
use Rattle.std.proofs.lemmas.List.Sorted.{IsPartitionPoint-from_clause, IsPartitionedBy-leb, IsPartitionedBy-ltb}
use Rattle.pci_picture.proofs.Marks.{part_found, within_points}
use Rattle.pci_picture.proofs.faults.Faults.of.Goals as goal

pub returns : goal.returns
returns g c =
    let namings = c.args.self.now.namings.items in
    let key = c.args.key in
    let begin = c.partition_point-begin.result in
    let end = c.partition_point-end.result in
    let points =
    within_points (λ naming. naming.key) key namings begin end (omega arith) (omega arith)
    (subst (λ l. IsPartitionPoint (λ x. ltb x.key key ≡ true) (λ x. ltb x.key key ≡ false) l begin) c.deref.ensures.value
    (IsPartitionPoint-from_clause (λ x. ltb x.key key) c.deref.result.now begin c.partition_point-begin.ensures.partitioned
    (IsPartitionedBy-ltb (λ x. x.key) c.deref.result.now key (subst (IsNonDecreasingBy (λ x. x.key)) (sym c.deref.ensures.value) c.args.self.now.sorted)) (λ a r f q. search rules)))
    (subst (λ l. IsPartitionPoint (λ x. leb x.key key ≡ true) (λ x. leb x.key key ≡ false) l end) c.deref-2.ensures.value
    (IsPartitionPoint-from_clause (λ x. leb x.key key) c.deref-2.result.now end c.partition_point-end.ensures.partitioned
    (IsPartitionedBy-leb (λ x. x.key) c.deref-2.result.now key (subst (IsNonDecreasingBy (λ x. x.key)) (sym c.deref-2.ensures.value) c.args.self.now.sorted)) (λ a r f q. search rules))) in
    part_found c.get.result c.as_slice.result.now namings _ c.unwrap_or.result _ begin end c.unwrap_or.ensures c.get.ensures.lookup.0 c.as_slice.ensures.value points.0 (omega arith) points.1
