use Rattle.std.proofs.Common.{◌≡◌, true, false, arith, leb, ltb, rules, subst, sym}
use Rattle.std.specs.List.Sorted.{IsNonDecreasingBy, IsPartitionPoint}
use Rattle.std.proofs.lemmas.List.Sorted.{IsPartitionPoint-from_clause, IsPartitionedBy-leb, IsPartitionedBy-ltb}
use Rattle.pci_picture.proofs.Badges.{ranked_slots}
use Rattle.pci_picture.proofs.Marks.{part_found, within_points}
use Rattle.pci_picture.proofs.faults.Faults.beside.Goals as goal

pub returns : goal.returns
returns g c =
    let badges = c.args.self.now.badges.items in
    let slot = c.args.slot in
    let sorted = ranked_slots badges c.args.self.now.small c.args.self.now.ranked in
    let begin = c.partition_point-begin.result in
    let end = c.partition_point-end.result in
    let points =
    within_points (λ badge. badge.slot) slot badges begin end (omega arith) (omega arith)
    (subst (λ l. IsPartitionPoint (λ x. ltb x.slot slot ≡ true) (λ x. ltb x.slot slot ≡ false) l begin) c.deref.ensures.value
    (IsPartitionPoint-from_clause (λ x. ltb x.slot slot) c.deref.result.now begin c.partition_point-begin.ensures.partitioned
    (IsPartitionedBy-ltb (λ x. x.slot) c.deref.result.now slot (subst (IsNonDecreasingBy (λ x. x.slot)) (sym c.deref.ensures.value) sorted)) (λ a r f q. search rules)))
    (subst (λ l. IsPartitionPoint (λ x. leb x.slot slot ≡ true) (λ x. leb x.slot slot ≡ false) l end) c.deref-2.ensures.value
    (IsPartitionPoint-from_clause (λ x. leb x.slot slot) c.deref-2.result.now end c.partition_point-end.ensures.partitioned
    (IsPartitionedBy-leb (λ x. x.slot) c.deref-2.result.now slot (subst (IsNonDecreasingBy (λ x. x.slot)) (sym c.deref-2.ensures.value) sorted)) (λ a r f q. search rules))) in
    part_found c.get.result c.as_slice.result.now badges _ c.unwrap_or.result _ begin end c.unwrap_or.ensures c.get.ensures.lookup.0 c.as_slice.ensures.value points.0 (omega arith) points.1
