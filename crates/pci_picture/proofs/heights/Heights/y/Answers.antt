use Rattle.std.proofs.Common.{rules, ltb, List, sym, subst}
use Rattle.std.proofs.lemmas.List.Sorted.{IsPartitionPoint-from_clause, IsPartitionedBy-ltb}
use Rattle.std.specs.List.Sorted.{IsNonDecreasingBy}
use Rattle.pci_picture.specs.declared.heights.Run.{Run}
use Rattle.pci_picture.proofs.Stacked.{stands_at, stands_below}
use Rattle.pci_picture.proofs.heights.Heights.y.Goals as goal

pub returns-in-Some : goal.returns-in-Some
returns-in-Some g c sorted =
    stands_at c.args.self.now.runs.items c.deref.result.now c.deref-2.result.now c.args.self.now.bottom c.args.address c.partition_point-index.result
    c.in-Some.run'.now c.deref.ensures.value c.deref-2.ensures.value
    (IsPartitionPoint-from_clause (λ r. ltb r.begin c.args.address) c.deref.result.now c.partition_point-index.result
    c.partition_point-index.ensures.partitioned
    (IsPartitionedBy-ltb (λ r. r.begin) c.deref.result.now c.args.address
    (subst (λ (l : List Run). IsNonDecreasingBy (λ r. r.begin) l) (sym c.deref.ensures.value) sorted)) (λ a r f q. search rules))
    (c.in-Some.ensures.lookup.3.0) (c.in-Some.ensures.lookup.1)

pub returns-in-None : goal.returns-in-None
returns-in-None g c sorted =
    stands_below c.args.self.now.runs.items c.deref.result.now c.deref-2.result.now c.args.self.now.bottom c.args.address c.partition_point-index.result
    c.deref.ensures.value c.deref-2.ensures.value
    (IsPartitionPoint-from_clause (λ r. ltb r.begin c.args.address) c.deref.result.now c.partition_point-index.result
    c.partition_point-index.ensures.partitioned
    (IsPartitionedBy-ltb (λ r. r.begin) c.deref.result.now c.args.address
    (subst (λ (l : List Run). IsNonDecreasingBy (λ r. r.begin) l) (sym c.deref.ensures.value) sorted)) (λ a r f q. search rules))
    (c.in-None.ensures.lookup.3)
