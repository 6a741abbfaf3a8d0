use Rattle.std.proofs.Common.{arith, List, subst}
use Rattle.pci_tree.specs.declared.region.Region.{Region}
use Rattle.pci_tree.specs.Regions.{region_number as number_of}
use Rattle.pci_tree.proofs.Orders.{own_numbers}
use Rattle.pci_check.specs.Sweep.{IsLeastTwice, AreTwoLeast}
use Rattle.pci_check.proofs.Overlaps.{alone, unshared, overlap}
use Rattle.pci_check.proofs.sweep.first_overlap.Goals as goal

pub returns-then-len-lt2 : goal.returns-then-len-lt2
returns-then-len-lt2 g c distinct = alone c.args.regions.now.items c.args.allowed.now (omega arith)

pub returns-in-None : goal.returns-in-None
returns-in-None g c distinct a =
    unshared c.args.regions.now.items c.sort.new.regions.items c.args.allowed.now c.sort.ensures.permutation a ((rw c.deref.ensures.value at c.in-None.ensures) a)

pub returns-in-None-two_least : goal.returns-in-None-two_least
returns-in-None-two_least g c distinct =
    absurd ((rw c.deref-in-Some.ensures.value at c.in-None-two_least.ensures)
    (own_numbers number_of c.args.regions.now.items c.sort.new.regions.items c.sort.ensures.permutation distinct)
    ((rw c.deref.ensures.value at c.in-Some.ensures) c.sort.ensures.sorted).twice)

pub returns-in-Some-two_least : goal.returns-in-Some-two_least
returns-in-Some-two_least g c =
    let twice : IsLeastTwice c.sort.new.regions.items c.args.allowed.now c.in-Some.address = (rw c.deref.ensures.value at c.in-Some.ensures) c.sort.ensures.sorted in
    let are : AreTwoLeast c.sort.new.regions.items c.in-Some.address c.in-Some-two_least.first c.in-Some-two_least.second =
    subst (λ (rs : List Region). AreTwoLeast rs c.in-Some.address c.in-Some-two_least.first c.in-Some-two_least.second) c.deref-in-Some.ensures.value c.in-Some-two_least.ensures in
    overlap c.args.regions.now.items c.sort.new.regions.items c.args.allowed.now c.sort.ensures.permutation c.in-Some.address c.in-Some-two_least.first c.in-Some-two_least.second
    c.index.result.now c.index-in-Some-two_least.result.now twice are c.index.ensures c.index-in-Some-two_least.ensures
