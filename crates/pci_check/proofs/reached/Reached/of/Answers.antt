use Rattle.std.proofs.Common.{◌≡◌, length}
use Rattle.std.specs.List.{All}
use Rattle.pci_spec.proofs.WindowKinds.{each_kind}
use Rattle.pci_tree.specs.Ranges.{IsCanonical}
use Rattle.pci_check.specs.Stops.{Reaches, reaches_by}
use Rattle.pci_check.proofs.Reaching.{AreListsOf, reaches_of}
use Rattle.pci_check.proofs.reached.Reached.of.Goals as goal

pub invariant_of-result : goal.invariant_of-result
invariant_of-result g c =
    let reaches : Reaches = record { io = c.in_ok-io.io.items; memory = c.in_ok-memory.memory.items; prefetch = c.in_ok-prefetchable.prefetchable.items } in
    record {
      count = each_kind (λ kind. length (reaches_by reaches kind) ≡ 256) c.in_ok-io.ensures.size c.in_ok-memory.ensures.size c.in_ok-prefetchable.ensures.size;
      canonical = each_kind (λ kind. All IsCanonical (reaches_by reaches kind))
          c.in_ok-io.ensures.canonical c.in_ok-memory.ensures.canonical c.in_ok-prefetchable.ensures.canonical;
    }

pub returns-clause-exact : goal.returns-clause-exact
returns-clause-exact g c =
    let reaches : Reaches = record { io = c.in_ok-io.io.items; memory = c.in_ok-memory.memory.items; prefetch = c.in_ok-prefetchable.prefetchable.items } in
    reaches_of c.args.outline.now reaches (each_kind (λ kind. AreListsOf c.args.outline.now kind (reaches_by reaches kind))
    (λ s tree bus d small. c.in_ok-io.ensures.exact s bus d tree.records small)
    (λ s tree bus d small. c.in_ok-memory.ensures.exact s bus d tree.records small)
    (λ s tree bus d small. c.in_ok-prefetchable.ensures.exact s bus d tree.records small))

pub returns-clause-nested : goal.returns-clause-nested
returns-clause-nested g c = λ s tree. c.in_ok-io.ensures.nested s tree.records
