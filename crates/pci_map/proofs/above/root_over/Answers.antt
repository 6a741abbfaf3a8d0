use Rattle.std.proofs.Common.{List, subst, sym}
use Rattle.pci_spec.specs.Slot.{Slot}
use Rattle.pci_tree.specs.Outline.{IsPathTo}
use Rattle.pci_claims.specs.Outside.{IsRootOfPath}
use Rattle.pci_map.proofs.RootsAbove.{no_function, root_found}
use Rattle.pci_map.proofs.above.root_over.Goals as goal

pub returns-in-None : goal.returns-in-None
returns-in-None g c = λ s has f listed is. absurd (no_function s c.args.outline.now.records c.args.slot f has c.in-None.ensures listed is)

pub returns-in-Some : goal.returns-in-Some
returns-in-Some g c = λ s has f listed is.
    root_found c.args.outline.now.roots s c.as_slice.result.now c.args.slot.bus c.root_above.result
    (subst (λ (path : List Slot). IsPathTo c.args.outline.now.roots s path c.args.slot.bus) (sym c.as_slice.ensures.value) (c.in-Some.ensures s has))
    (subst (λ n. IsRootOfPath c.as_slice.result.now n c.root_above.result) c.bus-in-Some.ensures c.root_above.ensures)
