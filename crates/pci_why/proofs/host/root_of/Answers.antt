use Rattle.std.proofs.Common.{List, subst, sym}
use Rattle.pci_spec.specs.Slot.{Slot}
use Rattle.pci_tree.specs.Outline.{IsPathTo}
use Rattle.pci_claims.specs.Outside.{IsRootOfPath}
use Rattle.pci_why.proofs.Hosted.{root_above_is}
use Rattle.pci_why.proofs.host.root_of.Goals as goal

pub returns : goal.returns
returns g c =
    root_above_is c.args.outline.now c.args.slot c.as_slice.result.now c.root_above.result
    (λ s tree. subst (λ (path : List Slot). IsPathTo c.args.outline.now.roots s path c.args.slot.bus) (sym c.as_slice.ensures.value) (c.in_ok-bridges.ensures s tree.records))
    (subst (λ n. IsRootOfPath c.as_slice.result.now n c.root_above.result) c.bus.ensures c.root_above.ensures)
