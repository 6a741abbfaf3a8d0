use Rattle.std.proofs.Common.{◌∙◌, ap, length, arith}
use Rattle.pci_here.specs.Parts.{parts_left}
use Rattle.pci_here.proofs.Links.{seen_none, seen_more, seen_all}
use Rattle.pci_here.proofs.link.host_bus_of.Goals as goal

pub folders-init : goal.folders-init
folders-init c = seen_none c.args.path.now

pub folders-preserved : goal.folders-preserved
folders-preserved c =
    seen_more c.args.path.now c.first_part.result.0.now (parts_left 47 c.folders.left) (parts_left 47 c.first_part.result.1) c.folders.found c.last_bus-found.result
    (ap (parts_left 47) c.in-Some.is ∙ c.first_part.ensures) c.last_bus-found.ensures c.folders.invariant

pub folders-smaller : goal.folders-smaller
folders-smaller c = omega (arith, ap (λ o. length (parts_left 47 o)) c.in-Some.is, ap length c.first_part.ensures)

pub returns : goal.returns
returns c = seen_all c.args.path.now (parts_left 47 c.folders.left) c.folders.found (ap (parts_left 47) c.in_default.is) c.folders.invariant
