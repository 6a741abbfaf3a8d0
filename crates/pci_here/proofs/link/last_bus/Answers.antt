use Rattle.pci_here.proofs.Links.{last_kept, last_here}
use Rattle.pci_here.proofs.link.last_bus.Goals as goal

pub returns-in-Some : goal.returns-in-Some
returns-in-Some c = λ done last. last_here done c.args.folder.now c.in-Some.bus c.in-Some.ensures.name

pub returns-in-None : goal.returns-in-None
returns-in-None c = λ done last. last_kept done c.args.folder.now c.args.found (λ bus is. let none = c.in-None.ensures.only bus is in absurd (cc none)) last
