use Rattle.pci_first_fit.proofs.FirstPlaces.{spot_told}
use Rattle.pci_first_fit.proofs.spot.first_spot.Goals as goal

pub returns-clause-place : goal.returns-clause-place
returns-clause-place c = spot_told c.args.taken.now c.args.low c.args.extent c.requires.extent.alignment c.next_spot.result c.next_spot.ensures.found c.next_spot.ensures.none
