use Rattle.pci_base.specs.Space.{space_of}
use Rattle.pci_map.specs.Addresses.{ranges_in}
use Rattle.pci_map.proofs.TakenRanges.{has_one}
use Rattle.pci_map.proofs.addresses.Addresses.has.Goals as goal

pub returns : goal.returns
returns g c = has_one (ranges_in (space_of c.args.space) c.args.self.now) c.args.address c.has_all.result c.has_all.ensures
