use Rattle.pci_json.proofs.faults.push_named.Goals as goal

pub returns-in-61 : goal.returns-in-61
returns-in-61 g c = rw c.in-61.is c.push_clash.ensures
