use Rattle.std.proofs.Common.{arith}
use Rattle.pci_machine.proofs.SizesPlaces.{slot_fits}
use Rattle.pci_machine.proofs.sizes_fault.slot_follows.Goals as goal

pub returns-in-None-clause-no : goal.returns-in-None-clause-no
returns-in-None-clause-no c = λ no. absurd (c.in-None.ensures.none (slot_fits c.args.bytes.now c.args.place (omega arith) c.requires.fits))
