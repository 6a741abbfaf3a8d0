use Rattle.pci_kept.proofs.Asked.{io_lawful}
use Rattle.pci_kept.proofs.windows.io_windows.Goals as goal

pub returns-clause-lawful : goal.returns-clause-lawful
returns-clause-lawful g c = io_lawful _ c.in_ok-class_windows.ensures.lawful
