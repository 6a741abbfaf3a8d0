use Rattle.pci_settle_places.proofs.BothSpaces.{no_windows}
use Rattle.pci_settle_places.proofs.place.space_windows.Goals as goal

pub returns-in_ok-class_windows-in-Io-clause-lawful : goal.returns-in_ok-class_windows-in-Io-clause-lawful
returns-in_ok-class_windows-in-Io-clause-lawful g c = record { plain = c.class_windows.ensures.lawful; prefetch = no_windows }
