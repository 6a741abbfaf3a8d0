use Rattle.pci_spec.proofs.KeptBits.{bar_keeps_encoding, window_keeps_nibbles}
use Rattle.pci_spec.proofs.machine_laws.encodings_stay.Goals as goal

pub returns-clause-bar : goal.returns-clause-bar
returns-clause-bar c = bar_keeps_encoding

pub returns-clause-window : goal.returns-clause-window
returns-clause-window c = window_keeps_nibbles
