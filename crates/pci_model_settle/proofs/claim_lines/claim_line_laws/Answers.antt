use Rattle.pci_model_settle.proofs.BridgesBySlot.{legacy_by_slot, palette_by_slot}
use Rattle.pci_model_settle.proofs.PartAddresses.{addresses_of_part}
use Rattle.pci_model_settle.proofs.claim_lines.claim_line_laws.Goals as goal

pub returns-clause-addresses : goal.returns-clause-addresses
returns-clause-addresses c = addresses_of_part

pub returns-clause-legacy : goal.returns-clause-legacy
returns-clause-legacy c = legacy_by_slot

pub returns-clause-palette : goal.returns-clause-palette
returns-clause-palette c = palette_by_slot
