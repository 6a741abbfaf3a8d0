-- The capabilities of a bridge stand behind its bus numbers.
use Rattle.pci_number.proofs.SpareKept.{no_spare_is_in_order, spare_stays}
use Rattle.pci_number.proofs.numbering_laws.spare_buses_are_room.Goals as goal

pub returns : goal.returns
returns c = record { none = no_spare_is_in_order; stays = spare_stays }
