-- The numbers of a walk are those of its order, bridge by bridge.
use Rattle.pci_number.proofs.Same.{numbers_are_one, all_numbers_are_one}
use Rattle.pci_number.proofs.SameRoom.{roomy_numbers_are_one, all_roomy_numbers_are_one}
use Rattle.pci_number.proofs.numbering_laws.numbers_are_determined.Goals as goal

pub returns : goal.returns
returns c = record { reached = numbers_are_one; all = all_numbers_are_one; roomy = roomy_numbers_are_one; all_roomy = all_roomy_numbers_are_one }
