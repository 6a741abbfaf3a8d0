-- The numbers in use are those of the bridges that came before.
use Rattle.std.proofs.lemmas.Bool.{and_parts}
use Rattle.pci_number.specs.Walk.{is_rising, is_all_found}
use Rattle.pci_number.specs.NumberingLaws.{WalkIsInOrder}
use Rattle.pci_number.proofs.Roomy.{no_room_is_in_order}
use Rattle.pci_number.proofs.Walked.{walked}
use Rattle.pci_number.proofs.Kept.{same_walk}
use Rattle.pci_number.proofs.numbering_laws.bridges_are_numbered_in_order.Goals as goal

walk_is_in_order : WalkIsInOrder
walk_is_in_order nodes walkable = walked nodes nodes (and_parts (is_rising nodes) (is_all_found nodes nodes) walkable).1

pub returns : goal.returns
returns c = record { walk = walk_is_in_order; same = same_walk; order = no_room_is_in_order }
