use Rattle.std.proofs.Common.{ap}
use Rattle.std.specs.Option.{is_some}
use Rattle.pci_spec.proofs.Members.{in_filter_to}
use Rattle.settle_spec.specs.Parts.{is_part, header_parts}
use Rattle.settle_laws.proofs.Keeping.BusPlaced.{each_placed}
use Rattle.settle_laws.proofs.Keeping.PartPlaces.{part_placed, new_place_is}
use Rattle.settle_laws.proofs.keeping_laws.only_roots_lack_room.Goals as goal

pub returns-clause-placed : goal.returns-clause-placed
returns-clause-placed c = each_placed

pub returns-clause-parts : goal.returns-clause-parts
returns-clause-parts c = λ q s k can f p listed part plain moves. let is = in_filter_to (is_part q s f) (header_parts f) p part in ap is_some (part_placed q s k can f p listed is.0 is.1 plain moves).1

pub returns-clause-others : goal.returns-clause-others
returns-clause-others c = λ q s k can f p x is. (new_place_is q s k can f p is.0 is.1 x is.2).moves
