use Rattle.std.proofs.Common.{take, map, string_bytes}
use Rattle.pci_here.specs.Places.{ArePlacesOfNames}
use Rattle.pci_here.proofs.places.places_in.Given as goal

abbrev pub invariant-loop-name : goal.invariant-loop-name
invariant-loop-name l = ArePlacesOfNames (map string_bytes (take l.name-index l.names)) l.fn.domain l.places.items
