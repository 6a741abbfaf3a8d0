use Rattle.std.proofs.Common.{◌≡◌, map, take}
use Rattle.pci_spec.specs.System.{System}
use Rattle.pci_spec.specs.Decoded.{HasRecords}
use Rattle.pci_function.specs.Values.{record_value}
use Rattle.pci_tree.specs.Roots.{buses_of}
use Rattle.pci_settle_places.specs.Columns.{candidate_wanted}
use Rattle.pci_settle_places.proofs.bus.wanted_of.Given as goal

abbrev pub invariant-loop-candidate : goal.invariant-loop-candidate
invariant-loop-candidate g l = (s : System) → HasRecords s (map record_value l.records) → l.wanted.items ≡ take l.candidate-index (map (candidate_wanted (buses_of l.roots) s l.told.places.now l.told.grown.now) l.candidates)
