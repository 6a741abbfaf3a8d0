use Rattle.std.proofs.Common.{◌≡◌, map, take}
use Rattle.std.specs.List.{All}
use Rattle.pci_spec.specs.System.{system_of}
use Rattle.pci_spec.specs.Decoded.{IsDecodable, record_of}
use Rattle.pci_function.specs.Values.{record_value}
use Rattle.pci_faults.proofs.place.records_of.Given as goal

abbrev pub invariant-loop-i : goal.invariant-loop-i
invariant-loop-i g l = record {
  same : map record_value l.records.items ≡ map record_of (take l.i (system_of l.dump l.probe));
  decodable : All IsDecodable (take l.i (system_of l.dump l.probe));
}
