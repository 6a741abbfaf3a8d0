use Rattle.std.proofs.Common.{◌≡◌, map, take}
use Rattle.std.specs.List.{All}
use Rattle.pci_spec.specs.System.{system_of}
use Rattle.pci_spec.specs.Machine.{target_of}
use Rattle.pci_spec.specs.Decoded.{IsDecodable}
use Rattle.pci_machine.proofs.machine.Machine.of.Given as goal

abbrev pub invariant-loop-i : goal.invariant-loop-i
invariant-loop-i g l = record {
  made : l.functions.items ≡ map target_of (take l.i (system_of l.blocks l.probes));
  decodable : All IsDecodable (take l.i (system_of l.blocks l.probes));
}
