use Rattle.std.proofs.Common.{◌≡◌, map, take, None}
use Rattle.std.specs.List.{flat_map}
use Rattle.pci_spec.specs.ProbeOf.{assumed_in, first_of, probe_block, read_back_fault, told_of}
use Rattle.pci_machine.specs.Assuming.{assuming_of}
use Rattle.pci_machine.proofs.probe.probe_of.Given as goal

abbrev pub invariant-loop-i : goal.invariant-loop-i
invariant-loop-i g l = record {
  fine : first_of (read_back_fault (assuming_of l.assuming)) (take l.i (told_of l.blocks l.told)) ≡ None;
  probe : l.derivation.probe ≡ map probe_block (take l.i (told_of l.blocks l.told));
  assumed : l.derivation.assumed.items ≡ flat_map assumed_in (take l.i (told_of l.blocks l.told));
}
