use Rattle.pci_spec.proofs.DerivedDumps.{dump_has_the_same_verdict}
use Rattle.pci_spec.proofs.probe_laws.derived_probes_judge_dumps_as_the_machine_does.Goals as goal

pub returns : goal.returns
returns c = dump_has_the_same_verdict
