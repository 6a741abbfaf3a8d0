use Rattle.pci_spec.proofs.Sizing.{sizing_finds_probe}
use Rattle.pci_spec.proofs.machine_laws.sizing_finds_the_probe.Goals as goal

pub returns : goal.returns
returns c = sizing_finds_probe
