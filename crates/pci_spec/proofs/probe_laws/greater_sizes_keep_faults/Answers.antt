use Rattle.pci_spec.proofs.ToldAlike.{greater_claim_as_much}
use Rattle.pci_spec.proofs.ToldSystems.{greater_have_the_faults}
use Rattle.pci_spec.proofs.probe_laws.greater_sizes_keep_faults.Goals as goal

pub returns-clause-claims : goal.returns-clause-claims
returns-clause-claims c = greater_claim_as_much

pub returns-clause-faults : goal.returns-clause-faults
returns-clause-faults c = greater_have_the_faults
