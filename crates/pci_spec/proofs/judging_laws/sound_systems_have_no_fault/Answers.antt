use Rattle.pci_spec.proofs.Chains.{chain_without_faults}
use Rattle.pci_spec.proofs.Sounding.{sound_without_faults}
use Rattle.pci_spec.proofs.judging_laws.sound_systems_have_no_fault.Goals as goal

pub returns-clause-chain : goal.returns-clause-chain
returns-clause-chain c = chain_without_faults

pub returns-clause-sound : goal.returns-clause-sound
returns-clause-sound c = sound_without_faults
