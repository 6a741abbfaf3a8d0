use Rattle.pci_spec.proofs.DerivedSystems.{derived_has_the_same_faults, derived_has_the_same_first_fault, derived_is_sound_with_own}
use Rattle.pci_spec.proofs.probe_laws.derived_probes_give_the_same_verdict.Goals as goal

pub returns-clause-faults : goal.returns-clause-faults
returns-clause-faults c = derived_has_the_same_faults

pub returns-clause-first : goal.returns-clause-first
returns-clause-first c = derived_has_the_same_first_fault

pub returns-clause-sound : goal.returns-clause-sound
returns-clause-sound c = derived_is_sound_with_own
