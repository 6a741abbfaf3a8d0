use Rattle.pci_spec.proofs.ToldSystems.{alike_have_the_same_faults, alike_have_the_same_first_fault, alike_are_sound_together}
use Rattle.pci_spec.proofs.probe_laws.sizes_of_the_enabled_settle_the_verdict.Goals as goal

pub returns-clause-faults : goal.returns-clause-faults
returns-clause-faults c = alike_have_the_same_faults

pub returns-clause-first : goal.returns-clause-first
returns-clause-first c = alike_have_the_same_first_fault

pub returns-clause-sound : goal.returns-clause-sound
returns-clause-sound c = alike_are_sound_together
