use Rattle.pci_spec.proofs.DerivedSystems.{least_is_told_at_most, faults_at_least_sizes_stand}
use Rattle.pci_spec.proofs.DerivedDumps.{faults_of_dump_stand}
use Rattle.pci_spec.proofs.probe_laws.faults_at_least_sizes_stand.Goals as goal

pub returns-clause-function : goal.returns-clause-function
returns-clause-function c = least_is_told_at_most

pub returns-clause-system : goal.returns-clause-system
returns-clause-system c = faults_at_least_sizes_stand

pub returns-clause-dump : goal.returns-clause-dump
returns-clause-dump c = faults_of_dump_stand
