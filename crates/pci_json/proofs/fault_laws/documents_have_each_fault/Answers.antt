use Rattle.pci_json.proofs.FaultLists.{has_each_fault}
use Rattle.pci_json.proofs.ToldLists.{has_each_told_fault}
use Rattle.pci_json.proofs.fault_laws.documents_have_each_fault.Goals as goal

pub returns-clause-given : goal.returns-clause-given
returns-clause-given c = λ faults. has_each_fault faults

pub returns-clause-told : goal.returns-clause-told
returns-clause-told c = λ faults each. has_each_told_fault faults each
