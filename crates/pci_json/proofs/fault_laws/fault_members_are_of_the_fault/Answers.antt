use Rattle.pci_json.proofs.FaultMembers.{has_fault_members, has_given_fault_members}
use Rattle.pci_json.proofs.ToldMembers.{has_told_fault_members}
use Rattle.pci_json.proofs.fault_laws.fault_members_are_of_the_fault.Goals as goal

pub returns-clause-known : goal.returns-clause-known
returns-clause-known c = λ fault. has_fault_members fault

pub returns-clause-given : goal.returns-clause-given
returns-clause-given c = λ fault. has_given_fault_members fault

pub returns-clause-told : goal.returns-clause-told
returns-clause-told c = λ fault names. has_told_fault_members fault names
