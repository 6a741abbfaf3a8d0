use Rattle.pci_spec.proofs.Firsts.{least_unreached_is_first, least_clash_is_first, least_split_is_first}
use Rattle.pci_spec.proofs.judging_laws.the_least_fault_is_first.Goals as goal

pub returns-clause-unreached : goal.returns-clause-unreached
returns-clause-unreached c = least_unreached_is_first

pub returns-clause-clash : goal.returns-clause-clash
returns-clause-clash c = least_clash_is_first

pub returns-clause-split : goal.returns-clause-split
returns-clause-split c = least_split_is_first
