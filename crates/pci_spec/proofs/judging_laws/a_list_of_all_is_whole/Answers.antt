use Rattle.pci_spec.proofs.AllFaults.{empty_where_none_fails, line_where_not_home, single_without_seconds}
use Rattle.pci_spec.proofs.FirstLines.{first_line_is_first}
use Rattle.pci_spec.proofs.judging_laws.a_list_of_all_is_whole.Goals as goal

pub returns-clause-empty : goal.returns-clause-empty
returns-clause-empty c = empty_where_none_fails

pub returns-clause-first : goal.returns-clause-first
returns-clause-first c = first_line_is_first

pub returns-clause-home : goal.returns-clause-home
returns-clause-home c = line_where_not_home

pub returns-clause-seconds : goal.returns-clause-seconds
returns-clause-seconds c = single_without_seconds
