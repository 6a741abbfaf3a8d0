use Rattle.pci_spec.proofs.BusRanges.{bus_order_means, apart_means, shares_none_means, inside_means, strictly_inside_means, root_means}
use Rattle.pci_spec.proofs.nesting_laws.ranges_are_of_buses.Goals as goal

pub returns-clause-order : goal.returns-clause-order
returns-clause-order c = bus_order_means

pub returns-clause-apart : goal.returns-clause-apart
returns-clause-apart c = apart_means

pub returns-clause-shared : goal.returns-clause-shared
returns-clause-shared c = shares_none_means

pub returns-clause-inside : goal.returns-clause-inside
returns-clause-inside c = inside_means

pub returns-clause-strictly : goal.returns-clause-strictly
returns-clause-strictly c = strictly_inside_means

pub returns-clause-root : goal.returns-clause-root
returns-clause-root c = root_means
