use Rattle.pci_spec.proofs.Nesting.{one_function}
use Rattle.pci_spec.proofs.Ways.{one_way, a_way_to_each, buses_rise, lower_slots, behind_is_on_the_way}
use Rattle.pci_spec.proofs.nesting_laws.one_way_leads_to_a_bus.Goals as goal

pub returns-clause-one : goal.returns-clause-one
returns-clause-one c = λ roots s system nests. one_way roots s nests (one_function s system)

pub returns-clause-there : goal.returns-clause-there
returns-clause-there c = a_way_to_each

pub returns-clause-rising : goal.returns-clause-rising
returns-clause-rising c = buses_rise

pub returns-clause-by_number : goal.returns-clause-by_number
returns-clause-by_number c = λ roots s system nests. behind_is_on_the_way roots s nests (one_function s system)

pub returns-clause-lower : goal.returns-clause-lower
returns-clause-lower c = λ roots s system nests. lower_slots roots s nests system
