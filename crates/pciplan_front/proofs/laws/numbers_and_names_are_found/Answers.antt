use Rattle.pciplan_front.proofs.Explained.{numbers_name, names_name}
use Rattle.pciplan_front.proofs.laws.numbers_and_names_are_found.Goals as goal

pub returns-clause-numbers : goal.returns-clause-numbers
returns-clause-numbers c = numbers_name

pub returns-clause-names : goal.returns-clause-names
returns-clause-names c = names_name
