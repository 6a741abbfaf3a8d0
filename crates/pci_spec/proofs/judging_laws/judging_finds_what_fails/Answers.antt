use Rattle.pci_spec.proofs.Verdicts.{single_without_clashes, home_without_unreached}
use Rattle.pci_spec.proofs.judging_laws.judging_finds_what_fails.Goals as goal

pub returns-clause-single : goal.returns-clause-single
returns-clause-single c = single_without_clashes

pub returns-clause-home : goal.returns-clause-home
returns-clause-home c = home_without_unreached
