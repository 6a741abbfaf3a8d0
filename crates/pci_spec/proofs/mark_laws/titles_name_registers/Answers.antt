use Rattle.pci_spec.proofs.Marks.{mark_names, named_is_mark, mark_is_title}
use Rattle.pci_spec.proofs.mark_laws.titles_name_registers.Goals as goal

pub returns-clause-names : goal.returns-clause-names
returns-clause-names c = mark_names

pub returns-clause-only : goal.returns-clause-only
returns-clause-only c = named_is_mark

pub returns-clause-title : goal.returns-clause-title
returns-clause-title c = mark_is_title
