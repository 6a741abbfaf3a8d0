use Rattle.pci_spec.proofs.WindowLaws.{window_holds_its_pages, window_holds_whole_pages, open_window_holds_its_ends, closed_window_holds_nothing, absent_window_holds_nothing}
use Rattle.pci_spec.proofs.window_laws.windows_hold_pages.Goals as goal

pub returns-clause-pages : goal.returns-clause-pages
returns-clause-pages c = window_holds_its_pages

pub returns-clause-whole : goal.returns-clause-whole
returns-clause-whole c = window_holds_whole_pages

pub returns-clause-ends : goal.returns-clause-ends
returns-clause-ends c = open_window_holds_its_ends

pub returns-clause-closed : goal.returns-clause-closed
returns-clause-closed c = closed_window_holds_nothing

pub returns-clause-absent : goal.returns-clause-absent
returns-clause-absent c = absent_window_holds_nothing
