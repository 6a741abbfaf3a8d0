use Rattle.std.proofs.Common.{sym, subst}
use Rattle.pci_first_fit.specs.Buses.{classing_value}
use Rattle.pci_kept.specs.Windows.{AreAllNew}
use Rattle.pci_kept.proofs.Marks.{all_new}
use Rattle.pci_kept.proofs.windows.all_windows.Goals as goal

pub returns-clause-windows : goal.returns-clause-windows
returns-clause-windows g c =
    subst (AreAllNew (classing_value c.args.classing.now) _) (sym c.first_of-large.ensures)
    (all_new (classing_value c.args.classing.now) _ _ _ c.in_ok-in_io.in_io c.in_ok-in_memory.in_memory c.in_ok-in_wide.in_wide
    c.in_ok-in_io.ensures.windows c.in_ok-in_io.ensures.marked c.in_ok-in_memory.ensures.windows c.in_ok-in_memory.ensures.marked c.in_ok-in_wide.ensures.windows c.in_ok-in_wide.ensures.marked)
