use Rattle.std.proofs.Common.{◌-◌, length}
use Rattle.pci_base.specs.WindowKinds.{kind_value}
use Rattle.pci_place.specs.Above.{system_in}
use Rattle.pci_first_fit.specs.Buses.{classing_value}
use Rattle.pci_first_fit.proofs.NewWindows.{AreWindowsOrLarge}
use Rattle.pci_first_fit.proofs.new_window.new_windows.Given as goal

abbrev pub invariant-loop-done : goal.invariant-loop-done
invariant-loop-done g l = AreWindowsOrLarge (classing_value l.classing) (kind_value l.class) (length (system_in l.classing.admitted.now) - l.done) l.windows l.large
