use Rattle.std.proofs.Common.{◌-◌}
use Rattle.pci_grow.specs.There.{tables_of}
use Rattle.pci_grow.specs.Telling.{setting_value}
use Rattle.pci_grow.proofs.Rowing.{IsDownTo}
use Rattle.pci_grow.proofs.finding.find_there.Given as goal

abbrev pub invariant-loop-done : goal.invariant-loop-done
invariant-loop-done g l = IsDownTo (setting_value l.setting) (514 - l.done) (tables_of l.initial.there) (tables_of l.there)
