use Rattle.pci_grow.specs.There.{tables_of}
use Rattle.pci_grow.specs.Telling.{setting_value}
use Rattle.pci_grow.proofs.Rowing.{IsTowards}
use Rattle.pci_grow.proofs.finding.find_in_row.Given as goal

abbrev pub invariant-loop-region : goal.invariant-loop-region
invariant-loop-region g l =
    IsTowards (setting_value l.setting) l.fn.number l.region-index (tables_of l.initial.there) (tables_of l.there) l.end l.row
