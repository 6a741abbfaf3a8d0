use Rattle.pci_grow.specs.There.{tables_of}
use Rattle.pci_grow.specs.Telling.{setting_value}
use Rattle.pci_grow.proofs.Taking.{other_more}
use Rattle.pci_grow.proofs.finding.note_one.Goals as goal

pub returns-in_default : goal.returns-in_default
returns-in_default g c = λ q number count next latest.
    other_more (setting_value c.args.setting.now) (tables_of c.args.there.now) c.args.region.now c.in_default.not-Window q number count next
