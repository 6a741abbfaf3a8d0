use Rattle.std.proofs.Common.{sym}
use Rattle.pci_base.specs.Space.{space_of}
use Rattle.pci_kept.proofs.Enabled.{none_enables, its_command}
use Rattle.pci_kept.proofs.told_line.is_enabled_at.Goals as goal

pub returns-in-None : goal.returns-in-None
returns-in-None c = λ q s tree. sym (none_enables s tree.system c.args.records.now tree.has c.args.slot (space_of c.args.space) c.in-None.ensures)

pub returns-in-Some : goal.returns-in-Some
returns-in-Some c = λ q s tree.
    sym (its_command s tree.system c.args.records.now tree.has c.args.slot (space_of c.args.space) c.in-Some.function.now c.is_on.result c.in-Some.ensures.0 c.in-Some.ensures.1 c.is_on.ensures)
