-- Marks as the definitions have them.
use Rattle.judge_spec.specs.Told as told
use Rattle.pci_dump.specs.declared.told_range.Mark.{Mark}
use Rattle.pci_dump.specs.declared.told_range.Mark.TheVariants.{Command, Always, Held}

abbrev pub mark_of : Mark → told.Mark
mark_of Command = told.Command
mark_of Always = told.Always
mark_of Held = told.Held
