use Rattle.std.proofs.Common.{rules}
use Rattle.pciplan_c.proofs.WordBytes.{no_slots}
use Rattle.pciplan_c.proofs.settle_words.fixed_of.Goals as goal

pub returns-in_default : goal.returns-in_default
returns-in_default g c = search (rules, no_slots)
