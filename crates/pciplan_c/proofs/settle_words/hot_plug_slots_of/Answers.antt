use Rattle.std.proofs.Common.{rules}
use Rattle.pciplan_c.proofs.WordBytes.{no_hot_plug_slots}
use Rattle.pciplan_c.proofs.settle_words.hot_plug_slots_of.Goals as goal

pub returns-in_default : goal.returns-in_default
returns-in_default g c = search (rules, no_hot_plug_slots)
