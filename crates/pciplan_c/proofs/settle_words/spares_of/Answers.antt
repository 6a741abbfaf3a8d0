use Rattle.std.proofs.Common.{rules}
use Rattle.pciplan_c.proofs.WordBytes.{no_spares}
use Rattle.pciplan_c.proofs.settle_words.spares_of.Goals as goal

pub returns-in_default : goal.returns-in_default
returns-in_default c = search (rules, no_spares)
