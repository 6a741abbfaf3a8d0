-- Words of a settling that have their meaning.
use Rattle.std.specs.Global.{Vec}
use Rattle.std.specs.Prelude.{Option}
use Rattle.pci_spec.specs.Slot.{Slot}
use Rattle.pci_base.specs.declared.range.RootRange.{RootRange}
use Rattle.pci_model.specs.declared.words.Words.{Words}
use Rattle.pci_tree.specs.declared.roots.Roots.{Roots}
use Rattle.pciplan_words.specs.declared.asked.SettleWords.{SettleWords}
use Rattle.pciplan_cli.specs.OptionWords.{AreRootsOf, AreWordsOf}
use Rattle.pciplan_cli.specs.SettleAsked.{AreFixed, HasFixed, IsListOf}

pub have_fixed : (asked : SettleWords) (roots : Roots) (words : Option Words) (io mem pref : Vec RootRange) (fixed : Vec Slot)
    → AreRootsOf asked.root roots → AreWordsOf asked.model words → IsListOf asked.io io → IsListOf asked.mem mem → IsListOf asked.pref pref → AreFixed asked.fixed fixed → HasFixed asked
have_fixed asked roots words io mem pref fixed of_roots of_words of_io of_mem of_pref of_fixed =
    ((((((roots, of_roots), (words, of_words)), (io.items, of_io)), (mem.items, of_mem)), (pref.items, of_pref)), (fixed, of_fixed))
