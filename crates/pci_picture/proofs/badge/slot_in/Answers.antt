use Rattle.std.proofs.Common.{rules, tests}
use Rattle.std.proofs.lemmas.Iterator.Consumers.{YieldsList-at, YieldsList-from_filter}
use Rattle.std.proofs.lemmas.Iterator.Search.{find_from_yields_List}
use Rattle.std.proofs.lemmas.Iterator.Splits.{YieldsList-from_slice_split}
use Rattle.pci_picture.specs.Lines.{is_blank_byte, is_nonempty_word, is_slot, words_in_line}
use Rattle.pci_picture.proofs.badge.slot_in.Goals as goal

pub returns : goal.returns
unfolding words_in_line
returns c =
    find_from_yields_List is_slot c.find.new.self _ c.find.result c.find.ensures.ran
    (YieldsList-from_filter _ is_nonempty_word
    (YieldsList-at c.filter.ensures.source
    (YieldsList-from_slice_split _ is_blank_byte c.args.line.now c.split.ensures.rest c.split.ensures.done c.split.ensures.closure (λ x b q k. search (rules, tests))))
    c.filter.ensures.closure (λ x b q k. search (rules, tests))) (λ x b q k. search (rules, tests))
