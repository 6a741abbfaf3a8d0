use Rattle.std.proofs.Common.{rules, tests}
use Rattle.std.proofs.lemmas.Iterator.Consumers.{count_from_yields_List, YieldsList-at, YieldsList-from_filter}
use Rattle.std.proofs.lemmas.Iterator.Splits.{YieldsList-from_slice_split}
use Rattle.pci_picture.specs.Lines.{is_blank_byte, is_nonempty_word, words_in_line}
use Rattle.pci_picture.proofs.reading.word_count.Goals as goal

pub returns : goal.returns
unfolding words_in_line
returns c =
    count_from_yields_List c.filter.result c.count.result c.count.ensures.ran
    (YieldsList-from_filter _ is_nonempty_word
    (YieldsList-at c.filter.ensures.source
    (YieldsList-from_slice_split _ is_blank_byte c.args.line.now c.split.ensures.rest c.split.ensures.done c.split.ensures.closure (λ x b q k. search (rules, tests))))
    c.filter.ensures.closure (λ x b q k. search (rules, tests)))
