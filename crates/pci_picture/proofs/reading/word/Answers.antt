use Rattle.std.proofs.Common.{◌∙◌, rules, tests, ap}
use Rattle.std.specs.List.{slice_get}
use Rattle.std.proofs.lemmas.Iterator.Consumers.{nth_from_yields_List, YieldsList-at, YieldsList-from_filter}
use Rattle.std.proofs.lemmas.Iterator.Splits.{YieldsList-from_slice_split}
use Rattle.pci_picture.specs.Lines.{is_blank_byte, is_nonempty_word, words_in_line}
use Rattle.pci_picture.proofs.Positions.{pointed}
use Rattle.pci_picture.proofs.reading.word.Goals as goal

pub returns : goal.returns
unfolding words_in_line
returns c =
    ap (λ r. r.now) c.unwrap_or.ensures
    ∙ pointed c.nth.result _ (slice_get (words_in_line c.args.line.now) c.args.index)
    (nth_from_yields_List c.nth.result c.nth.new.self c.args.index c.nth.ensures.ran
    (YieldsList-from_filter _ is_nonempty_word
    (YieldsList-at c.filter.ensures.source
    (YieldsList-from_slice_split _ is_blank_byte c.args.line.now c.split.ensures.rest c.split.ensures.done c.split.ensures.closure (λ x b q k. search (rules, tests))))
    c.filter.ensures.closure (λ x b q k. search (rules, tests))))
