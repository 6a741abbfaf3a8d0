use Rattle.std.proofs.Common.{[], Some, ap, arith, rules, tests}
use Rattle.std.specs.Option.{option_map}
use Rattle.std.proofs.lemmas.Iterator.Consumers.{nth_from_yields_List, YieldsList-at, YieldsList-from_filter}
use Rattle.std.proofs.lemmas.Iterator.Splits.{YieldsList-from_slice_split}
use Rattle.pci_picture.specs.Lines.{is_blank_byte, is_nonempty_word, words_in_line}
use Rattle.pci_picture.proofs.Nths.{none_left, nth_leaves, one_left}
use Rattle.pci_picture.proofs.listing.values_of.Goals as goal

pub returns-in_default-clause-command : goal.returns-in_default-clause-command
unfolding words_in_line
returns-in_default-clause-command c =
    none_left 0 4 10 [] (words_in_line c.args.line.now) (option_map (λ w. w.now) c.nth.result)
    (nth_from_yields_List c.nth.result c.nth.new.self 4 c.nth.ensures.ran (YieldsList-from_filter _ is_nonempty_word
    (YieldsList-at c.filter-words.ensures.source
    (YieldsList-from_slice_split _ is_blank_byte c.args.line.now c.split.ensures.rest c.split.ensures.done c.split.ensures.closure (λ x b q k. search (rules, tests))))
    c.filter-words.ensures.closure (λ x b q k. search (rules, tests)))) (ap (option_map (λ w. w.now)) c.in_default.is) (omega arith)

pub returns-in_default-nth-clause-command : goal.returns-in_default-nth-clause-command
unfolding words_in_line
returns-in_default-nth-clause-command c =
    let at_5 = nth_leaves (words_in_line c.args.line.now) c.in-Some.vendor c.nth.new.self 0 4 5 c.in-Some.ensures.ran (YieldsList-from_filter _ is_nonempty_word
    (YieldsList-at c.filter-words.ensures.source
    (YieldsList-from_slice_split _ is_blank_byte c.args.line.now c.split.ensures.rest c.split.ensures.done c.split.ensures.closure (λ x b q k. search (rules, tests))))
    c.filter-words.ensures.closure (λ x b q k. search (rules, tests))) (omega arith) in
    none_left 5 1 10 [] (words_in_line c.args.line.now) (option_map (λ w. w.now) c.nth-2.result)
    (nth_from_yields_List c.nth-2.result c.nth-2.new.self 1 c.nth-2.ensures.ran at_5) (ap (option_map (λ w. w.now)) c.in_default-nth.is) (omega arith)

pub returns-in_default-nth-2-clause-command : goal.returns-in_default-nth-2-clause-command
unfolding words_in_line
returns-in_default-nth-2-clause-command c =
    let at_5 = nth_leaves (words_in_line c.args.line.now) c.in-Some.vendor c.nth.new.self 0 4 5 c.in-Some.ensures.ran (YieldsList-from_filter _ is_nonempty_word
    (YieldsList-at c.filter-words.ensures.source
    (YieldsList-from_slice_split _ is_blank_byte c.args.line.now c.split.ensures.rest c.split.ensures.done c.split.ensures.closure (λ x b q k. search (rules, tests))))
    c.filter-words.ensures.closure (λ x b q k. search (rules, tests))) (omega arith) in
    let at_7 = nth_leaves (words_in_line c.args.line.now) c.in-Some-nth.device c.nth-2.new.self 5 1 7 c.in-Some-nth.ensures.ran at_5 (omega arith) in
    none_left 7 1 10 [] (words_in_line c.args.line.now) (option_map (λ w. w.now) c.nth-3.result)
    (nth_from_yields_List c.nth-3.result c.nth-3.new.self 1 c.nth-3.ensures.ran at_7) (ap (option_map (λ w. w.now)) c.in_default-nth-2.is) (omega arith)

pub returns-in_default-nth-3-clause-command : goal.returns-in_default-nth-3-clause-command
unfolding words_in_line
returns-in_default-nth-3-clause-command c =
    let at_5 = nth_leaves (words_in_line c.args.line.now) c.in-Some.vendor c.nth.new.self 0 4 5 c.in-Some.ensures.ran (YieldsList-from_filter _ is_nonempty_word
    (YieldsList-at c.filter-words.ensures.source
    (YieldsList-from_slice_split _ is_blank_byte c.args.line.now c.split.ensures.rest c.split.ensures.done c.split.ensures.closure (λ x b q k. search (rules, tests))))
    c.filter-words.ensures.closure (λ x b q k. search (rules, tests))) (omega arith) in
    let at_7 = nth_leaves (words_in_line c.args.line.now) c.in-Some-nth.device c.nth-2.new.self 5 1 7 c.in-Some-nth.ensures.ran at_5 (omega arith) in
    let at_9 = nth_leaves (words_in_line c.args.line.now) c.in-Some-nth-2.class c.nth-3.new.self 7 1 9 c.in-Some-nth-2.ensures.ran at_7 (omega arith) in
    none_left 9 1 10 [] (words_in_line c.args.line.now) (option_map (λ w. w.now) c.nth-4.result)
    (nth_from_yields_List c.nth-4.result c.nth-4.new.self 1 c.nth-4.ensures.ran at_9) (ap (option_map (λ w. w.now)) c.in_default-nth-3.is) (omega arith)

pub returns-clause-command : goal.returns-clause-command
unfolding words_in_line
returns-clause-command c =
    let at_5 = nth_leaves (words_in_line c.args.line.now) c.in-Some.vendor c.nth.new.self 0 4 5 c.in-Some.ensures.ran (YieldsList-from_filter _ is_nonempty_word
    (YieldsList-at c.filter-words.ensures.source
    (YieldsList-from_slice_split _ is_blank_byte c.args.line.now c.split.ensures.rest c.split.ensures.done c.split.ensures.closure (λ x b q k. search (rules, tests))))
    c.filter-words.ensures.closure (λ x b q k. search (rules, tests))) (omega arith) in
    let at_7 = nth_leaves (words_in_line c.args.line.now) c.in-Some-nth.device c.nth-2.new.self 5 1 7 c.in-Some-nth.ensures.ran at_5 (omega arith) in
    let at_9 = nth_leaves (words_in_line c.args.line.now) c.in-Some-nth-2.class c.nth-3.new.self 7 1 9 c.in-Some-nth-2.ensures.ran at_7 (omega arith) in
    one_left 9 1 10 c.in-Some-nth-3.command.now [] (words_in_line c.args.line.now)
    (nth_from_yields_List (Some c.in-Some-nth-3.command) c.nth-4.new.self 1 c.in-Some-nth-3.ensures.ran at_9) (omega arith)

pub returns-clause-others : goal.returns-clause-others
unfolding words_in_line
returns-clause-others c =
    let words = words_in_line c.args.line.now in
    let at_5 = nth_leaves words c.in-Some.vendor c.nth.new.self 0 4 5 c.in-Some.ensures.ran (YieldsList-from_filter _ is_nonempty_word
    (YieldsList-at c.filter-words.ensures.source
    (YieldsList-from_slice_split _ is_blank_byte c.args.line.now c.split.ensures.rest c.split.ensures.done c.split.ensures.closure (λ x b q k. search (rules, tests))))
    c.filter-words.ensures.closure (λ x b q k. search (rules, tests))) (omega arith) in
    let at_7 = nth_leaves words c.in-Some-nth.device c.nth-2.new.self 5 1 7 c.in-Some-nth.ensures.ran at_5 (omega arith) in
    let vendor = one_left 0 4 4 c.in-Some.vendor.now [] words (nth_from_yields_List (Some c.in-Some.vendor) c.nth.new.self 4 c.in-Some.ensures.ran (YieldsList-from_filter _ is_nonempty_word
    (YieldsList-at c.filter-words.ensures.source
    (YieldsList-from_slice_split _ is_blank_byte c.args.line.now c.split.ensures.rest c.split.ensures.done c.split.ensures.closure (λ x b q k. search (rules, tests))))
    c.filter-words.ensures.closure (λ x b q k. search (rules, tests)))) (omega arith) in
    let device = one_left 5 1 6 c.in-Some-nth.device.now [] words (nth_from_yields_List (Some c.in-Some-nth.device) c.nth-2.new.self 1 c.in-Some-nth.ensures.ran at_5) (omega arith) in
    let class = one_left 7 1 8 c.in-Some-nth-2.class.now [] words (nth_from_yields_List (Some c.in-Some-nth-2.class) c.nth-3.new.self 1 c.in-Some-nth-2.ensures.ran at_7) (omega arith) in
    λ some. record { vendor_is = vendor; device_is = device; class_is = class }
