use Rattle.std.proofs.Common.{None, Some, sym, ◌∙◌}
use Rattle.pciplan_lists.proofs.RangeWords.{range_parts, range_same}
use Rattle.pciplan_lists.proofs.range_word.range_of_word.Goals as goal

pub returns-in_err-bus_of_word-in-Some-clause-only : goal.returns-in_err-bus_of_word-in-Some-clause-only
returns-in_err-bus_of_word-in-Some-clause-only c = λ range is.
    let parts = range_parts c.args.word.now (Some (c.in-Some.bus, c.in-Some.range)) c.in-Some.ensures.cases range.root range.range is in
    let none = c.in_err-bus_of_word-in-Some.ensures.only parts.root parts.below parts.digits in
    absurd (cc none)

pub returns-in_err-pool_of_word-in-Some-clause-only : goal.returns-in_err-pool_of_word-in-Some-clause-only
returns-in_err-pool_of_word-in-Some-clause-only c = λ range is.
    let parts = range_parts c.args.word.now (Some (c.in-Some.bus, c.in-Some.range)) c.in-Some.ensures.cases range.root range.range is in
    let none = c.in_err-pool_of_word-in-Some.ensures.only range.range parts.range in
    absurd (cc none)

pub returns-in_err-pool_of_word-in-None-clause-only : goal.returns-in_err-pool_of_word-in-None-clause-only
returns-in_err-pool_of_word-in-None-clause-only c = λ range is.
    let parts = range_parts c.args.word.now None c.in-None.ensures.cases range.root range.range is in
    let none = c.in_err-pool_of_word-in-None.ensures.only range.range parts.range in
    absurd (cc none)

pub returns-in_ok-pool_of_word-in-Some-clause-only : goal.returns-in_ok-pool_of_word-in-Some-clause-only
returns-in_ok-pool_of_word-in-Some-clause-only c = λ range is.
    let parts = range_parts c.args.word.now (Some (c.in-Some.bus, c.in-Some.range)) c.in-Some.ensures.cases range.root range.range is in
    let bus = c.in_ok-bus_of_word-in-Some.ensures.only parts.root parts.below parts.digits in
    let pool = c.in_ok-pool_of_word-in-Some.ensures.only range.range parts.range in
    range_same range _ _ (bus ∙ sym parts.one) (cc pool)

pub returns-in_ok-pool_of_word-in-None-clause-only : goal.returns-in_ok-pool_of_word-in-None-clause-only
returns-in_ok-pool_of_word-in-None-clause-only c = λ range is.
    let parts = range_parts c.args.word.now None c.in-None.ensures.cases range.root range.range is in
    let pool = c.in_ok-pool_of_word-in-None.ensures.only range.range parts.range in
    range_same range _ _ (sym parts.all) (cc pool)
