-- Where the walk up ends, and what has changed then.
use Rattle.std.proofs.Common.{◌-◌, ◌∙◌, arith, sym, refl}
use Rattle.std.proofs.lemmas.Bool.{both_ways}
use Rattle.settle_spec.specs.Wishes.{ending_within}
use Rattle.pci_grow.specs.Board.{room_value, window_class}
use Rattle.pci_grow.proofs.Endings.{at_zero, at_closed, at_enough, at_line, at_cannot, at_nothing, at_lists, at_above_no, at_above_yes}
use Rattle.pci_grow.proofs.ending.+end_by.Goals as goal

pub returns-then-depth-eq0-clause-ended : goal.returns-then-depth-eq0-clause-ended
returns-then-depth-eq0-clause-ended g t c = λ q s k told window.
    at_zero q s k c.args.board.now (room_value c.args.room.now) told c.args.window window c.args.depth c.args.last c.if-depth-eq0.true

pub returns-in_default-clause-ended : goal.returns-in_default-clause-ended
returns-in_default-clause-ended g t c = λ q s k told window.
    let not = c.if-depth-eq0.false in
    at_closed q s k c.args.board.now (room_value c.args.room.now) told c.args.window window c.args.depth c.args.last (omega (arith, not)) (sym c.in_default.ensures)

pub returns-then-last-range-clause-ended : goal.returns-then-last-range-clause-ended
returns-then-last-range-clause-ended g t c = λ q s k told window.
    let not = c.if-depth-eq0.false in
    at_enough q s k c.args.board.now (room_value c.args.room.now) told c.args.window window c.args.depth c.args.last (omega (arith, not)) c.in-Some.range (sym c.in-Some.ensures) c.if-last-range.true

pub returns-in_default-facts-clause-ended : goal.returns-in_default-facts-clause-ended
returns-in_default-facts-clause-ended g t c = λ q s k told window. absurd (both_ways _ (c.in_default-facts.ensures q s told.asked) window.bridge)

pub returns-then-not-gains_no_line-clause-ended : goal.returns-then-not-gains_no_line-clause-ended
returns-then-not-gains_no_line-clause-ended g t c = λ q s k told window.
    let not = c.if-depth-eq0.false in
    at_line q s k c.args.board.now (room_value c.args.room.now) told c.args.window window c.args.depth c.args.last (omega (arith, not)) c.in-Some.range (sym c.in-Some.ensures) c.if-last-range.false
    c.in-Some-facts.facts (c.in-Some-facts.ensures q s told.asked) c.window_row-row.result c.window_row-row.ensures.row c.end_over-end.result c.end_over-end.ensures c.gains_no_line.result (c.gains_no_line.ensures q s told.asked window)
    c.if-not-gains_no_line.true

pub returns-then-not-can_end_at-clause-ended : goal.returns-then-not-can_end_at-clause-ended
returns-then-not-can_end_at-clause-ended g t c = λ q s k told window.
    let not = c.if-depth-eq0.false in
    at_cannot q s k c.args.board.now (room_value c.args.room.now) told c.args.window window c.args.depth c.args.last (omega (arith, not)) c.in-Some.range (sym c.in-Some.ensures) c.if-last-range.false
    c.in-Some-facts.facts (c.in-Some-facts.ensures q s told.asked) c.window_row-row.result c.window_row-row.ensures.row c.end_over-end.result c.end_over-end.ensures c.gains_no_line.result (c.gains_no_line.ensures q s told.asked window)
    (sym c.can_end_at.ensures ∙ c.if-not-can_end_at.true)

pub returns-in-Nothing-clause-ended : goal.returns-in-Nothing-clause-ended
returns-in-Nothing-clause-ended g t c = λ q s k told window.
    let not = c.if-depth-eq0.false in
    let are = c.in-Some-facts.ensures q s told.asked in
    let around = c.in-Nothing.ensures.around q s told.asked c.args.window refl window are in
    at_nothing q s k c.args.board.now (room_value c.args.room.now) told c.args.window window c.args.depth c.args.last (omega (arith, not)) c.in-Some.range (sym c.in-Some.ensures) c.if-last-range.false
    c.in-Some-facts.facts are c.window_row-row.result c.window_row-row.ensures.row c.end_over-end.result c.end_over-end.ensures c.gains_no_line.result (c.gains_no_line.ensures q s told.asked window)
    c.if-not-gains_no_line.false (sym c.can_end_at.ensures ∙ c.if-not-can_end_at.false) (around.kept (ending_within q s (window_class c.args.window) (c.args.depth - 1)) k)

pub returns-in-Lists-clause-ended : goal.returns-in-Lists-clause-ended
returns-in-Lists-clause-ended g t c = λ q s k told window.
    let not = c.if-depth-eq0.false in
    let are = c.in-Some-facts.ensures q s told.asked in
    let around = c.in-Lists.ensures.around q s told.asked c.args.window refl window are in
    at_lists q s k c.args.board.now (room_value c.args.room.now) told c.args.window window c.args.depth c.args.last (omega (arith, not)) c.in-Some.range (sym c.in-Some.ensures) c.if-last-range.false
    c.in-Some-facts.facts are c.window_row-row.result c.window_row-row.ensures.row c.end_over-end.result c.end_over-end.ensures c.gains_no_line.result (c.gains_no_line.ensures q s told.asked window)
    c.if-not-gains_no_line.false (sym c.can_end_at.ensures ∙ c.if-not-can_end_at.false) (room_value c.end_later.new.self) (around.kept (ending_within q s (window_class c.args.window) (c.args.depth - 1)) k) c.end_later.ensures.ended

pub returns-then-not-end_by-clause-ended : goal.returns-then-not-end_by-clause-ended
returns-then-not-end_by-clause-ended g t c = λ q s k told window.
    let not = c.if-depth-eq0.false in
    let are = c.in-Some-facts.ensures q s told.asked in
    let around = c.in-Window.ensures.around q s told.asked c.args.window refl window are in
    at_above_no q s k c.args.board.now (room_value c.args.room.now) told c.args.window window c.args.depth c.args.last (omega (arith, not)) c.in-Some.range (sym c.in-Some.ensures) c.if-last-range.false
    c.in-Some-facts.facts are c.window_row-row.result c.window_row-row.ensures.row c.end_over-end.result c.end_over-end.ensures c.gains_no_line.result (c.gains_no_line.ensures q s told.asked window)
    c.if-not-gains_no_line.false (sym c.can_end_at.ensures ∙ c.if-not-can_end_at.false) c.in-Window.bridge around.one (around.kept (ending_within q s (window_class c.args.window) (c.args.depth - 1)) k) (room_value c.end_by.new.room)
    (c.if-not-end_by.ensures.ended q s k told around.one.window)

pub returns-else-not-end_by-clause-ended : goal.returns-else-not-end_by-clause-ended
returns-else-not-end_by-clause-ended g t c = λ q s k told window.
    let not = c.if-depth-eq0.false in
    let are = c.in-Some-facts.ensures q s told.asked in
    let around = c.in-Window.ensures.around q s told.asked c.args.window refl window are in
    at_above_yes q s k c.args.board.now (room_value c.args.room.now) told c.args.window window c.args.depth c.args.last (omega (arith, not)) c.in-Some.range (sym c.in-Some.ensures) c.if-last-range.false
    c.in-Some-facts.facts are c.window_row-row.result c.window_row-row.ensures.row c.end_over-end.result c.end_over-end.ensures c.gains_no_line.result (c.gains_no_line.ensures q s told.asked window)
    c.if-not-gains_no_line.false (sym c.can_end_at.ensures ∙ c.if-not-can_end_at.false) c.in-Window.bridge around.one (around.kept (ending_within q s (window_class c.args.window) (c.args.depth - 1)) k) (room_value c.end_by.new.room) (room_value c.end_later-in-Window.new.self)
    (c.if-not-end_by.ensures.ended q s k told around.one.window) c.end_later-in-Window.ensures.ended

pub returns-in-Lists-clause-room : goal.returns-in-Lists-clause-room
returns-in-Lists-clause-room g t c = c.end_later.ensures.room _ c.requires.room

pub returns-else-not-end_by-clause-room : goal.returns-else-not-end_by-clause-room
returns-else-not-end_by-clause-room g t c = c.end_later-in-Window.ensures.room _ c.end_by.ensures.room
