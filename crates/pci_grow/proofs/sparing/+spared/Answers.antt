-- Where room for a spare is found, and what has changed then.
use Rattle.std.proofs.Common.{◌-◌, ◌∙◌, arith, sym, ap, subst, true, false}
use Rattle.std.proofs.lemmas.Result.{IfOk-weaker}
use Rattle.settle_spec.specs.Parts.{bridge_over}
use Rattle.settle_spec.specs.Wishes.{spared_within}
use Rattle.pci_place.specs.Items.{function_in}
use Rattle.settle_spec.specs.Lines.{lines_behind}
use Rattle.settle_spec.specs.Stands.{window_part}
use Rattle.pci_grow.specs.RoomRows.{HasRanges}
use Rattle.pci_grow.specs.Board.{room_value, bridge_of_window, window_class}
use Rattle.pci_first_fit.specs.Spots.{extent_value}
use Rattle.pci_grow.specs.Endings.{IsSparedAs}
use Rattle.pci_grow.proofs.SpareAround.{root_is, over_one}
use Rattle.pci_grow.proofs.Sparings.{of_zero, of_open, of_cannot, cannot_there, cannot_fixed, can_both, of_root, of_nothing, of_above_no, of_above_yes}
use Rattle.pci_grow.proofs.sparing.+spared.Goals as goal

pub returns-then-depth-eq0-clause-spared : goal.returns-then-depth-eq0-clause-spared
returns-then-depth-eq0-clause-spared g t c = λ q s k behind told window has.
    of_zero q s k c.args.board.now (room_value c.args.room.now) told c.args.window window c.args.sought.now.extent behind c.args.depth c.if-depth-eq0.true

pub returns-in-Some-clause-spared : goal.returns-in-Some-clause-spared
returns-in-Some-clause-spared g t c = λ q s k behind told window has.
    let not = c.if-depth-eq0.false in
    IfOk-weaker c.spared_in.result _ _
    (λ place. of_open q s k c.args.board.now (room_value c.args.room.now) told c.args.window window c.args.sought.now.extent behind c.args.depth (omega (arith, not)) c.in-Some.range (sym c.in-Some.ensures)
    place (room_value c.spared_in.new.room))
    (c.spared_in.ensures.spared q s k behind told window has (sym c.in-Some.ensures))

pub returns-then-not-facts-clause-spared : goal.returns-then-not-facts-clause-spared
returns-then-not-facts-clause-spared g t c = λ q s k behind told window has.
    let not = c.if-depth-eq0.false in
    let are = c.in-Some-facts.ensures q s told.asked in
    of_cannot q s k c.args.board.now (room_value c.args.room.now) told c.args.window window c.args.sought.now.extent behind c.args.depth (omega (arith, not)) (sym c.in_default.ensures) c.in-Some-facts.facts are
    (cannot_there q s k c.args.board.now (room_value c.args.room.now) told c.args.window window c.args.sought.now.extent behind c.args.depth (omega (arith, not)) (sym c.in_default.ensures) c.in-Some-facts.facts are c.if-not-facts.true)

pub returns-then-facts-clause-spared : goal.returns-then-facts-clause-spared
returns-then-facts-clause-spared g t c = λ q s k behind told window has.
    let not = c.if-depth-eq0.false in
    let are = c.in-Some-facts.ensures q s told.asked in
    of_cannot q s k c.args.board.now (room_value c.args.room.now) told c.args.window window c.args.sought.now.extent behind c.args.depth (omega (arith, not)) (sym c.in_default.ensures) c.in-Some-facts.facts are
    (cannot_fixed q s k c.args.board.now (room_value c.args.room.now) told c.args.window window c.args.sought.now.extent behind c.args.depth (omega (arith, not)) (sym c.in_default.ensures) c.in-Some-facts.facts are c.if-facts.true)

pub returns-then-is_root-clause-spared : goal.returns-then-is_root-clause-spared
returns-then-is_root-clause-spared g t c = λ q s k behind told window has.
    let not = c.if-depth-eq0.false in
    let are = c.in-Some-facts.ensures q s told.asked in
    let can = can_both q s k c.args.board.now (room_value c.args.room.now) told c.args.window window c.args.sought.now.extent behind c.args.depth (omega (arith, not)) (sym c.in_default.ensures) c.in-Some-facts.facts are c.if-not-facts.false c.if-facts.false in
    IfOk-weaker c.spared_on_root.result _ _
    (λ place. of_root q s k c.args.board.now (room_value c.args.room.now) told c.args.window window c.args.sought.now.extent behind c.args.depth (omega (arith, not)) (sym c.in_default.ensures) c.in-Some-facts.facts are can
    c.held_by-held.result c.held_by-held.ensures.size c.held_by-held.ensures.alignment c.held_by-held.ensures.highest
    (root_is q s c.args.board.now told.asked c.args.window window c.in-Some-facts.facts are true (sym c.is_root.ensures ∙ c.if-is_root.true)) c.if-not-facts.false place (room_value c.spared_on_root.new.room))
    (c.spared_on_root.ensures.spared q s k (lines_behind q (window_part (window_class c.args.window) (bridge_of_window s c.args.window))) told window are
    (subst (λ xs. HasRanges xs (lines_behind q (window_part (window_class c.args.window) (bridge_of_window s c.args.window)))) (sym c.as_slice.ensures.value) (c.in_ok-behind.ensures q s told.asked window)))

pub returns-in_default-bridge_over-clause-spared : goal.returns-in_default-bridge_over-clause-spared
returns-in_default-bridge_over-clause-spared g t c = λ q s k behind told window has.
    let not = c.if-depth-eq0.false in
    let are = c.in-Some-facts.ensures q s told.asked in
    let can = can_both q s k c.args.board.now (room_value c.args.room.now) told c.args.window window c.args.sought.now.extent behind c.args.depth (omega (arith, not)) (sym c.in_default.ensures) c.in-Some-facts.facts are c.if-not-facts.false c.if-facts.false in
    of_nothing q s k c.args.board.now (room_value c.args.room.now) told c.args.window window c.args.sought.now.extent behind c.args.depth (omega (arith, not)) (sym c.in_default.ensures) c.in-Some-facts.facts are can
    c.held_by-held.result c.held_by-held.ensures.size c.held_by-held.ensures.alignment c.held_by-held.ensures.highest
    (root_is q s c.args.board.now told.asked c.args.window window c.in-Some-facts.facts are false (sym c.is_root.ensures ∙ c.if-is_root.false))
    (sym (ap (bridge_over s) are.bus) ∙ c.in_default-bridge_over.ensures.over q s told.asked)

pub returns-in_default-2-clause-spared : goal.returns-in_default-2-clause-spared
returns-in_default-2-clause-spared g t c = λ q s k behind told window has.
    let not = c.if-depth-eq0.false in
    let are = c.in-Some-facts.ensures q s told.asked in
    let can = can_both q s k c.args.board.now (room_value c.args.room.now) told c.args.window window c.args.sought.now.extent behind c.args.depth (omega (arith, not)) (sym c.in_default.ensures) c.in-Some-facts.facts are c.if-not-facts.false c.if-facts.false in
    let over_there = c.in-Some-bridge_over.ensures.over q s told.asked in
    let over = over_one q s c.args.board.now told.asked c.args.window window c.in-Some-facts.facts are c.in-Some-bridge_over.bridge over_there in
    of_above_no q s k c.args.board.now (room_value c.args.room.now) told c.args.window window c.args.sought.now.extent behind c.args.depth (omega (arith, not)) (sym c.in_default.ensures) c.in-Some-facts.facts are can
    c.held_by-held.result c.held_by-held.ensures.size c.held_by-held.ensures.alignment c.held_by-held.ensures.highest
    (root_is q s c.args.board.now told.asked c.args.window window c.in-Some-facts.facts are false (sym c.is_root.ensures ∙ c.if-is_root.false))
    c.in-Some-bridge_over.bridge (sym (ap (bridge_over s) are.bus) ∙ over_there.1) over (room_value c.spared.new.room)
    (subst (λ p. IsSparedAs q s c.args.board.now (spared_within q s (window_class c.args.window) (c.args.depth - 1) (function_in s c.in-Some-bridge_over.bridge) (extent_value c.held_by-held.result) (lines_behind q (window_part (window_class c.args.window) (bridge_of_window s c.args.window))) k) p (room_value c.args.room.now) (room_value c.spared.new.room))
    c.in_default-2.is (c.in_ok-at.ensures.spared q s k (lines_behind q (window_part (window_class c.args.window) (bridge_of_window s c.args.window))) told over.window
    (subst (λ xs. HasRanges xs (lines_behind q (window_part (window_class c.args.window) (bridge_of_window s c.args.window)))) (sym c.as_slice.ensures.value) (c.in_ok-behind.ensures q s told.asked window))))

pub returns-clause-spared : goal.returns-clause-spared
returns-clause-spared g t c = λ q s k behind told window has.
    let not = c.if-depth-eq0.false in
    let are = c.in-Some-facts.ensures q s told.asked in
    let can = can_both q s k c.args.board.now (room_value c.args.room.now) told c.args.window window c.args.sought.now.extent behind c.args.depth (omega (arith, not)) (sym c.in_default.ensures) c.in-Some-facts.facts are c.if-not-facts.false c.if-facts.false in
    let over_there = c.in-Some-bridge_over.ensures.over q s told.asked in
    let over = over_one q s c.args.board.now told.asked c.args.window window c.in-Some-facts.facts are c.in-Some-bridge_over.bridge over_there in
    of_above_yes q s k c.args.board.now (room_value c.args.room.now) told c.args.window window c.args.sought.now.extent behind c.args.depth (omega (arith, not)) (sym c.in_default.ensures) c.in-Some-facts.facts are can
    c.held_by-held.result c.held_by-held.ensures.size c.held_by-held.ensures.alignment c.held_by-held.ensures.highest
    (root_is q s c.args.board.now told.asked c.args.window window c.in-Some-facts.facts are false (sym c.is_root.ensures ∙ c.if-is_root.false))
    c.in-Some-bridge_over.bridge (sym (ap (bridge_over s) are.bus) ∙ over_there.1) over (room_value c.spared.new.room)
    c.in-Some-2.at (room_value c.open_at.new.room) c.window_row-row.result c.window_row-row.ensures.row
    (subst (λ p. IsSparedAs q s c.args.board.now (spared_within q s (window_class c.args.window) (c.args.depth - 1) (function_in s c.in-Some-bridge_over.bridge) (extent_value c.held_by-held.result) (lines_behind q (window_part (window_class c.args.window) (bridge_of_window s c.args.window))) k) p (room_value c.args.room.now) (room_value c.spared.new.room))
    c.in-Some-2.is (c.in_ok-at.ensures.spared q s k (lines_behind q (window_part (window_class c.args.window) (bridge_of_window s c.args.window))) told over.window
    (subst (λ xs. HasRanges xs (lines_behind q (window_part (window_class c.args.window) (bridge_of_window s c.args.window)))) (sym c.as_slice.ensures.value) (c.in_ok-behind.ensures q s told.asked window))))
    c.in_ok-open_at.ensures.opened c.if-not-facts.false

pub returns-in_err-open_at-clause-room : goal.returns-in_err-open_at-clause-room
returns-in_err-open_at-clause-room g t c = c.open_at.ensures.room _ c.spared.ensures.room

pub returns-clause-room : goal.returns-clause-room
returns-clause-room g t c = c.open_at.ensures.room _ c.spared.ensures.room
