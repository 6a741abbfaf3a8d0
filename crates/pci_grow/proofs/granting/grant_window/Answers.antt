use Rattle.std.proofs.Common.{◌≡◌, rules, arith, sym, refl, true, false, [], ◌∙◌}
use Rattle.std.specs.Option.{is_some}
use Rattle.pci_grow.proofs.Facts.{long}
use Rattle.pci_grow.specs.Board.{room_value}
use Rattle.pci_grow.proofs.Granted.{no_wish, no_bridge, no_window, is_granted, is_denied}
use Rattle.pci_grow.proofs.granting.grant_window.Goals as goal

pub returns-in_default-clause-granted : goal.returns-in_default-clause-granted
returns-in_default-clause-granted gg c = λ q s spare g are was.
    let size = long q s c.args.board.now was.told_is.asked in
    let within = c.requires.window in
    no_wish q s c.args.board.now _ _ spare are c.args.window (omega (arith, size, within)) g (room_value c.args.room.now) c.args.denied.now.items was (sym c.in_default.ensures)

pub returns-in_default-facts-clause-granted : goal.returns-in_default-facts-clause-granted
returns-in_default-facts-clause-granted gg c = λ q s spare g are was.
    let size = long q s c.args.board.now was.told_is.asked in
    let within = c.requires.window in
    no_bridge q s c.args.board.now _ _ spare are c.args.window (omega (arith, size, within)) g (room_value c.args.room.now) c.args.denied.now.items was (c.in_default-facts.ensures q s was.told_is.asked)

pub returns-then-not-facts-clause-granted : goal.returns-then-not-facts-clause-granted
returns-then-not-facts-clause-granted gg c = λ q s spare g are was.
    let size = long q s c.args.board.now was.told_is.asked in
    let within = c.requires.window in
    let known = c.in-Some-facts.ensures q s was.told_is.asked in
    no_window q s c.args.board.now _ _ spare are c.args.window (omega (arith, size, within)) g (room_value c.args.room.now) c.args.denied.now.items was (sym known.there ∙ c.if-not-facts.true)

pub returns-then-is_some-clause-granted : goal.returns-then-is_some-clause-granted
returns-then-is_some-clause-granted gg c = λ q s spare g are was.
    let size = long q s c.args.board.now was.told_is.asked in
    let within = c.requires.window in
    let known = c.in-Some-facts.ensures q s was.told_is.asked in
    let some : is_some c.in_ok-spared.field-0 ≡ true = search rules in
    is_granted q s c.args.board.now _ _ spare are c.args.window (omega (arith, size, within)) g (room_value c.args.room.now) c.args.denied.now.items was c.in-Some-facts.facts known c.if-not-facts.false
    c.in-Some.spare (sym c.in-Some.ensures) _ refl refl refl c.in_ok-spared.field-0 some (room_value c.spared.new.room)
    (c.in_ok-spared.ensures.spared q s g.kept [] was.told_is (record { within = omega (arith, size, within); bridge = known.bridge }) (λ weight. refl))

pub returns-clause-granted : goal.returns-clause-granted
returns-clause-granted gg c = λ q s spare g are was.
    let size = long q s c.args.board.now was.told_is.asked in
    let within = c.requires.window in
    let known = c.in-Some-facts.ensures q s was.told_is.asked in
    let none : is_some c.in_ok-spared.field-0 ≡ false = search rules in
    is_denied q s c.args.board.now _ _ spare are c.args.window (omega (arith, size, within)) g (room_value c.args.room.now) c.args.denied.now.items was c.in-Some-facts.facts known c.if-not-facts.false
    c.in-Some.spare (sym c.in-Some.ensures) _ refl refl refl c.in_ok-spared.field-0 none (room_value c.spared.new.room) _ c.in_ok-push.ensures.items
    (c.in_ok-spared.ensures.spared q s g.kept [] was.told_is (record { within = omega (arith, size, within); bridge = known.bridge }) (λ weight. refl))
