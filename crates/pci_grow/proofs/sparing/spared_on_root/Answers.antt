use Rattle.std.proofs.Common.{sym, refl, ◌∙◌}
use Rattle.settle_spec.specs.Lists.{list_of}
use Rattle.pci_first_fit.specs.Lists.{lists_value}
use Rattle.pci_grow.specs.Board.{room_value, window_class}
use Rattle.pci_grow.proofs.Sparings.{root_none, root_some}
use Rattle.pci_grow.proofs.sparing.spared_on_root.Goals as goal

pub returns-in_default-clause-spared : goal.returns-in_default-clause-spared
returns-in_default-clause-spared g c = λ q s k behind told window are has there closed.
    let place = c.in_ok-at.ensures.place in
    root_none q s k c.args.board.now (room_value c.args.room.now) told c.args.window window c.args.sought.now.extent behind c.requires.extent c.args.facts.now are c.window_row-row.result c.window_row-row.ensures.row
    (list_of (lists_value c.args.board.now.lists.now) (window_class c.args.window)) refl place.taken (place.taken_is q s k behind told has)
    (sym place.place_is ∙ c.in_default.is) there closed

pub returns-clause-spared : goal.returns-clause-spared
returns-clause-spared g c = λ q s k behind told window are has there closed.
    let place = c.in_ok-at.ensures.place in
    root_some q s k c.args.board.now (room_value c.args.room.now) told c.args.window window c.args.sought.now.extent behind c.requires.extent c.args.facts.now are c.window_row-row.result c.window_row-row.ensures.row
    (list_of (lists_value c.args.board.now.lists.now) (window_class c.args.window)) refl place.taken (place.taken_is q s k behind told has) c.in-Some.at
    (sym place.place_is ∙ c.in-Some.is)
    (room_value c.open_at.new.room) c.in_ok-open_at.ensures.opened there closed

pub returns-in_err-open_at-clause-room : goal.returns-in_err-open_at-clause-room
returns-in_err-open_at-clause-room g c = c.open_at.ensures.room _ c.requires.room

pub returns-clause-room : goal.returns-clause-room
returns-clause-room g c = c.open_at.ensures.room _ c.requires.room
