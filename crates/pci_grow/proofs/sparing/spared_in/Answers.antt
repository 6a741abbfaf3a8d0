-- Where the first place in an open window is, and whether that can end behind it.
use Rattle.std.proofs.Common.{◌++◌, arith, subst}
use Rattle.std.proofs.lemmas.Bool.{both_ways}
use Rattle.pci_spec.specs.System.{window_space}
use Rattle.settle_spec.specs.Wishes.{taken_then}
use Rattle.pci_grow.specs.Board.{room_value, window_class}
use Rattle.pci_grow.specs.RoomRows.{HasRanges}
use Rattle.pci_grow.specs.Endings.{IsSpotBeside}
use Rattle.pci_grow.proofs.Sparings.{in_high, in_no, in_yes}
use Rattle.pci_grow.proofs.sparing.spared_in.Goals as goal

pub returns-in_default-clause-spared : goal.returns-in_default-clause-spared
returns-in_default-clause-spared g c = λ q s k behind told window held has. absurd (both_ways _ (c.in_default.ensures q s told.asked) window.bridge)

pub returns-in_default-2-clause-spared : goal.returns-in_default-2-clause-spared
returns-in_default-2-clause-spared g c = λ q s k behind told window held has.
    let extent = c.args.sought.now.extent in
    let are = c.in-Some.ensures q s told.asked in
    let spot = subst (IsSpotBeside c.args.board.now (room_value c.args.room.now) c.in-Some.facts.behind (window_class c.args.window) c.args.sought.now.behind.now c.args.range.first extent) c.in_default-2.is c.in_ok-at.ensures.spot in
    let taken = subst (λ n. HasRanges spot.taken (behind ++ taken_then q s k (window_space (window_class c.args.window)) n)) are.behind (spot.taken_is q s k behind told held) in
    in_high q s k c.args.board.now (room_value c.args.room.now) told c.args.window window extent behind c.requires.extent c.args.range spot.taken taken spot.spot_is

pub returns-then-not-end_by-clause-spared : goal.returns-then-not-end_by-clause-spared
returns-then-not-end_by-clause-spared g c = λ q s k behind told window held has.
    let extent = c.args.sought.now.extent in
    let are = c.in-Some.ensures q s told.asked in
    let spot = subst (IsSpotBeside c.args.board.now (room_value c.args.room.now) c.in-Some.facts.behind (window_class c.args.window) c.args.sought.now.behind.now c.args.range.first extent) c.in-Some-2.is c.in_ok-at.ensures.spot in
    let taken = subst (λ n. HasRanges spot.taken (behind ++ taken_then q s k (window_space (window_class c.args.window)) n)) are.behind (spot.taken_is q s k behind told held) in
    let at = spot.spot_is.0 in
    let low = spot.spot_is.1 in
    in_no q s k c.args.board.now (room_value c.args.room.now) told c.args.window window extent behind c.requires.extent c.args.range spot.taken taken
    (omega (arith, at, low)) c.in-Some-2.at at (room_value c.end_by.new.room)
    (c.if-not-end_by.ensures.ended q s k told window)

pub returns-clause-spared : goal.returns-clause-spared
returns-clause-spared g c = λ q s k behind told window held has.
    let extent = c.args.sought.now.extent in
    let are = c.in-Some.ensures q s told.asked in
    let spot = subst (IsSpotBeside c.args.board.now (room_value c.args.room.now) c.in-Some.facts.behind (window_class c.args.window) c.args.sought.now.behind.now c.args.range.first extent) c.in-Some-2.is c.in_ok-at.ensures.spot in
    let taken = subst (λ n. HasRanges spot.taken (behind ++ taken_then q s k (window_space (window_class c.args.window)) n)) are.behind (spot.taken_is q s k behind told held) in
    let at = spot.spot_is.0 in
    let low = spot.spot_is.1 in
    in_yes q s k c.args.board.now (room_value c.args.room.now) told c.args.window window extent behind c.requires.extent c.args.range spot.taken taken
    (omega (arith, at, low)) c.in-Some-2.at at (room_value c.end_by.new.room)
    (c.if-not-end_by.ensures.ended q s k told window)
