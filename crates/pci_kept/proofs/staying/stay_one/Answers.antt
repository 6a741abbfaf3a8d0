use Rattle.std.proofs.Common.{get_or, sym, ◌∙◌}
use Rattle.std.proofs.lemmas.List.{get_or_default}
use Rattle.std.proofs.lemmas.List.Elements.{Contains-get_or}
use Rattle.pci_kept.proofs.Stays.{known_of_code, stayed_same, stayed_less}
use Rattle.pci_kept.proofs.staying.stay_one.Goals as goal

pub returns-then-not-is_in_place : goal.returns-then-not-is_in_place
returns-then-not-is_in_place c = λ q s holds board parts stand was.
    let rs = c.args.board.now.regions.now in
    let x = get_or rs c.args.index _ in
    let x_is = get_or_default rs c.args.index _ x c.requires.index in
    let known = known_of_code q s board.system board.nested holds stand rs parts x (Contains-get_or rs c.args.index _ c.requires.index) in
    let place = c.is_in_place.ensures q s board known was.opens in
    stayed_less q s board.system board.nested holds stand rs parts c.args.index x c.requires.index x_is c.args.table.now was
    (sym place ∙ c.if-not-is_in_place.true) c.clear.new.self c.clear.ensures.cleared c.clear.ensures.others

pub returns-else-not-is_in_place : goal.returns-else-not-is_in_place
returns-else-not-is_in_place c = λ q s holds board parts stand was.
    let rs = c.args.board.now.regions.now in
    let x = get_or rs c.args.index _ in
    let x_is = get_or_default rs c.args.index _ x c.requires.index in
    let known = known_of_code q s board.system board.nested holds stand rs parts x (Contains-get_or rs c.args.index _ c.requires.index) in
    let place = c.is_in_place.ensures q s board known was.opens in
    stayed_same q s board.system board.nested holds stand rs parts c.args.index x c.requires.index x_is c.args.table.now was (sym place ∙ c.if-not-is_in_place.false)
