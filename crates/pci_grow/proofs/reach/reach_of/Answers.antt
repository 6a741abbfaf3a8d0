use Rattle.std.proofs.Common.{◌<◌, length, get_or, rules}
use Rattle.settle_spec.specs.Reach.{reach}
use Rattle.pci_base.specs.WindowKinds.{kind_value}
use Rattle.pci_place.specs.Items.{function_in}
use Rattle.pci_grow.specs.Reaches.{given_value}
use Rattle.pci_grow.proofs.StandingRows.{no_region, rows_rise, apart_in_rows}
use Rattle.pci_grow.proofs.Reached.{known, has_record, record_is, is_bridge_own, told_none, told_fixed, told_some, slot_same, is_among, page_among}
use Rattle.pci_grow.proofs.LinesBeside.{have_ranges}
use Rattle.pci_grow.proofs.NearestOf.{apart_also}
use Rattle.pci_grow.proofs.reach.reach_of.Goals as goal

pub returns-in_default : goal.returns-in_default
returns-in_default c = λ q s d is.
    told_none q s c.args.board.now.records.now (given_value c.args.board.now) c.args.rows.now is.stand c.args.index no_region c.requires.index c.args.class (c.requires.part no_region) c.room_around.result
    (c.room_around.ensures q s (reach q s (kind_value c.args.class)) is.stand.board (known q s c.args.board.now.records.now (given_value c.args.board.now) c.args.rows.now is.stand c.args.index no_region c.requires.index) (c.requires.part no_region) (is.over no_region))
    d c.in_default.is

pub returns-then-region : goal.returns-then-region
returns-then-region c = λ q s d is.
    told_fixed q s c.args.board.now.records.now (given_value c.args.board.now) c.args.rows.now is.stand c.args.index no_region c.requires.index c.args.class (c.requires.part no_region) c.room_around.result
    (c.room_around.ensures q s (reach q s (kind_value c.args.class)) is.stand.board (known q s c.args.board.now.records.now (given_value c.args.board.now) c.args.rows.now is.stand c.args.index no_region c.requires.index) (c.requires.part no_region) (is.over no_region))
    d c.in-Some.room c.in-Some.is c.if-region.true

pub bounds-board-region : goal.bounds-board-region
bounds-board-region c = (let told = c.requires.told in has_record told.0 told.1 c.args.board.now.records.now (given_value c.args.board.now) c.args.rows.now told.2.stand c.args.index no_region c.requires.index)

pub offset_bounds-board-region : goal.offset_bounds-board-region
offset_bounds-board-region c =
    let told = c.requires.told in
    let less : (get_or c.args.rows.now c.args.index no_region).function < length c.args.board.now.records.now =
    has_record told.0 told.1 c.args.board.now.records.now (given_value c.args.board.now) c.args.rows.now told.2.stand c.args.index no_region c.requires.index in
    search rules

pub with_neighbours-among-requires-clause-order : goal.with_neighbours-among-requires-clause-order
with_neighbours-among-requires-clause-order c =
    let told = c.requires.told in
    rows_rise told.0 told.1 told.2.stand.board.system told.2.stand.board.nested c.args.rows.now told.2.stand.has

pub beside_lines-among-requires-clause-order : goal.beside_lines-among-requires-clause-order
beside_lines-among-requires-clause-order c = c.requires.told.2.stand.line_rows.order

pub beside_lines-among-requires-clause-ranges : goal.beside_lines-among-requires-clause-ranges
beside_lines-among-requires-clause-ranges c =
    let told = c.requires.told in
    have_ranges told.0 told.1 c.args.board.now.told.now told.2.stand.told_is c.args.board.now.lines.now told.2.stand.lines

pub reach_in-requires-clause-apart : goal.reach_in-requires-clause-apart
reach_in-requires-clause-apart c =
    let told = c.requires.told in
    apart_also _ _ _ c.beside_lines-among.ensures
    (c.with_neighbours-among.ensures.apart (apart_in_rows told.0 told.1 told.2.stand.board.system told.2.stand.board.nested c.args.rows.now told.2.stand.has))

pub reach_in-requires-clause-page : goal.reach_in-requires-clause-page
reach_in-requires-clause-page c =
    let told = c.requires.told in
    let q = told.0 in
    let s = told.1 in
    let is = told.2 in
    page_among q s c.args.board.now.records.now (given_value c.args.board.now) c.args.rows.now is.stand c.args.index no_region c.requires.index c.args.class (c.requires.part no_region)
    c.with_neighbours-among.result c.with_neighbours-among.ensures.window c.with_neighbours-among.ensures.below c.with_neighbours-among.ensures.above
    c.beside_lines-among.result _ (slot_same q s c.args.board.now.records.now (given_value c.args.board.now) c.args.rows.now is.stand c.args.index no_region c.requires.index c.index-board-region.result) c.beside_lines-among.ensures
    c.room_around.result
    (c.room_around.ensures q s (reach q s (kind_value c.args.class)) is.stand.board (known q s c.args.board.now.records.now (given_value c.args.board.now) c.args.rows.now is.stand c.args.index no_region c.requires.index) (c.requires.part no_region) (is.over no_region))
    c.in-Some.room c.in-Some.is c.if-region.false

pub returns : goal.returns
returns c = λ q s d is.
    let own = function_in s (get_or c.args.rows.now c.args.index no_region).function in
    told_some q s c.args.board.now.records.now (given_value c.args.board.now) c.args.rows.now is.stand c.args.index no_region c.requires.index c.args.class (c.requires.part no_region) c.room_around.result
    (c.room_around.ensures q s (reach q s (kind_value c.args.class)) is.stand.board (known q s c.args.board.now.records.now (given_value c.args.board.now) c.args.rows.now is.stand c.args.index no_region c.requires.index) (c.requires.part no_region) (is.over no_region))
    d c.in-Some.room c.in-Some.is c.if-region.false c.reach_in.result
    (c.reach_in.ensures q s own
    (is_among q s c.args.board.now.records.now (given_value c.args.board.now) c.args.rows.now is.stand c.args.index no_region c.requires.index c.args.class (c.requires.part no_region)
    c.with_neighbours-among.result c.with_neighbours-among.ensures.window c.with_neighbours-among.ensures.below c.with_neighbours-among.ensures.above
    c.beside_lines-among.result _ (slot_same q s c.args.board.now.records.now (given_value c.args.board.now) c.args.rows.now is.stand c.args.index no_region c.requires.index c.index-board-region.result) c.beside_lines-among.ensures
    c.highest_of.result
    (c.highest_of.ensures s own (record_is q s c.args.board.now.records.now (given_value c.args.board.now) c.args.rows.now is.stand c.args.index no_region c.requires.index c.index-board-region.result)
    (is_bridge_own q s c.args.board.now.records.now (given_value c.args.board.now) c.args.rows.now is.stand c.args.index no_region c.requires.index c.args.class (c.requires.part no_region)))))
