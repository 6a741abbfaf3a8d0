use Rattle.std.proofs.Common.{sym, subst, ◌∙◌, ap, length}
use Rattle.std.specs.Vec.{with_items}
use Rattle.pci_first_fit.specs.Tables.{told}
use Rattle.pci_first_fit.specs.Spots.{FirstsRise}
use Rattle.pci_grow.specs.LastPlaces.{LastsRise}
use Rattle.pci_grow.proofs.Rooms.{row_of, row_put, row_rest, rows_long, rows_order, rows_rising, rewritten, ended_in, tells_in}
use Rattle.pci_grow.proofs.spare_room.Room.end_later.Goals as goal

pub returns-clause-ended : goal.returns-clause-ended
returns-clause-ended g c =
    let rows = c.args.self.now.rows.items in
    let put = with_items c.index_mut.result.now c.end_later-rising.new.row in
    let was = c.as_mut_slice.ensures.value ∙ row_of rows c.args.row c.index_mut.result.now c.requires.row c.index_mut.ensures.value in
    let row = rewritten c.index_mut.result.now c.as_mut_slice.result.now c.end_later-rising.new.row c.as_mut_slice.ensures.value c.end_later-rising.ensures.count in
    let table = rewritten c.args.self.now.wished c.as_mut_slice-2.result.now c.tell.new.table c.as_mut_slice-2.ensures.value c.tell.ensures.count in
    record {
      told_is = ap (λ t. told t c.args.window.bridge c.args.window.class) table ∙ c.tell.ensures.told;
      others = tells_in _ _ _ _ _ _ c.as_mut_slice-2.ensures.value table c.tell.ensures.others;
      ended = ended_in _ _ _ _ _ _ was (row_put rows c.args.row put c.requires.row ∙ row) c.end_later-rising.ensures.ended;
      rest = row_rest rows c.args.row put;
    }

pub returns-clause-room : goal.returns-clause-room
returns-clause-room g c = λ functions room.
    let rows = c.args.self.now.rows.items in
    let put = with_items c.index_mut.result.now c.end_later-rising.new.row in
    let was = c.as_mut_slice.ensures.value ∙ row_of rows c.args.row c.index_mut.result.now c.requires.row c.index_mut.ensures.value in
    let row = rewritten c.index_mut.result.now c.as_mut_slice.result.now c.end_later-rising.new.row c.as_mut_slice.ensures.value c.end_later-rising.ensures.count in
    let table = rewritten c.args.self.now.wished c.as_mut_slice-2.result.now c.tell.new.table c.as_mut_slice-2.ensures.value c.tell.ensures.count in
    record {
      wished = ap length table ∙ c.tell.ensures.count ∙ ap length c.as_mut_slice-2.ensures.value ∙ room.wished;
      rows = rows_long rows c.args.row put ∙ room.rows;
      flags = c.note.ensures.count ∙ room.flags;
      rising = rows_rising rows c.args.row put c.args.self.now.rising.items c.note.new.flags.items c.requires.row room.rising c.note.ensures.others
          (λ flag. subst LastsRise (sym row) (c.end_later-rising.ensures.rising (subst LastsRise (sym was) (room.rising c.args.row (c.note.ensures.others c.args.row flag))) (c.note.ensures.own flag)));
      order = rows_order rows c.args.row put c.requires.row room.order (subst FirstsRise (sym row) (c.end_later-rising.ensures.order (subst FirstsRise (sym was) (room.order c.args.row))));
    }
