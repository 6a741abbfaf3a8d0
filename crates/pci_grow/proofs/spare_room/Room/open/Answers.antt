use Rattle.std.proofs.Common.{◌<◌, sym, subst, ◌∙◌, ap, length, map, set, arith}
use Rattle.pci_first_fit.specs.Tables.{told}
use Rattle.pci_first_fit.specs.Spots.{FirstsRise}
use Rattle.pci_grow.specs.LastPlaces.{LastsRise}
use Rattle.pci_grow.proofs.Rooms.{row_of, row_put, row_rest, rows_long, rows_order, rows_rising, rewritten, added_in, tells_in}
use Rattle.pci_grow.proofs.spare_room.Room.open.Goals as goal

pub add-requires : goal.add-requires
add-requires g c =
    subst FirstsRise (sym (row_of c.args.self.now.rows.items c.args.row c.index_mut.result.now c.requires.row c.index_mut.ensures.value)) (c.requires.order c.args.row)

pub returns-in_err-add-clause-room : goal.returns-in_err-add-clause-room
returns-in_err-add-clause-room g c = λ functions room. record {
  wished = room.wished;
  rows = rows_long c.args.self.now.rows.items c.args.row c.add.new.row ∙ room.rows;
  flags = room.flags;
  rising = rows_rising c.args.self.now.rows.items c.args.row c.add.new.row c.args.self.now.rising.items c.args.self.now.rising.items c.requires.row room.rising (λ m flag. flag)
      (λ flag. subst LastsRise (sym (c.in_err-add.ensures.same ∙ row_of c.args.self.now.rows.items c.args.row c.index_mut.result.now c.requires.row c.index_mut.ensures.value)) (room.rising c.args.row flag));
  order = rows_order c.args.self.now.rows.items c.args.row c.add.new.row c.requires.row c.requires.order c.add.ensures.order;
}

pub returns-clause-opened : goal.returns-clause-opened
returns-clause-opened g c =
    let rows = c.args.self.now.rows.items in
    let was = row_of rows c.args.row c.index_mut.result.now c.requires.row c.index_mut.ensures.value in
    let table = rewritten c.args.self.now.wished c.as_mut_slice.result.now c.tell.new.table c.as_mut_slice.ensures.value c.tell.ensures.count in
    record {
      told_is = ap (λ t. told t c.args.window.bridge c.args.window.class) table ∙ c.tell.ensures.told;
      others = tells_in _ _ _ _ _ _ c.as_mut_slice.ensures.value table c.tell.ensures.others;
      added = added_in _ _ _ _ _ was (row_put rows c.args.row c.add.new.row c.requires.row) c.in_ok-add.ensures.added;
      rest = row_rest rows c.args.row c.add.new.row;
    }

pub returns-clause-room : goal.returns-clause-room
returns-clause-room g c = λ functions room.
    let rows = c.args.self.now.rows.items in
    let within : c.args.row < length (map (λ v. v.items) (set rows c.args.row c.add.new.row)) =
    (let long = rows_long rows c.args.row c.add.new.row in let low = c.requires.row in omega (arith, long, low)) in
    let to_new = c.as_slice.ensures.value ∙ row_of (set rows c.args.row c.add.new.row) c.args.row c.index.result.now within c.index.ensures ∙ row_put rows c.args.row c.add.new.row c.requires.row in
    let table = rewritten c.args.self.now.wished c.as_mut_slice.result.now c.tell.new.table c.as_mut_slice.ensures.value c.tell.ensures.count in
    record {
      wished = ap length table ∙ c.tell.ensures.count ∙ ap length c.as_mut_slice.ensures.value ∙ room.wished;
      rows = rows_long c.args.self.now.rows.items c.args.row c.add.new.row ∙ room.rows;
      flags = c.note.ensures.count ∙ room.flags;
      rising = rows_rising c.args.self.now.rows.items c.args.row c.add.new.row c.args.self.now.rising.items c.note.new.flags.items c.requires.row room.rising c.note.ensures.others
          (λ flag. subst LastsRise to_new (c.lasts_rise-rising.ensures (c.note.ensures.own flag)));
      order = rows_order c.args.self.now.rows.items c.args.row c.add.new.row c.requires.row c.requires.order c.add.ensures.order;
    }
