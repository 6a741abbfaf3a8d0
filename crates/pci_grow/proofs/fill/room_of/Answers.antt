-- What the rows have once all parts are in them.
use Rattle.std.proofs.Common.{◌∙◌, map, length, ap, sym, subst, refl}
use Rattle.std.specs.Vec.{with_items}
use Rattle.std.proofs.lemmas.List.{length-map}
use Rattle.pci_tree.specs.Roots.{buses_of}
use Rattle.pci_grow.specs.Board.{IsRoomOfKept}
use Rattle.pci_first_fit.specs.Spots.{FirstsRise}
use Rattle.pci_grow.specs.RoomRows.{row_at}
use Rattle.pci_grow.specs.LastPlaces.{LastsRise}
use Rattle.pci_grow.proofs.Rooms.{rewritten}
use Rattle.pci_grow.proofs.Filled.{empty_rows, told_first, put_from, sorted_from}
use Rattle.pci_grow.proofs.fill.room_of.Goals as goal

pub returns-clause-room : goal.returns-clause-room
returns-clause-room g c =
    let rows = c.in_ok-rows.rows in
    let first = with_items rows c.put_all.new.rows in
    let second = with_items first c.put_all-2.new.rows in
    let first_is = rewritten rows c.as_mut_slice.result.now c.put_all.new.rows c.as_mut_slice.ensures.value c.put_all.ensures.count in
    let second_is = rewritten first c.as_mut_slice-2.result.now c.put_all-2.new.rows c.as_mut_slice-2.ensures.value c.put_all-2.ensures.count in
    let third_is = rewritten second c.as_mut_slice-3.result.now c.sort_rows.new.rows c.as_mut_slice-3.ensures.value c.sort_rows.ensures.count in
    record {
      wished = c.in_ok-wished.ensures.count;
      rows =
          length-map _ _ ∙ ap length third_is ∙ c.sort_rows.ensures.count ∙ ap length (c.as_mut_slice-3.ensures.value ∙ second_is)
          ∙ c.put_all-2.ensures.count ∙ ap length (c.as_mut_slice-2.ensures.value ∙ first_is) ∙ c.put_all.ensures.count ∙ ap length c.as_mut_slice.ensures.value ∙ c.in_ok-rows.ensures.count;
      flags = c.in_ok-rising.ensures.count ∙ ap length (c.as_slice-2.ensures.value ∙ third_is) ∙ c.sort_rows.ensures.count ∙ ap length (c.as_mut_slice-3.ensures.value ∙ second_is)
          ∙ c.put_all-2.ensures.count ∙ ap length (c.as_mut_slice-2.ensures.value ∙ first_is) ∙ c.put_all.ensures.count ∙ ap length c.as_mut_slice.ensures.value ∙ c.in_ok-rows.ensures.count;
      rising = λ n flag. subst (λ xs. LastsRise (row_at (map (λ v. v.items) xs) n)) c.as_slice-2.ensures.value (c.in_ok-rising.ensures.rising n flag);
      order = λ n. subst (λ xs. FirstsRise (row_at (map (λ v. v.items) xs) n)) (sym third_is) (c.sort_rows.ensures.sorted.order n);
    }

pub returns-clause-told : goal.returns-clause-told
returns-clause-told g c = λ q s k asked tells own.
    let rows = c.in_ok-rows.rows in
    let first = with_items rows c.put_all.new.rows in
    let second = with_items first c.put_all-2.new.rows in
    let first_is = rewritten rows c.as_mut_slice.result.now c.put_all.new.rows c.as_mut_slice.ensures.value c.put_all.ensures.count in
    let second_is = rewritten first c.as_mut_slice-2.result.now c.put_all-2.new.rows c.as_mut_slice-2.ensures.value c.put_all-2.ensures.count in
    let third_is = rewritten second c.as_mut_slice-3.result.now c.sort_rows.new.rows c.as_mut_slice-3.ensures.value c.sort_rows.ensures.count in
    subst (λ xs. IsRoomOfKept q s k c.args.board.now (record { wished = c.in_ok-wished.wished.items; rows = map (λ v. v.items) xs; rising = c.in_ok-rising.rising.items })) (sym third_is)
    (told_first q s k c.args.board.now asked tells c.args.own.now c.in_ok-windows.windows.items own (λ weight n. c.in_ok-windows.ensures q s asked weight n)
    (map (λ v. v.items) rows.items) (map (λ v. v.items) c.put_all.new.rows) (map (λ v. v.items) c.put_all-2.new.rows) (map (λ v. v.items) c.sort_rows.new.rows)
    (empty_rows rows.items c.in_ok-rows.ensures.none)
    (put_from (buses_of c.args.board.now.roots.now) q.roots c.args.own.now c.args.own.now (map (λ v. v.items) rows.items) (map (λ v. v.items) c.as_mut_slice.result.now) (map (λ v. v.items) c.put_all.new.rows) (sym asked.roots) refl (ap (map (λ v. v.items)) c.as_mut_slice.ensures.value) c.in_ok-put_all.ensures.put)
    (put_from (buses_of c.args.board.now.roots.now) q.roots c.in_ok-windows.windows.items c.as_slice.result.now (map (λ v. v.items) c.put_all.new.rows) (map (λ v. v.items) c.as_mut_slice-2.result.now) (map (λ v. v.items) c.put_all-2.new.rows) (sym asked.roots) c.as_slice.ensures.value (ap (map (λ v. v.items)) (c.as_mut_slice-2.ensures.value ∙ first_is)) c.in_ok-put_all-2.ensures.put)
    (sorted_from (map (λ v. v.items) c.put_all-2.new.rows) (map (λ v. v.items) c.as_mut_slice-3.result.now) (map (λ v. v.items) c.sort_rows.new.rows) (ap (map (λ v. v.items)) (c.as_mut_slice-3.ensures.value ∙ second_is)) c.sort_rows.ensures.sorted)
    c.in_ok-wished.wished.items c.in_ok-wished.ensures.none c.in_ok-rising.rising.items)
