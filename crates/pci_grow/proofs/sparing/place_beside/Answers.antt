use Rattle.std.proofs.Common.{arith, map, ap, sym, subst, List, ◌∙◌}
use Rattle.pci_spec.specs.System.{window_space}
use Rattle.settle_spec.specs.FirstPlace.{first_place}
use Rattle.settle_spec.specs.Lists.{list_of}
use Rattle.settle_spec.specs.Lists as lists
use Rattle.pci_base.specs.declared.range.Range.{Range}
use Rattle.pci_base.specs.Ranges.{decoded_range_of}
use Rattle.pci_base.specs.WindowKinds.{kind_value}
use Rattle.pci_first_fit.specs.Lists.{lists_value}
use Rattle.pci_first_fit.specs.Spots.{extent_value, FirstsRise}
use Rattle.pci_grow.specs.Lists.{ranges_had}
use Rattle.pci_grow.specs.Board.{room_value}
use Rattle.pci_grow.proofs.SpareBeside.{plain_is}
use Rattle.pci_grow.proofs.sparing.place_beside.Goals as goal

pub returns-then-is_plain-clause-place : goal.returns-then-is_plain-clause-place
returns-then-is_plain-clause-place g c =
    let plain = c.is_plain.ensures c.if-is_plain.true in
    record {
      taken = c.row.result.now;
      taken_is = λ q s k held told has.
          plain_is q s k c.args.board.now (room_value c.args.room.now) told c.args.on.bus (omega arith) (window_space (kind_value c.args.on.class))
          c.args.sought.now.behind.now c.row.result.now held c.window_row-row.result has plain.0 plain.1 c.window_row-row.ensures.row c.row.ensures;
      place_is =
          c.first_place.ensures.place
          ∙ ap (λ (xs : List lists.RootRange). first_place (ranges_had c.args.on.bus xs) (map decoded_range_of c.row.result.now) (extent_value c.args.sought.now.extent)) c.of-list.ensures;
    }

pub returns-clause-place : goal.returns-clause-place
returns-clause-place g c = record {
  taken = c.in_ok-taken.taken.items;
  taken_is = c.in_ok-taken.ensures.taken;
  place_is =
      c.first_place-2.ensures.place
      ∙ ap (λ (xs : List lists.RootRange). first_place (ranges_had c.args.on.bus xs) (map decoded_range_of c.as_slice.result.now) (extent_value c.args.sought.now.extent)) c.of-list.ensures
      ∙ ap (λ (xs : List Range). first_place (ranges_had c.args.on.bus (list_of (lists_value c.args.board.now.lists.now) (kind_value c.args.on.class))) (map decoded_range_of xs) (extent_value c.args.sought.now.extent)) c.as_slice.ensures.value;
}

pub first_place-requires-clause-order : goal.first_place-requires-clause-order
first_place-requires-clause-order g c = subst FirstsRise (sym c.row.ensures) (c.requires.room.order c.window_row-row.result)
