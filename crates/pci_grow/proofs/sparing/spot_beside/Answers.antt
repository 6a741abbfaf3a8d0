use Rattle.std.proofs.Common.{arith, map, sym, subst, List}
use Rattle.pci_spec.specs.System.{window_space}
use Rattle.pci_base.specs.declared.range.Range.{Range}
use Rattle.pci_base.specs.Ranges.{decoded_range_of}
use Rattle.pci_base.specs.WindowKinds.{kind_value}
use Rattle.pci_first_fit.specs.Spots.{FirstsRise}
use Rattle.pci_grow.specs.Board.{room_value}
use Rattle.pci_grow.specs.Endings.{IsSpotBelow}
use Rattle.pci_grow.proofs.SpareBeside.{plain_is}
use Rattle.pci_grow.proofs.sparing.spot_beside.Goals as goal

pub returns-then-is_plain-clause-spot : goal.returns-then-is_plain-clause-spot
returns-then-is_plain-clause-spot g c =
    let plain = c.is_plain.ensures c.if-is_plain.true in
    record {
      taken = c.row.result.now;
      taken_is = λ q s k held told has.
          plain_is q s k c.args.board.now (room_value c.args.room.now) told c.args.on.bus (omega arith) (window_space (kind_value c.args.on.class))
          c.args.sought.now.behind.now c.row.result.now held c.window_row-row.result has plain.0 plain.1 c.window_row-row.ensures.row c.row.ensures;
      spot_is = c.spot_below.ensures.spot;
    }

pub returns-clause-spot : goal.returns-clause-spot
returns-clause-spot g c = record {
  taken = c.in_ok-taken.taken.items;
  taken_is = c.in_ok-taken.ensures.taken;
  spot_is = subst (λ (xs : List Range). IsSpotBelow (map decoded_range_of xs) c.args.low c.args.sought.now.extent c.spot_below-2.result) c.as_slice.ensures.value c.spot_below-2.ensures.spot;
}

pub spot_below-requires-clause-order : goal.spot_below-requires-clause-order
spot_below-requires-clause-order g c = subst FirstsRise (sym c.row.ensures) (c.requires.room.order c.window_row-row.result)
