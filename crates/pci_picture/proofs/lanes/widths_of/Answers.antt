use Rattle.std.specs.List.{slice_index_or}
use Rattle.pci_picture.specs.Seats.{seat_at}
use Rattle.pci_picture.proofs.SideBySide.{all_between, all_ordered, between_more, columns_more, lane_read, length_more, placed_more}
use Rattle.pci_picture.proofs.lanes.widths_of.Goals as goal

pub loop-seat-preserved : goal.loop-seat-preserved
loop-seat-preserved g c =
    let seat = seat_at c.args.seats.now c.loop-seat.seat-index in
    let lane = lane_read c.args.whole c.as_slice.result.now c.loop-seat.widths.items seat.parent c.outer_of-outer.result seat.lane
    c.lanes_of-count.result (slice_index_or c.args.lanes.now seat.group 1) c.width_of.result
    c.outer_of-outer.ensures c.as_slice.ensures.value c.lanes_of-count.ensures c.width_of.ensures.lane in
    record {
      count = length_more c.loop-seat.widths.items c.push.new.self.items c.width_of.result c.loop-seat.seat-index c.loop-seat.invariant.count c.in_ok-push.ensures.items;
      placed = placed_more c.args.whole c.args.seats.now c.args.lanes.now c.loop-seat.widths.items c.push.new.self.items c.width_of.result
          c.loop-seat.seat-index c.loop-seat.invariant.count c.in_ok-push.ensures.items lane c.loop-seat.invariant.placed;
      inside = λ from le. between_more c.args.whole seat.parent seat.lane (slice_index_or c.args.lanes.now seat.group 1) c.loop-seat.widths.items c.push.new.self.items c.width_of.result
          c.in_ok-push.ensures.items from le lane (c.loop-seat.invariant.inside from le);
      columns = columns_more c.args.seats.now c.args.column c.loop-seat.widths.items c.push.new.self.items c.width_of.result c.loop-seat.seat-index
          c.loop-seat.invariant.count c.in_ok-push.ensures.items c.width_of.ensures.inner c.loop-seat.invariant.columns;
    }

pub returns-clause-inside : goal.returns-clause-inside
returns-clause-inside g c from le = all_between c.args.whole.left c.args.whole.right c.loop-seat.widths.items (c.loop-seat.invariant.inside from le)

pub returns-clause-ordered : goal.returns-clause-ordered
returns-clause-ordered g c = all_ordered c.args.whole c.args.seats.now c.args.lanes.now c.loop-seat.widths.items c.loop-seat.seat-index
    c.loop-seat.invariant.count c.loop-seat.invariant.placed
