use Rattle.std.proofs.Common.{arith}
use Rattle.pci_picture.proofs.SideBySide.{width_of_lane}
use Rattle.pci_picture.proofs.lanes.width_of.Goals as goal

pub returns-then-seat-clause-lane : goal.returns-then-seat-clause-lane
returns-then-seat-clause-lane c =
    width_of_lane c.args.outer c.args.seat.lane c.args.lanes c.lanes_to.result _ c.lanes_to.ensures.least c.lanes_to.ensures.most
    (λ less. let more = c.lanes_to.ensures.more (omega (arith, less)) in omega arith)
    c.lane_left-begin.ensures c.lane_left-end.ensures (λ rises. (omega arith, omega arith))

pub returns-else-seat-clause-lane : goal.returns-else-seat-clause-lane
returns-else-seat-clause-lane c =
    width_of_lane c.args.outer c.args.seat.lane c.args.lanes c.lanes_to.result _ c.lanes_to.ensures.least c.lanes_to.ensures.most
    (λ less. let more = c.lanes_to.ensures.more (omega (arith, less)) in omega arith)
    c.lane_left-begin.ensures c.lane_left-end.ensures (λ rises. (rises, omega arith))
