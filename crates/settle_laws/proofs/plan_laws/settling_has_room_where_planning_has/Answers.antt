use Rattle.settle_laws.proofs.PlannedRoots.{settles_where_planned, windows_are_no_larger}
use Rattle.settle_laws.proofs.PoolLists.{can_settle_where_planned}
use Rattle.settle_laws.proofs.plan_laws.settling_has_room_where_planning_has.Goals as goal

pub returns-clause-windows : goal.returns-clause-windows
returns-clause-windows c = windows_are_no_larger

pub returns-clause-room : goal.returns-clause-room
returns-clause-room c = settles_where_planned

pub returns-clause-can : goal.returns-clause-can
returns-clause-can c = can_settle_where_planned
