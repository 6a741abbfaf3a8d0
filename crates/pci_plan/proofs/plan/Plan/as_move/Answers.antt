use Rattle.pci_plan.proofs.PlanMoves.{plan_moves}
use Rattle.pci_plan.proofs.plan.Plan.as_move.Goals as goal

pub of-requires : goal.of-requires
of-requires g c = rw (c.start.ensures.value, c.blocks-2.ensures.value, c.dump.ensures.value, c.writes.ensures.value, c.safe_from.ensures.value) (plan_moves c.args.self.now c.start.ensures.plan)
