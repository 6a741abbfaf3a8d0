use Rattle.std.proofs.Common.{◌≡◌, take}
use Rattle.pciplan_tasks.specs.Slots.{slots_shown}
use Rattle.pciplan_tasks.proofs.slots.slots_shown.Given as goal

abbrev pub invariant-loop-block : goal.invariant-loop-block
invariant-loop-block g l = l.slots.items ≡ slots_shown (take l.block-index l.dump)
