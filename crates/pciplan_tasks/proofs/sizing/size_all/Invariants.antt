use Rattle.std.proofs.Common.{◌≡◌, take}
use Rattle.pciplan_tasks.proofs.sizing.size_all.Given as goal

abbrev pub invariant-loop-i : goal.invariant-loop-i
invariant-loop-i g l = (l.found ≡ take l.i l.probes) × (l.machine ≡ l.initial.machine)
