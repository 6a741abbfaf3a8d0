use Rattle.std.proofs.Common.{◌≡◌, ◌≤◌, ◌<◌, ℕ, false, get_or}
use Rattle.judge_spec.specs.Told.{ToldRange}
use Rattle.pci_kept.specs.declared.told_line.ToldLine.{ToldLine}
use Rattle.pci_kept.specs.ToldLines.{leads_to_line}
use Rattle.pci_kept.proofs.leads.leads_to_some.Given as goal

abbrev pub invariant-loop-at : goal.invariant-loop-at
invariant-loop-at l =
    (j e : ℕ) (t : ToldRange) (d : ToldLine) → l.from ≤ j → j < l.at
    → leads_to_line l.any l.region (get_or l.reachable.told.ranges.now (get_or l.reachable.indexes.now j e) t) (get_or l.reachable.told.lines.now (get_or l.reachable.indexes.now j e) d) ≡ false
