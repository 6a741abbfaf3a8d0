use Rattle.std.proofs.Common.{◌≡◌, ◌<◌, ℕ, [], length, get_or}
use Rattle.pci_spec.specs.System.{System}
use Rattle.judge_spec.specs.Told.{ToldRange}
use Rattle.settle_spec.specs.Lists.{Request}
use Rattle.pci_tree.specs.Roots.{buses_of}
use Rattle.pci_kept.specs.declared.told_line.ToldLine.{ToldLine}
use Rattle.pci_kept.specs.Boards.{IsTree}
use Rattle.pci_kept.specs.ToldLines.{IsToldLineOf}
use Rattle.pci_kept.proofs.told_line.told_lines.Given as goal

abbrev pub invariant-loop-range : goal.invariant-loop-range
invariant-loop-range g l = record {
  size : length l.lines.items ≡ l.range-index;
  each : (q : Request) (s : System) → IsTree q s l.records → q.roots ≡ buses_of l.roots → q.told.ranges ≡ l.ranges → q.told.asleep ≡ []
      → (k : ℕ) (d : ToldLine) (t : ToldRange) → k < l.range-index → IsToldLineOf q s (get_or l.ranges k t) (get_or l.lines.items k d);
}
