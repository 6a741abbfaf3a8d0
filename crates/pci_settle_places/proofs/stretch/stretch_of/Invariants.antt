use Rattle.std.proofs.Common.{◌≡◌, ℕ, ◌<◌, get_or}
use Rattle.pci_first_fit.specs.declared.lines.Line.{Line}
use Rattle.pci_settle_places.specs.Stretches.{IsCoveredBy}
use Rattle.pci_settle_places.proofs.stretch.stretch_of.Given as goal

abbrev pub invariant-loop-row : goal.invariant-loop-row
invariant-loop-row l = record {
  rows : l.stretch.rows.now ≡ l.rows;
  covered : (k : ℕ) (d : Line) → k < l.row-index → IsCoveredBy l.stretch (get_or l.rows k d);
}
