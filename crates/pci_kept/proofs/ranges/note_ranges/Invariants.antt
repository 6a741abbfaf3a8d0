use Rattle.std.proofs.Common.{◌≡◌, length, map}
use Rattle.pci_spec.specs.System.{System}
use Rattle.settle_spec.specs.Lists.{Request}
use Rattle.settle_spec.specs.Lines.{is_held_line}
use Rattle.settle_laws.specs.StandingTold.Passes.{AreRangesInOrder}
use Rattle.pci_kept.specs.ApartRows.{AreApartRows}
use Rattle.pci_kept.specs.Boards.{IsTree}
use Rattle.pci_kept.specs.LineRows.{AreRowsOfKeptLines}
use Rattle.pci_kept.specs.Passing.{AreStanding}
use Rattle.pci_kept.specs.RangePass.{ArePartRows, AreRangesPassed, region_at}
use Rattle.pci_kept.specs.ToldLines.{AreToldLines}
use Rattle.pci_kept.proofs.ranges.note_ranges.Given as goal

abbrev pub invariant-loop-turn : goal.invariant-loop-turn
invariant-loop-turn g l = record {
  size : length l.flags ≡ length l.told.ranges.now;
  apart : AreApartRows l.taken.items;
  passed : (q : Request) (s : System) → IsTree q s l.ground.records.now → q.told.ranges ≡ l.told.ranges.now → AreStanding q s l.ground.table.now → AreRowsOfKeptLines q is_held_line l.ground.held.rows.now → ArePartRows q s l.ground.parts.rows.now
      → AreToldLines q s l.told.lines.now → AreRangesInOrder q s (map (region_at q) l.turns) → AreRangesPassed q s (map (region_at q) l.turns) 0 l.fn.taken.items l.fn.flags → AreRangesPassed q s (map (region_at q) l.turns) l.turn-index l.taken.items l.flags;
}
