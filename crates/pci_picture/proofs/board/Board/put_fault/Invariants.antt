use Rattle.std.proofs.Common.{◌≡◌, ◌≤◌, ◌-◌, ◌++◌, drop, length, map}
use Rattle.std.specs.List.{slice_range}
use Rattle.pci_picture.specs.Said.{said_lines}
use Rattle.pci_picture.proofs.board.Board.put_fault.Given as goal

abbrev pub invariant-loop-index : goal.invariant-loop-index
invariant-loop-index g l = record {
  from : l.fault.begin ≤ l.index;
  to : l.index - l.fault.begin ≤ l.fault.end - l.fault.begin;
  said : l.fault.end ≤ length l.self.faults.lines.items
      → l.words.bytes.items
      ≡ l.initial.words.bytes.items ++ drop 1 (said_lines (slice_range (map (λ line. line.now) l.self.faults.lines.items) l.fault.begin l.index));
}
