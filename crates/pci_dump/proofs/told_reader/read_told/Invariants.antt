use Rattle.std.proofs.Common.{◌≡◌, ◌-◌, length}
use Rattle.judge_spec.proofs.ToldLengths.{read_length}
use Rattle.pci_dump.proofs.ToldTaken.{IsReadOn}
use Rattle.pci_dump.proofs.told_reader.read_told.Given as goal

abbrev pub invariant-loop-lines : goal.invariant-loop-lines
invariant-loop-lines g l = record {
  read : IsReadOn (g.S.Source.left l.initial.source) (g.S.Source.left l.source) l.lines;
  long : length l.chunk ≡ 4096;
  fine : g.S.Source.failures l.source ≡ g.S.Source.failures l.initial.source;
}

abbrev pub decreases-loop-lines : goal.decreases-loop-lines
decreases-loop-lines g l = 360537 - read_length l.lines
