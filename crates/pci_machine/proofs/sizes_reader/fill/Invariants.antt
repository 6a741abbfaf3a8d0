use Rattle.std.proofs.Common.{◌≡◌, ◌<◌, ◌≤◌, ◌-◌, true, cond, length, take}
use Rattle.std.specs.Io.KnownBytes.{Consumes, IsAtEnd}
use Rattle.pci_machine.proofs.sizes_reader.fill.Given as goal

abbrev pub invariant-loop-drained : goal.invariant-loop-drained
invariant-loop-drained g l = record {
  few : l.len ≤ 8160;
  long : length l.chunk ≡ 8160;
  bytes : Consumes (g.S.Source.left l.initial.source) (g.S.Source.left l.source) (take l.len l.chunk);
  over : l.drained ≡ true → l.len < 8160 → IsAtEnd (g.S.Source.left l.source);
  fine : g.S.Source.failures l.source ≡ g.S.Source.failures l.initial.source;
}

abbrev pub decreases-loop-drained : goal.decreases-loop-drained
decreases-loop-drained g l = cond l.drained 0 (8161 - l.len)
