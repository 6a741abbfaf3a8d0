use Rattle.std.proofs.Common.{◌≡◌, ◌≤◌, ◌+◌, ◌*◌, ◌-◌, ◌%◌}
use Rattle.pci_number.specs.Spare.{IsLeftToSay}
use Rattle.pci_number.proofs.spare.has_hot_plug_slot.Given as goal

abbrev pub invariant-loop-n : goal.invariant-loop-n
invariant-loop-n g l = record {
  same : g.P.BoardPort.board l.port ≡ g.P.BoardPort.board l.initial.port;
  same_history : g.P.BoardPort.history l.port ≡ g.P.BoardPort.history l.initial.port;
  no_write : g.P.BoardPort.last_write l.port ≡ g.P.BoardPort.last_write l.initial.port;
  counted : g.P.BoardPort.failures l.port ≡ g.P.BoardPort.failures l.initial.port;
  no_more : g.P.BoardPort.writes l.port ≡ g.P.BoardPort.writes l.initial.port;
  bounded : g.P.BoardPort.accesses l.port ≤ g.P.BoardPort.accesses l.initial.port + 4 * l.n;
  aligned : l.place % 4 ≡ 0;
  says : IsLeftToSay (g.P.BoardPort.board l.initial.port) l.slot (48 - l.n) l.place;
}
