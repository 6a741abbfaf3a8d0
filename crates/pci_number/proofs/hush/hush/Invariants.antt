use Rattle.std.proofs.Common.{◌≡◌, ◌≤◌, ◌+◌, ◌*◌}
use Rattle.pci_number.specs.Accesses.{most_of_look, most_of_three}
use Rattle.pci_number.specs.Hushing.{IsHushing}
use Rattle.pci_number.proofs.Few.{IsHushCounted}
use Rattle.pci_number.specs.Less.{IsHushStanding}
use Rattle.pci_number.specs.Stood.{board_moment}
use Rattle.pci_number.proofs.hush.hush.Given as goal

abbrev pub invariant-loop-place : goal.invariant-loop-place
invariant-loop-place g l = record {
  hushing : IsHushing (g.P.BoardPort.board l.initial.port) l.bus l.place l.more l.bridges (g.P.BoardPort.board l.port);
  standing : IsHushStanding (board_moment (g.P.BoardPort.board l.initial.port) (g.P.BoardPort.history l.initial.port)) l.bus l.place l.more (board_moment (g.P.BoardPort.board l.port) (g.P.BoardPort.history l.port));
  counted : g.P.BoardPort.failures l.port ≡ g.P.BoardPort.failures l.initial.port;
  few : IsHushCounted (g.P.BoardPort.board l.initial.port) l.bus l.place l.more (g.P.BoardPort.board l.port) (g.P.BoardPort.writes l.initial.port) (g.P.BoardPort.writes l.port);
  bounded : g.P.BoardPort.accesses l.port ≤ g.P.BoardPort.accesses l.initial.port + (most_of_look + most_of_three) * l.place;
}
