use Rattle.std.proofs.Common.{◌≡◌, ◌≤◌, ◌-◌}
use Rattle.pci_number.proofs.Spent.{IsSpent}
use Rattle.pci_number.specs.Walking.{IsWalking}
use Rattle.pci_number.proofs.Few.{IsWalkCounted}
use Rattle.pci_number.specs.Single.{IsWalkStanding}
use Rattle.pci_number.specs.Walked.{outset}
use Rattle.pci_number.specs.Stood.{board_moment}
use Rattle.pci_number.proofs.walk.+number_bus.Given as goal

abbrev pub invariant-loop-place : goal.invariant-loop-place
invariant-loop-place g l = record {
  walking : IsWalking (g.P.BoardPort.board l.initial.port) (outset l.bus l.last l.spare l.fn.start) l.place l.more l.walk (g.P.BoardPort.board l.port);
  standing : IsWalkStanding (board_moment (g.P.BoardPort.board l.initial.port) (g.P.BoardPort.history l.initial.port)) (outset l.bus l.last l.spare l.fn.start) l.place l.more l.walk (board_moment (g.P.BoardPort.board l.port) (g.P.BoardPort.history l.port));
  above : l.fn.start.taken ≤ l.walk.taken;
  counted : g.P.BoardPort.failures l.port ≡ g.P.BoardPort.failures l.initial.port;
  few : IsWalkCounted (g.P.BoardPort.board l.initial.port) l.bus l.last l.fn.start l.place l.more l.walk (g.P.BoardPort.board l.port) (g.P.BoardPort.writes l.initial.port) (g.P.BoardPort.writes l.port);
  spent : IsSpent l.last (g.P.BoardPort.accesses l.initial.port) l.fn.start.taken l.place l.walk.taken (g.P.BoardPort.accesses l.port);
}

abbrev pub decreases-number_bus : goal.decreases-number_bus
decreases-number_bus g l = 256 - l.bus
