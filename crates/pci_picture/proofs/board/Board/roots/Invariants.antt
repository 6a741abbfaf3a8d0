use Rattle.std.proofs.Common.{◌≡◌, ◌<◌, ℕ, length, get_or}
use Rattle.pci_picture.specs.Roots.{root_bus_of, listed_functions}
use Rattle.pci_picture.proofs.board.Board.roots.Given as goal

abbrev pub invariant-loop-bus : goal.invariant-loop-bus
invariant-loop-bus g l = record {
  size : length l.roots ≡ 256;
  known : (bus : ℕ) → bus < l.bus → get_or l.roots bus 0 ≡ root_bus_of (listed_functions l.self.functions.items) bus;
}
