use Rattle.std.proofs.Common.{arith, refl}
use Rattle.pci_picture.proofs.Starts.{on_bus_between}
use Rattle.pci_picture.proofs.board.Board.on_bus.Goals as goal

pub returns : goal.returns
returns g c =
    on_bus_between c.args.self.now.functions.items c.args.self.now.starts c.args.bus _ _ (omega arith) c.args.self.now.sorted c.args.self.now.begins refl refl
