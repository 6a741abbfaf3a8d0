use Rattle.std.proofs.Common.{◌+◌, ◌/◌, ◌%◌, arith}
use Rattle.pci_picture.proofs.Titles as titles
use Rattle.pci_picture.proofs.board.Board.fault_title.Goals as goal

pub returns : goal.returns
returns g c =
    titles.fault_title (48 + c.args.fault.now.number / 10 % 10) (48 + c.args.fault.now.number % 10) c.unwrap_or.result.now c.in_ok-title.title.bytes.items c.put.new.self.bytes.items
    (omega arith) (omega arith) c.in_ok-title.ensures c.in_ok-put.ensures
