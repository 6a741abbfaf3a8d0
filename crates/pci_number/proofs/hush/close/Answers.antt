use Rattle.pci_number.proofs.Errs.{always_err}
use Rattle.pci_number.proofs.Puts.{left_second, left_third, closed_at}
use Rattle.pci_number.proofs.Closing.{close_first, close_second, close_third, close_done}
use Rattle.pci_number.proofs.hush.close.Goals as goal

pub returns-in_err-put-2-clause-left : goal.returns-in_err-put-2-clause-left
returns-in_err-put-2-clause-left g c =
    let board = g.P.BoardPort.board in
    always_err c.from_residual-in_err-put-2.result _
    (left_second (board c.args.port.now) (board c.put.new.port) (board c.put-2.new.port) c.args.slot c.in_ok-put.ensures.put c.in_err-put-2.ensures.left)

pub returns-in_err-put-3-clause-left : goal.returns-in_err-put-3-clause-left
returns-in_err-put-3-clause-left g c =
    let board = g.P.BoardPort.board in
    always_err c.from_residual-in_err-put-3.result _
    (left_third (board c.args.port.now) (board c.put.new.port) (board c.put-2.new.port) (board c.put-3.new.port) c.args.slot c.in_ok-put.ensures.put c.in_ok-put-2.ensures.put c.in_err-put-3.ensures.left)

pub returns-clause-closed : goal.returns-clause-closed
returns-clause-closed g c =
    let board = g.P.BoardPort.board in
    closed_at (board c.args.port.now) (board c.put.new.port) (board c.put-2.new.port) (board c.put-3.new.port) c.args.slot c.in_ok-put.ensures.put c.in_ok-put-2.ensures.put c.in_ok-put-3.ensures.put

pub returns-in_err-put-clause-stood : goal.returns-in_err-put-clause-stood
returns-in_err-put-clause-stood g c =
    let history = g.P.BoardPort.history in
    close_first (g.P.BoardPort.board c.args.port.now) (g.P.BoardPort.board c.put.new.port) c.args.slot (history c.args.port.now) (history c.put.new.port) c.from_residual.result c.from_residual.ensures.0 c.in_err-put.ensures.stood

pub returns-in_err-put-2-clause-stood : goal.returns-in_err-put-2-clause-stood
returns-in_err-put-2-clause-stood g c =
    let board = g.P.BoardPort.board in
    let history = g.P.BoardPort.history in
    close_second (board c.args.port.now) (board c.put.new.port) (board c.put-2.new.port) (board c.put-2.new.port) c.args.slot (history c.args.port.now) (history c.put.new.port) (history c.put-2.new.port) (history c.put-2.new.port)
    c.in_ok-put.ensures.put c.in_ok-put.ensures.stood c.from_residual-in_err-put-2.result c.from_residual-in_err-put-2.ensures.0 c.in_err-put-2.ensures.stood

pub returns-in_err-put-3-clause-stood : goal.returns-in_err-put-3-clause-stood
returns-in_err-put-3-clause-stood g c =
    let board = g.P.BoardPort.board in
    let history = g.P.BoardPort.history in
    close_third (board c.args.port.now) (board c.put.new.port) (board c.put-2.new.port) (board c.put-3.new.port) c.args.slot (history c.args.port.now) (history c.put.new.port) (history c.put-2.new.port) (history c.put-3.new.port)
    c.in_ok-put.ensures.put c.in_ok-put.ensures.stood c.in_ok-put-2.ensures.put c.in_ok-put-2.ensures.stood c.from_residual-in_err-put-3.result c.from_residual-in_err-put-3.ensures.0 c.in_err-put-3.ensures.stood

pub returns-clause-stood : goal.returns-clause-stood
returns-clause-stood g c =
    let board = g.P.BoardPort.board in
    let history = g.P.BoardPort.history in
    close_done (board c.args.port.now) (board c.put.new.port) (board c.put-2.new.port) (board c.put-3.new.port) c.args.slot (history c.args.port.now) (history c.put.new.port) (history c.put-2.new.port) (history c.put-3.new.port)
    c.in_ok-put.ensures.put c.in_ok-put.ensures.stood c.in_ok-put-2.ensures.put c.in_ok-put-2.ensures.stood c.in_ok-put-3.ensures.put c.in_ok-put-3.ensures.stood
