use Rattle.std.proofs.Common.{subst}
use Rattle.pci_number.specs.Steps.{IsShownAt}
use Rattle.pci_number.proofs.Errs.{always_err}
use Rattle.pci_number.proofs.Puts.{show_second, show_third, shown_at}
use Rattle.pci_number.proofs.Showing.{show_stood_first, show_stood_second, show_stood_third, show_stood}
use Rattle.pci_number.proofs.open.show.Goals as goal

pub returns-in_err-put-2-clause-left : goal.returns-in_err-put-2-clause-left
returns-in_err-put-2-clause-left g c =
    let board = g.P.BoardPort.board in
    always_err c.from_residual-in_err-put-2.result _
    (show_second (board c.args.port.now) (board c.put.new.port) (board c.put-2.new.port) c.args.slot c.bus.result c.in_ok-put.ensures.put c.in_err-put-2.ensures.left)

pub returns-in_err-put-3-clause-left : goal.returns-in_err-put-3-clause-left
returns-in_err-put-3-clause-left g c =
    let board = g.P.BoardPort.board in
    always_err c.from_residual-in_err-put-3.result _
    (show_third (board c.args.port.now) (board c.put.new.port) (board c.put-2.new.port) (board c.put-3.new.port) c.args.slot c.bus.result c.args.behind c.in_ok-put.ensures.put c.in_ok-put-2.ensures.put c.in_err-put-3.ensures.left)

pub returns-clause-shown : goal.returns-clause-shown
returns-clause-shown g c =
    let board = g.P.BoardPort.board in
    subst (λ n. IsShownAt (board c.args.port.now) c.args.slot n c.args.behind c.args.behind (board c.put-3.new.port)) c.bus.ensures
    (shown_at (board c.args.port.now) (board c.put.new.port) (board c.put-2.new.port) (board c.put-3.new.port) c.args.slot c.bus.result c.args.behind c.args.behind c.in_ok-put.ensures.put c.in_ok-put-2.ensures.put c.in_ok-put-3.ensures.put)

pub returns-in_err-put-clause-stood : goal.returns-in_err-put-clause-stood
returns-in_err-put-clause-stood g c =
    let history = g.P.BoardPort.history in
    show_stood_first (g.P.BoardPort.board c.args.port.now) (g.P.BoardPort.board c.put.new.port) c.args.slot c.args.behind (history c.args.port.now) (history c.put.new.port) c.from_residual.result c.from_residual.ensures.0 c.in_err-put.ensures.stood

pub returns-in_err-put-2-clause-stood : goal.returns-in_err-put-2-clause-stood
returns-in_err-put-2-clause-stood g c =
    let board = g.P.BoardPort.board in
    let history = g.P.BoardPort.history in
    show_stood_second (board c.args.port.now) (board c.put.new.port) (board c.put-2.new.port) (board c.put-2.new.port) c.args.slot c.bus.result c.args.behind (history c.args.port.now) (history c.put.new.port) (history c.put-2.new.port) (history c.put-2.new.port)
    c.in_ok-put.ensures.put c.in_ok-put.ensures.stood c.from_residual-in_err-put-2.result c.from_residual-in_err-put-2.ensures.0 c.in_err-put-2.ensures.stood

pub returns-in_err-put-3-clause-stood : goal.returns-in_err-put-3-clause-stood
returns-in_err-put-3-clause-stood g c =
    let board = g.P.BoardPort.board in
    let history = g.P.BoardPort.history in
    show_stood_third (board c.args.port.now) (board c.put.new.port) (board c.put-2.new.port) (board c.put-3.new.port) c.args.slot c.bus.result c.args.behind (history c.args.port.now) (history c.put.new.port) (history c.put-2.new.port) (history c.put-3.new.port)
    c.in_ok-put.ensures.put c.in_ok-put.ensures.stood c.in_ok-put-2.ensures.put c.in_ok-put-2.ensures.stood c.from_residual-in_err-put-3.result c.from_residual-in_err-put-3.ensures.0 c.in_err-put-3.ensures.stood

pub returns-clause-stood : goal.returns-clause-stood
returns-clause-stood g c =
    let board = g.P.BoardPort.board in
    let history = g.P.BoardPort.history in
    show_stood (board c.args.port.now) (board c.put.new.port) (board c.put-2.new.port) (board c.put-3.new.port) c.args.slot c.bus.result c.args.behind (history c.args.port.now) (history c.put.new.port) (history c.put-2.new.port) (history c.put-3.new.port)
    c.in_ok-put.ensures.put c.in_ok-put.ensures.stood c.in_ok-put-2.ensures.put c.in_ok-put-2.ensures.stood c.in_ok-put-3.ensures.put c.in_ok-put-3.ensures.stood
