use Rattle.std.proofs.Common.{arith, subst}
use Rattle.pci_number.specs.Steps.{IsHushed}
use Rattle.pci_number.proofs.Errs.{always_err}
use Rattle.pci_number.proofs.Few.{open_few}
use Rattle.pci_number.proofs.Opening.{open_left_second, open_left_third, opened_alone, opened_wide}
use Rattle.pci_number.proofs.Showing.{open_stood_second, open_stood_alone, open_stood_third, open_stood_wide}
use Rattle.pci_number.proofs.open.open.Goals as goal

pub returns-in_err-hush-clause-left : goal.returns-in_err-hush-clause-left
returns-in_err-hush-clause-left g c =
    let board = g.P.BoardPort.board in
    always_err c.from_residual-in_err-hush.result _
    (open_left_second (board c.args.port.now) (board c.show.new.port) (board c.hush.new.port) c.args.slot c.args.behind c.args.last c.in_ok-show.ensures.shown c.in_err-hush.ensures.left)

pub returns-then-not-branch-clause-opened : goal.returns-then-not-branch-clause-opened
returns-then-not-branch-clause-opened g c =
    let board = g.P.BoardPort.board in
    opened_alone (board c.args.port.now) (board c.show.new.port) (board c.hush.new.port) c.args.slot c.args.behind c.args.last c.in_ok-show.ensures.shown
    (subst (λ b. IsHushed (board c.show.new.port) c.args.behind b (board c.hush.new.port)) c.if-not-branch.true c.in_ok-hush.ensures.hushed)

pub returns-in_err-put-clause-left : goal.returns-in_err-put-clause-left
returns-in_err-put-clause-left g c =
    let board = g.P.BoardPort.board in
    always_err c.from_residual-in_err-put.result _
    (open_left_third (board c.args.port.now) (board c.show.new.port) (board c.hush.new.port) (board c.put.new.port) c.args.slot c.args.behind c.args.last c.in_ok-hush.field-0 c.in_ok-show.ensures.shown c.in_ok-hush.ensures.hushed c.in_err-put.ensures.left)

pub returns-clause-opened : goal.returns-clause-opened
returns-clause-opened g c =
    let board = g.P.BoardPort.board in
    opened_wide (board c.args.port.now) (board c.show.new.port) (board c.hush.new.port) (board c.put.new.port) c.args.slot c.args.behind c.args.last c.in_ok-show.ensures.shown
    (subst (λ b. IsHushed (board c.show.new.port) c.args.behind b (board c.hush.new.port)) c.if-not-branch.false c.in_ok-hush.ensures.hushed) c.in_ok-put.ensures.put

pub returns-in_err-hush-clause-few : goal.returns-in_err-hush-clause-few
returns-in_err-hush-clause-few g c =
    let board = g.P.BoardPort.board in
    let writes = g.P.BoardPort.writes in
    open_few (board c.args.port.now) (board c.show.new.port) c.args.slot c.args.behind c.args.last (writes c.args.port.now) (writes c.show.new.port) (writes c.hush.new.port) (writes c.hush.new.port)
    c.in_ok-show.ensures.shown c.in_ok-show.ensures.few c.in_err-hush.ensures.few (omega arith)

pub returns-then-not-branch-clause-few : goal.returns-then-not-branch-clause-few
returns-then-not-branch-clause-few g c =
    let board = g.P.BoardPort.board in
    let writes = g.P.BoardPort.writes in
    open_few (board c.args.port.now) (board c.show.new.port) c.args.slot c.args.behind c.args.last (writes c.args.port.now) (writes c.show.new.port) (writes c.hush.new.port) (writes c.hush.new.port)
    c.in_ok-show.ensures.shown c.in_ok-show.ensures.few c.in_ok-hush.ensures.few (omega arith)

pub returns-in_err-put-clause-few : goal.returns-in_err-put-clause-few
returns-in_err-put-clause-few g c =
    let board = g.P.BoardPort.board in
    let writes = g.P.BoardPort.writes in
    open_few (board c.args.port.now) (board c.show.new.port) c.args.slot c.args.behind c.args.last (writes c.args.port.now) (writes c.show.new.port) (writes c.hush.new.port) (writes c.put.new.port)
    c.in_ok-show.ensures.shown c.in_ok-show.ensures.few c.in_ok-hush.ensures.few c.in_err-put.ensures.few

pub returns-clause-few : goal.returns-clause-few
returns-clause-few g c =
    let board = g.P.BoardPort.board in
    let writes = g.P.BoardPort.writes in
    open_few (board c.args.port.now) (board c.show.new.port) c.args.slot c.args.behind c.args.last (writes c.args.port.now) (writes c.show.new.port) (writes c.hush.new.port) (writes c.put.new.port)
    c.in_ok-show.ensures.shown c.in_ok-show.ensures.few c.in_ok-hush.ensures.few c.in_ok-put.ensures.few

pub returns-in_err-hush-clause-stood : goal.returns-in_err-hush-clause-stood
returns-in_err-hush-clause-stood g c =
    let board = g.P.BoardPort.board in
    let history = g.P.BoardPort.history in
    open_stood_second (board c.args.port.now) (board c.show.new.port) (board c.hush.new.port) (board c.hush.new.port) c.args.slot c.args.behind c.args.last (history c.args.port.now) (history c.show.new.port) (history c.hush.new.port) (history c.hush.new.port)
    c.in_ok-show.ensures.shown c.in_ok-show.ensures.stood c.from_residual-in_err-hush.result c.from_residual-in_err-hush.ensures.0 c.in_err-hush.ensures.stood

pub returns-then-not-branch-clause-stood : goal.returns-then-not-branch-clause-stood
returns-then-not-branch-clause-stood g c =
    let board = g.P.BoardPort.board in
    let history = g.P.BoardPort.history in
    open_stood_alone (board c.args.port.now) (board c.show.new.port) (board c.hush.new.port) (board c.hush.new.port) c.args.slot c.args.behind c.args.last (history c.args.port.now) (history c.show.new.port) (history c.hush.new.port) (history c.hush.new.port)
    c.in_ok-show.ensures.shown c.in_ok-show.ensures.stood c.in_ok-hush.ensures.stood

pub returns-in_err-put-clause-stood : goal.returns-in_err-put-clause-stood
returns-in_err-put-clause-stood g c =
    let board = g.P.BoardPort.board in
    let history = g.P.BoardPort.history in
    open_stood_third (board c.args.port.now) (board c.show.new.port) (board c.hush.new.port) (board c.put.new.port) c.args.slot c.args.behind c.args.last (history c.args.port.now) (history c.show.new.port) (history c.hush.new.port) (history c.put.new.port)
    c.in_ok-show.ensures.shown c.in_ok-show.ensures.stood c.in_ok-hush.ensures.stood c.from_residual-in_err-put.result c.from_residual-in_err-put.ensures.0 c.in_err-put.ensures.stood

pub returns-clause-stood : goal.returns-clause-stood
returns-clause-stood g c =
    let board = g.P.BoardPort.board in
    let history = g.P.BoardPort.history in
    open_stood_wide (board c.args.port.now) (board c.show.new.port) (board c.hush.new.port) (board c.put.new.port) c.args.slot c.args.behind c.args.last (history c.args.port.now) (history c.show.new.port) (history c.hush.new.port) (history c.put.new.port)
    c.in_ok-show.ensures.shown c.in_ok-show.ensures.stood c.in_ok-hush.ensures.stood c.in_ok-hush.field-0 c.in_ok-hush.ensures.hushed c.in_ok-put.ensures.put c.in_ok-put.ensures.stood
