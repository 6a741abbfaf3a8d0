use Rattle.std.proofs.Common.{subst}
use Rattle.pci_number.specs.Access.{IsByteWritten}
use Rattle.pci_number.proofs.Errs.{always_err}
use Rattle.pci_number.proofs.Puts.{put_already, put_new, touched}
use Rattle.pci_number.proofs.put.put.Goals as goal

pub returns-then-branch-number-clause-put : goal.returns-then-branch-number-clause-put
returns-then-branch-number-clause-put g c =
    put_already (g.P.BoardPort.board c.args.port.now) (g.P.BoardPort.board c.read.new.self) c.args.slot c.args.offset c.in_ok-read.field-0 c.args.number
    c.in_ok-read.ensures.value c.if-branch-number.true c.in_ok-read.ensures.same

pub returns-in_err-read-2-clause-left : goal.returns-in_err-read-2-clause-left
returns-in_err-read-2-clause-left g c =
    let board = g.P.BoardPort.board in
    always_err c.from_residual-in_err-read-2.result _
    (touched (board c.args.port.now) (board c.write.new.self) (board c.read-2.new.self) c.args.slot c.args.offset
    (subst (λ b. IsByteWritten b c.args.slot c.args.offset (board c.write.new.self)) c.in_ok-read.ensures.same c.in_ok-write.ensures.written)
    c.in_err-read-2.ensures.same)

pub returns-then-branch-number-2-clause-put : goal.returns-then-branch-number-2-clause-put
returns-then-branch-number-2-clause-put g c =
    let board = g.P.BoardPort.board in
    put_new (board c.args.port.now) (board c.write.new.self) (board c.read-2.new.self) c.args.slot c.args.offset c.in_ok-read-2.field-0 c.args.number
    (subst (λ b. IsByteWritten b c.args.slot c.args.offset (board c.write.new.self)) c.in_ok-read.ensures.same c.in_ok-write.ensures.written)
    c.in_ok-read-2.ensures.value c.if-branch-number-2.true c.in_ok-read-2.ensures.same

pub returns-else-branch-number-2-clause-left : goal.returns-else-branch-number-2-clause-left
returns-else-branch-number-2-clause-left g c =
    let board = g.P.BoardPort.board in
    touched (board c.args.port.now) (board c.write.new.self) (board c.read-2.new.self) c.args.slot c.args.offset
    (subst (λ b. IsByteWritten b c.args.slot c.args.offset (board c.write.new.self)) c.in_ok-read.ensures.same c.in_ok-write.ensures.written)
    c.in_ok-read-2.ensures.same
