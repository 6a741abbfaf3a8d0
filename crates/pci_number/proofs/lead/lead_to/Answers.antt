use Rattle.std.proofs.Common.{◌+◌, arith, subst}
use Rattle.pci_number.specs.Steps.{IsNumberPut}
use Rattle.pci_number.proofs.lead.lead_to.Goals as goal

pub returns-clause-put : goal.returns-clause-put
returns-clause-put g c =
    let board = g.P.BoardPort.board in
    subst (λ b. IsNumberPut b c.args.slot 0x1a (c.args.taken + c.min.result) (board c.put.new.port)) c.in_ok-room.ensures.same c.in_ok-put.ensures.put

pub returns-clause-led : goal.returns-clause-led
returns-clause-led g c = λ within v high top image behind others is seen alone.
    omega (arith, c.in_ok-room.ensures.room v high top image behind others is seen alone, within, c.min.ensures, c.saturating_sub-left.ensures)
