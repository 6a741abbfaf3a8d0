use Rattle.std.proofs.Common.{ap, ◌+◌, Some, sym, subst, ◌∙◌}
use Rattle.pci_number.proofs.Logs.{read_again, stands, board_stays, byte_read, none_left, none_last, none_made, none_stood, then_accessed, then_board, then_last, then_made, then_stood}
use Rattle.pci_number.specs.Access.{IsByteRead}
use Rattle.pci_number.proofs.replay.ReplayBoardPort.read.Goals as goal

pub returns-in-Some-clause-value : goal.returns-in-Some-clause-value
returns-in-Some-clause-value g c =
    let world = g.W.World.world in
    let port = c.args.self.now in
    let none = none_left port.next c.if-is_none.ensures in
    let made =
    byte_read world port.at c.in-Some.made (stands world port.log.now port.at c.here.result c.in-Some.made port.is_log c.here.ensures c.in-Some.is)
    c.args.access c.args.offset (read_again c.in-Some.made c.to-wanted.result (sym c.if-is.ensures) c.args.access c.args.offset c.to-wanted.ensures.slot c.to-wanted.ensures.offset c.to-wanted.ensures.kind) in
    subst (λ b. IsByteRead b c.args.access c.args.offset c.in-Some.made.value) (sym (then_board world port.at port.next none)) made

pub returns-in-Some-clause-same : goal.returns-in-Some-clause-same
returns-in-Some-clause-same g c =
    let world = g.W.World.world in
    let port = c.args.self.now in
    let none = none_left port.next c.if-is_none.ensures in
    let made =
    board_stays world port.at c.in-Some.made (stands world port.log.now port.at c.here.result c.in-Some.made port.is_log c.here.ensures c.in-Some.is)
    c.args.access c.args.offset (read_again c.in-Some.made c.to-wanted.result (sym c.if-is.ensures) c.args.access c.args.offset c.to-wanted.ensures.slot c.to-wanted.ensures.offset c.to-wanted.ensures.kind) in
    then_board world (port.at + 1) port.next none ∙ made ∙ sym (then_board world port.at port.next none)

pub returns-in-Some-clause-same_history : goal.returns-in-Some-clause-same_history
returns-in-Some-clause-same_history g c =
    let world = g.W.World.world in
    let port = c.args.self.now in
    let none = none_left port.next c.if-is_none.ensures in
    let made =
    none_stood world port.at c.in-Some.made (stands world port.log.now port.at c.here.result c.in-Some.made port.is_log c.here.ensures c.in-Some.is)
    c.args.access c.args.offset (read_again c.in-Some.made c.to-wanted.result (sym c.if-is.ensures) c.args.access c.args.offset c.to-wanted.ensures.slot c.to-wanted.ensures.offset c.to-wanted.ensures.kind) in
    then_stood world (port.at + 1) port.next none ∙ made ∙ sym (then_stood world port.at port.next none)

pub returns-in-Some-clause-no_write : goal.returns-in-Some-clause-no_write
returns-in-Some-clause-no_write g c =
    let world = g.W.World.world in
    let port = c.args.self.now in
    let none = none_left port.next c.if-is_none.ensures in
    let made =
    none_last world port.at c.in-Some.made (stands world port.log.now port.at c.here.result c.in-Some.made port.is_log c.here.ensures c.in-Some.is)
    c.args.access c.args.offset (read_again c.in-Some.made c.to-wanted.result (sym c.if-is.ensures) c.args.access c.args.offset c.to-wanted.ensures.slot c.to-wanted.ensures.offset c.to-wanted.ensures.kind) in
    then_last world (port.at + 1) port.next none ∙ made ∙ sym (then_last world port.at port.next none)

pub returns-in-Some-clause-no_more : goal.returns-in-Some-clause-no_more
returns-in-Some-clause-no_more g c =
    let world = g.W.World.world in
    let port = c.args.self.now in
    let none = none_left port.next c.if-is_none.ensures in
    let made =
    none_made world port.at c.in-Some.made (stands world port.log.now port.at c.here.result c.in-Some.made port.is_log c.here.ensures c.in-Some.is)
    c.args.access c.args.offset (read_again c.in-Some.made c.to-wanted.result (sym c.if-is.ensures) c.args.access c.args.offset c.to-wanted.ensures.slot c.to-wanted.ensures.offset c.to-wanted.ensures.kind) in
    then_made world (port.at + 1) port.next none ∙ made ∙ sym (then_made world port.at port.next none)

pub returns-in-Some-clause-accessed : goal.returns-in-Some-clause-accessed
returns-in-Some-clause-accessed g c =
    let world = g.W.World.world in
    let port = c.args.self.now in
    let none = none_left port.next c.if-is_none.ensures in
    then_accessed world (port.at + 1) port.next none ∙ ap (λ n. n + 1) (sym (then_accessed world port.at port.next none))
