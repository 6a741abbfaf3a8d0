use Rattle.std.proofs.Common.{◌+◌, ◌∷◌, Some, sym, subst, ◌∙◌, ap}
use Rattle.pci_number.proofs.Logs.{written_again, stands, byte_written, none_left, one_last, one_made, one_stood, then_accessed, then_board, then_last, then_made, then_stood}
use Rattle.pci_number.specs.Access.{IsByteWritten}
use Rattle.pci_number.specs.Logs.{board_then, boards_stood}
use Rattle.pci_number.proofs.replay.ReplayBoardPort.write.Goals as goal

pub returns-in-Some-clause-written : goal.returns-in-Some-clause-written
returns-in-Some-clause-written g c =
    let world = g.W.World.world in
    let port = c.args.self.now in
    let none = none_left port.next (sym c.if-is_some.ensures) in
    let made =
    byte_written world port.at c.in-Some.made (stands world port.log.now port.at c.here.result c.in-Some.made port.is_log c.here.ensures c.in-Some.is)
    c.args.access c.args.offset c.args.value (written_again c.in-Some.made c.to-wanted.result (sym c.if-is.ensures) c.args.access c.args.offset c.args.value c.to-wanted.ensures.slot c.to-wanted.ensures.offset c.to-wanted.ensures.kind c.to-wanted.ensures.value) in
    subst (λ b. IsByteWritten b c.args.access c.args.offset (board_then world (port.at + 1) port.next)) (sym (then_board world port.at port.next none))
    (subst (λ b. IsByteWritten (world.boards port.at) c.args.access c.args.offset b) (sym (then_board world (port.at + 1) port.next none)) made)

pub returns-in-Some-clause-stood : goal.returns-in-Some-clause-stood
returns-in-Some-clause-stood g c =
    let world = g.W.World.world in
    let port = c.args.self.now in
    let none = none_left port.next (sym c.if-is_some.ensures) in
    let made =
    one_stood world port.at c.in-Some.made (stands world port.log.now port.at c.here.result c.in-Some.made port.is_log c.here.ensures c.in-Some.is)
    c.args.access c.args.offset c.args.value (written_again c.in-Some.made c.to-wanted.result (sym c.if-is.ensures) c.args.access c.args.offset c.args.value c.to-wanted.ensures.slot c.to-wanted.ensures.offset c.to-wanted.ensures.kind c.to-wanted.ensures.value) in
    then_stood world (port.at + 1) port.next none ∙ made ∙ ap (λ b. b ∷ boards_stood world port.at) (sym (then_board world (port.at + 1) port.next none)) ∙ ap (λ l. board_then world (port.at + 1) port.next ∷ l) (sym (then_stood world port.at port.next none))

pub returns-in-Some-clause-made : goal.returns-in-Some-clause-made
returns-in-Some-clause-made g c =
    let world = g.W.World.world in
    let port = c.args.self.now in
    let none = none_left port.next (sym c.if-is_some.ensures) in
    let made =
    one_last world port.at c.in-Some.made (stands world port.log.now port.at c.here.result c.in-Some.made port.is_log c.here.ensures c.in-Some.is)
    c.args.access c.args.offset c.args.value (written_again c.in-Some.made c.to-wanted.result (sym c.if-is.ensures) c.args.access c.args.offset c.args.value c.to-wanted.ensures.slot c.to-wanted.ensures.offset c.to-wanted.ensures.kind c.to-wanted.ensures.value) in
    then_last world (port.at + 1) port.next none ∙ made

pub returns-in-Some-clause-one_more : goal.returns-in-Some-clause-one_more
returns-in-Some-clause-one_more g c =
    let world = g.W.World.world in
    let port = c.args.self.now in
    let none = none_left port.next (sym c.if-is_some.ensures) in
    let made =
    one_made world port.at c.in-Some.made (stands world port.log.now port.at c.here.result c.in-Some.made port.is_log c.here.ensures c.in-Some.is)
    c.args.access c.args.offset c.args.value (written_again c.in-Some.made c.to-wanted.result (sym c.if-is.ensures) c.args.access c.args.offset c.args.value c.to-wanted.ensures.slot c.to-wanted.ensures.offset c.to-wanted.ensures.kind c.to-wanted.ensures.value) in
    then_made world (port.at + 1) port.next none ∙ made ∙ ap (λ n. n + 1) (sym (then_made world port.at port.next none))

pub returns-in-Some-clause-accessed : goal.returns-in-Some-clause-accessed
returns-in-Some-clause-accessed g c =
    let world = g.W.World.world in
    let port = c.args.self.now in
    let none = none_left port.next (sym c.if-is_some.ensures) in
    then_accessed world (port.at + 1) port.next none ∙ ap (λ n. n + 1) (sym (then_accessed world port.at port.next none))
