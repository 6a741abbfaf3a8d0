use Rattle.std.proofs.Common.{sym, ◌∙◌, true, false}
use Rattle.pci_number.proofs.Spares.{no_room_asked, room_there}
use Rattle.pci_number.proofs.spare.room_of.Goals as goal

pub returns-then-spare-eq0-clause-room : goal.returns-then-spare-eq0-clause-room
returns-then-spare-eq0-clause-room g c = λ v high last image behind others is seen alone. no_room_asked image c.args.spare c.if-spare-eq0.true

pub returns-then-branch-clause-room : goal.returns-then-branch-clause-room
returns-then-branch-clause-room g c = λ v high last image behind others is seen alone.
    room_there image c.args.spare true (sym c.if-branch.true ∙ c.in_ok-has_hot_plug_slot.ensures.has v high last image behind others is seen alone)

pub returns-else-branch-clause-room : goal.returns-else-branch-clause-room
returns-else-branch-clause-room g c = λ v high last image behind others is seen alone.
    room_there image c.args.spare false (sym c.if-branch.false ∙ c.in_ok-has_hot_plug_slot.ensures.has v high last image behind others is seen alone)
