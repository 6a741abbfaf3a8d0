use Rattle.std.proofs.Common.{map}
use Rattle.pci_claims.specs.Values.{legacy_value}
use Rattle.pci_model_settle.proofs.HeldLines.{no_more_room, no_room, some_room}
use Rattle.pci_model_settle.proofs.claim_lines.is_room.Goals as goal

pub returns-in-None : goal.returns-in-None
returns-in-None c = no_room (map legacy_value c.args.legacy.now) (map legacy_value c.args.palette.now) c.args.lines c.in-None.ensures

pub returns-in-None-lines_left : goal.returns-in-None-lines_left
returns-in-None-lines_left c =
    no_more_room (map legacy_value c.args.legacy.now) (map legacy_value c.args.palette.now) c.args.lines c.in-Some.left c.in-Some.ensures c.in-None-lines_left.ensures

pub returns-in-Some-lines_left : goal.returns-in-Some-lines_left
returns-in-Some-lines_left c =
    some_room (map legacy_value c.args.legacy.now) (map legacy_value c.args.palette.now) c.args.lines c.in-Some.left c.in-Some.ensures c.in-Some-lines_left.field-0 c.in-Some-lines_left.ensures
