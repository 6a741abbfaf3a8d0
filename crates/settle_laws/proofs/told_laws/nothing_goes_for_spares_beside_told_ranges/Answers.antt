use Rattle.settle_laws.proofs.Told.Wished.{told_spares_set_no_command, told_sparing_keeps_all, told_spares_have_room}
use Rattle.settle_laws.proofs.told_laws.nothing_goes_for_spares_beside_told_ranges.Goals as goal

pub returns-clause-command : goal.returns-clause-command
returns-clause-command c = told_spares_set_no_command

pub returns-clause-addresses : goal.returns-clause-addresses
returns-clause-addresses c = told_sparing_keeps_all

pub returns-clause-room : goal.returns-clause-room
returns-clause-room c = told_spares_have_room
