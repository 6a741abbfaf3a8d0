use Rattle.settle_spec.proofs.NoSlots.{no_slots_no_spares}
use Rattle.settle_laws.proofs.Wishing.Nothing.{nothing_goes_for_spares as none_goes}
use Rattle.settle_laws.proofs.Wishing.Refused.{spares_set_no_command}
use Rattle.settle_laws.proofs.sparing_laws.nothing_goes_for_spares.Goals as goal

pub returns-clause-none : goal.returns-clause-none
returns-clause-none c = no_slots_no_spares

pub returns-clause-stays : goal.returns-clause-stays
returns-clause-stays c = none_goes

pub returns-clause-command : goal.returns-clause-command
returns-clause-command c = spares_set_no_command
