use Rattle.plan_spec.proofs.Planning.Registers.{fits_by_number}
use Rattle.plan_spec.proofs.Planning.Stop.{stop_anywhere, stop_when_off}
use Rattle.plan_spec.proofs.Planning.Whole.{whole, once_closed}
use Rattle.plan_spec.proofs.planning_laws.staged_writes_can_stop_anywhere.Goals as goal

pub returns-clause-safe : goal.returns-clause-safe
returns-clause-safe c = stop_anywhere

pub returns-clause-safe_off : goal.returns-clause-safe_off
returns-clause-safe_off c = stop_when_off

pub returns-clause-lawful : goal.returns-clause-lawful
returns-clause-lawful c = whole

pub returns-clause-lawful_closed : goal.returns-clause-lawful_closed
returns-clause-lawful_closed c = once_closed

pub returns-clause-fitting : goal.returns-clause-fitting
returns-clause-fitting c = fits_by_number
