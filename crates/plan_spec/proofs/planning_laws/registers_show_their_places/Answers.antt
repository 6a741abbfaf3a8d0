use Rattle.plan_spec.proofs.Planning.BarValues.{bar_shows, bar_fits, rom_shows, rom_fits}
use Rattle.plan_spec.proofs.Planning.Builds.{is_built}
use Rattle.plan_spec.proofs.Planning.Shows.{window_shows}
use Rattle.plan_spec.proofs.planning_laws.registers_show_their_places.Goals as goal

pub returns-clause-built : goal.returns-clause-built
returns-clause-built c = λ f value new_command is fitting. is_built f is value new_command fitting

pub returns-clause-bar : goal.returns-clause-bar
returns-clause-bar c = λ image probe n first there fine aligned below. (bar_shows image probe n first there fine aligned below, bar_fits image probe n first there fine aligned below)

pub returns-clause-rom : goal.returns-clause-rom
returns-clause-rom c = λ image probe first there fine aligned below. (rom_shows image probe first there fine aligned below, rom_fits image probe first there fine aligned below)

pub returns-clause-window : goal.returns-clause-window
returns-clause-window c = window_shows
