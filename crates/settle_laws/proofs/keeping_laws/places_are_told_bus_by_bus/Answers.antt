use Rattle.settle_laws.proofs.Keeping.Buses.{placing_by_bus, roots_are_one}
use Rattle.settle_laws.proofs.keeping_laws.places_are_told_bus_by_bus.Goals as goal

pub returns-clause-bus : goal.returns-clause-bus
returns-clause-bus c = λ q s k space bus system nested low. placing_by_bus q s k system nested space bus low

pub returns-clause-roots : goal.returns-clause-roots
returns-clause-roots c = roots_are_one
