use Rattle.settle_laws.proofs.Wishing.ByBus.{ending_is_by_bus, spared_is_by_bus}
use Rattle.settle_laws.proofs.sparing_laws.wishes_are_told_bus_by_bus.Goals as goal

pub returns-clause-ending : goal.returns-clause-ending
returns-clause-ending c = ending_is_by_bus

pub returns-clause-spare : goal.returns-clause-spare
returns-clause-spare c = spared_is_by_bus
