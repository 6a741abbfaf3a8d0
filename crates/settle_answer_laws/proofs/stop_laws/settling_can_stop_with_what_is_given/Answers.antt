use Rattle.settle_answer_laws.proofs.GivenSparing.{given_sparing_stops}
use Rattle.settle_answer_laws.proofs.GivenStops.{given_stops}
use Rattle.settle_answer_laws.proofs.stop_laws.settling_can_stop_with_what_is_given.Goals as goal

pub returns-clause-kept : goal.returns-clause-kept
returns-clause-kept c = λ q s k told given n all among end from. given_stops q s k all told given among n end from

pub returns-clause-sparing : goal.returns-clause-sparing
returns-clause-sparing c = given_sparing_stops
