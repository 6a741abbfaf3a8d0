use Rattle.settle_laws.proofs.NothingGrows.{anew_nothing_grows}
use Rattle.settle_laws.proofs.growing_laws.nothing_grows_anew.Goals as goal

pub returns : goal.returns
returns c = anew_nothing_grows
