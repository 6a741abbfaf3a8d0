use Rattle.pciplan_tasks.proofs.NoMap.{no_map_names_the_first}
use Rattle.pciplan_tasks.proofs.Untaken.{nothing_said_takes_nothing, nothing_taken_tells_the_same}
use Rattle.pciplan_tasks.proofs.WithNothing.{plain_with_nothing_given, nothing_said_gives_nothing, nothing_said_tells_nothing}
use Rattle.pciplan_tasks.proofs.faults_laws.nothing_given_tells_the_plain_list.Goals as goal

pub returns : goal.returns
returns c = record {
  plain = plain_with_nothing_given;
  nothing = nothing_said_gives_nothing;
  untaken = nothing_said_takes_nothing;
  same = nothing_taken_tells_the_same;
  told = nothing_said_tells_nothing;
  map = no_map_names_the_first;
}
