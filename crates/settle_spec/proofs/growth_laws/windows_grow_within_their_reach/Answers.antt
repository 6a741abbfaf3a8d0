use Rattle.settle_spec.proofs.Outward.{halves_move_out, grown_holds_each, grown_is_in_reach}
use Rattle.settle_spec.proofs.Reaching.{reach_is_around, reach_is_off}
use Rattle.settle_spec.proofs.growth_laws.windows_grow_within_their_reach.Goals as goal

pub returns : goal.returns
returns c = record {
  halves = λ kind n w others. halves_move_out kind n w others;
  all = λ kind w others r listed. grown_holds_each kind w others r listed;
  within = λ kind w r others can all. grown_is_in_reach kind w r others can all;
  around = λ q s kind b room inside high apart. reach_is_around q s kind b room inside high apart;
  off = λ q s kind b t listed beside other stands apart. reach_is_off q s kind b t listed beside other stands apart;
}
