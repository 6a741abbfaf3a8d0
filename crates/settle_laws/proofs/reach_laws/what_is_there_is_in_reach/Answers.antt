use Rattle.settle_laws.proofs.There.{there_is_in_reach, comes_to_holds}
use Rattle.settle_laws.proofs.ThereApart.{there_is_apart}
use Rattle.settle_laws.proofs.reach_laws.what_is_there_is_in_reach.Goals as goal

pub returns : goal.returns
returns c = record {
  within = λ q s r x system nested low aligned listed found. there_is_in_reach q s system nested low aligned r x listed found;
  apart = λ q s r t x y system nested low aligned in_r in_t beside differ is_x is_y. there_is_apart q s system nested low aligned r t x y in_r in_t beside differ is_x is_y;
  holds = λ q s kind b g r x comes listed beside class found. comes_to_holds q s kind b g r x comes listed beside class found;
}
