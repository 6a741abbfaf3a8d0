use Rattle.settle_spec.proofs.Grown.{growth_keeps, growth_holds_all, only_windows_grow}
use Rattle.settle_spec.proofs.growth_laws.growth_keeps_what_stays.Goals as goal

pub returns : goal.returns
returns c = record {
  stays = λ q s r stays. growth_keeps q s r stays;
  all = λ q s r. growth_holds_all q s r;
  windows = λ q s r part. only_windows_grow q s r part;
}
