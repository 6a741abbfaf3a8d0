use Rattle.settle_spec.proofs.ToldNaming.{growth_refuses_nothing, sparing_names}
use Rattle.settle_spec.proofs.told_laws.endings_name_told_ranges.Goals as goal

pub returns : goal.returns
returns c = record {
  settled = λ q s settled. growth_refuses_nothing q s settled;
  named = λ q s slot register ends. sparing_names q s slot register ends;
}
