use Rattle.std.proofs.Common.{◌∙◌}
use Rattle.settle_laws.proofs.StandingTold.Passes.{on_then_off, stands_if_free, next_told, last_told}
use Rattle.settle_laws.proofs.standing_told_laws.one_pass_finds_told_ranges.Goals as goal

pub returns : goal.returns
returns c = record {
  order = λ q s. on_then_off q s;
  next = λ q s xs count test next x taken ordered told within is are here others.
      next_told q s xs ordered count test told within x is next (here ∙ stands_if_free q s xs ordered count test told within x is taken are) others;
  last = λ q s xs count test ordered end told x is_told. last_told q s xs ordered count test end told x is_told;
}
