use Rattle.settle_laws.proofs.Reach.{reaches_are_around, reaches_nest, reaches_are_off}
use Rattle.settle_laws.proofs.reach_laws.reaches_are_around_windows.Goals as goal

pub returns : goal.returns
returns c = record {
  around = λ q s kind b system nested low is. reaches_are_around q s kind nested system low b is;
  nest = λ q s kind b over system nested low is off leads. reaches_nest q s kind nested system low b over is off leads;
  off = λ q s kind b t nested is listed stand beside differ. reaches_are_off q s kind nested b t is listed stand beside differ;
}
