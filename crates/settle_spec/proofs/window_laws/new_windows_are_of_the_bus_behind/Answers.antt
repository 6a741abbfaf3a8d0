use Rattle.settle_spec.proofs.NewWindows.{window_is_around}
use Rattle.settle_spec.proofs.ItemsBehind.{items_are_behind}
use Rattle.settle_spec.proofs.window_laws.new_windows_are_of_the_bus_behind.Goals as goal

pub returns : goal.returns
returns c = record {
  around = λ q s c b system nested listed bridge. window_is_around q s c system nested b listed bridge;
  behind = λ q s c extent b system nested listed bridge. items_are_behind q s c extent system nested b listed bridge;
}
