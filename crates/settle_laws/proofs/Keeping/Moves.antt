-- What can be settled beside what is kept keeps all but address bits and Command's enables of I/O and memory, and is admitted again.
use Rattle.std.proofs.Common.{inr}
use Rattle.std.specs.List.{Contains, AllZip}
use Rattle.pci_spec.specs.System.{System, Function, IsSystem}
use Rattle.pci_spec.specs.Bus.{IsNested}
use Rattle.pci_spec.specs.Sound.{IsInProfile, HasChains}
use Rattle.plan_spec.specs.Plan.{IsMoved}
use Rattle.plan_spec.proofs.PlanningLaws.{moved_is_nested, moved_has_chains}
use Rattle.plan_spec.proofs.Planning.Faults.{moved_profile}
use Rattle.plan_spec.proofs.Planning.Whole.{moved_system}
use Rattle.settle_spec.specs.Lists.{Request}
use Rattle.settle_spec.specs.Kept.{Kept}
use Rattle.settle_spec.specs.Keeping.Registers.{settled, settled_function}
use Rattle.settle_laws.specs.Keeping.PlacesLaws.{CanSettle}
use Rattle.settle_laws.proofs.KeptAside.{each_by}
use Rattle.settle_laws.proofs.Keeping.After.{AreSettling}
use Rattle.settle_laws.proofs.Keeping.Fits.{are_lists}
use Rattle.settle_laws.proofs.Keeping.SettledMoved.{byte_stays, new_command, listed_moves}

module _ (q : Request) (s : System) (k : Kept) (can : CanSettle q s k) where
  pub moves : (f : Function) → Contains s f → IsMoved f (settled_function q s k f)
  moves f listed = let lists = are_lists q s k can in listed_moves q s k can f listed lists.good lists.short

  pub all_move : AllZip IsMoved s (settled q s k)
  all_move = each_by IsMoved (settled_function q s k) s moves

  pub new_profile : IsInProfile q.roots (settled q s k)
  new_profile = moved_profile q.roots s (settled q s k) can.system can.chains all_move can.profile

  pub new_system : IsSystem (settled q s k)
  new_system = moved_system s (settled q s k) all_move can.system

  pub new_nested : IsNested q.roots (settled q s k)
  new_nested = moved_is_nested q.roots s (settled q s k) all_move can.system can.nested

  pub new_chains : HasChains (settled q s k)
  new_chains = moved_has_chains s (settled q s k) all_move can.system can.chains

  pub are_settling : AreSettling q s k
  are_settling = record {
    system = can.system;
    moved = moves;
    aside = λ f place listed at. byte_stays q s k can f listed place (inr at.high) at.out;
    command_is = λ f listed. new_command q s k can f listed;
  }
