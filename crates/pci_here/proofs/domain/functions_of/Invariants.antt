use Rattle.std.proofs.Common.{◌≤◌, take, IfSome}
use Rattle.std.specs.List.{All}
use Rattle.pci_here.specs.Functions.{IsFunctionReadable}
use Rattle.pci_here.specs.Taken.{AreFunctionsTaken}
use Rattle.pci_here.proofs.domain.functions_of.Given as goal

abbrev pub invariant-loop-place : goal.invariant-loop-place
invariant-loop-place g l = record {
  few : l.functions.left_out ≤ l.place-index;
  taken : IfSome (g.M.Machine.shown l.fn.machine) (λ m. AreFunctionsTaken m (take l.place-index l.places) l.functions);
  read : IfSome (g.M.Machine.shown l.fn.machine) (λ m. All (IsFunctionReadable m) (take l.place-index l.places));
}
