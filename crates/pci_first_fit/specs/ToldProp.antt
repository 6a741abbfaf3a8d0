-- What a text can tell of is a fact that holds in one way at most.
use Rattle.std.specs.Prelude.{ℕ, List}
use Rattle.std.specs.Coded.{le_prop}
use Rattle.std.proofs.Props.{props}
use Rattle.pci_spec.specs.System.{Space, Io, Memory, IsAddress}
use Rattle.judge_spec.specs.Told.{ToldRange, IsTold}

IsAddress-prop : (space : Space) (a : ℕ) → IsProp (IsAddress space a)
IsAddress-prop Io a = le_prop
IsAddress-prop Memory a = le_prop

pub IsTold-prop : (ranges : List ToldRange) → IsProp (IsTold ranges)
IsTold-prop ranges = Prim.hlevel (props, IsAddress-prop)
