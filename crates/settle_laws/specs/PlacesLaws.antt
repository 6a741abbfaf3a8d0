-- Laws of places: where all is placed anew, nothing stays.
use Rattle.std.specs.Prelude.{◌≡◌, IsTrue, IsFalse, [], Option}
use Rattle.std.specs.Option.{option_map}
use Rattle.pci_spec.specs.Decoded.{Range}
use Rattle.pci_spec.specs.System.{System}
use Rattle.settle_spec.specs.Lists.{Request}
use Rattle.settle_spec.specs.Parts.{FunctionPart}
use Rattle.settle_spec.specs.Items.{Placed, taken_by, stays}

-- Where all is placed anew, nothing stays.
abbrev pub NothingStaysAnew : Type 0
NothingStaysAnew = (q : Request) (s : System) → q.told.ranges ≡ [] → IsTrue q.anew → (r : FunctionPart) → IsFalse (stays q s r)

-- the addresses of a place
abbrev pub place_range : Option Placed → Option Range
place_range o = option_map (λ (x : Placed). taken_by x.item x.at) o
