-- What a place that is told is good for.
use Rattle.std.specs.Prelude.{◌≡◌, ℕ, Bool, List}
use Rattle.std.specs.List.{Contains}
use Rattle.pci_spec.specs.System.{System, Function, Part, Claims, register_of, IsPassedTo}
use Rattle.pci_spec.specs.Decoded.{Range, InRange}
use Rattle.pci_spec.specs.Why.{Region, IsLeastPlace}

-- Each address of it is passed on to the region's bus, where no region but this one claims it.
pub record IsHomeAt (roots : List ℕ) (s : System) (q : Region) (a : ℕ) : Type 0 where
  pub passed : IsPassedTo roots s q.space q.prefetchable a q.slot.bus
  pub alone : (f : Function) (part : Part) → Contains s f → f.slot.bus ≡ q.slot.bus
      → Claims f part q.space a → (f.slot ≡ q.slot) × (register_of f part ≡ q.register)

-- So the region would be home there, and clash with none.
abbrev pub LeastPlaceIsHome : Type 0
LeastPlaceIsHome =
    (roots : List ℕ) (s : System) (q : Region) (wide : Bool) (r : Range)
    → IsLeastPlace roots s q wide r → (a : ℕ) → InRange r a → IsHomeAt roots s q a
