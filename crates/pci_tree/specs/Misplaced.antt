-- What is wrong with the place of a function, each by itself.
use Rattle.std.specs.Prelude.{◌≡◌, ◌↔◌, ℕ, IsTrue, List, Some}
use Rattle.pci_function.specs.declared.record.Bridge.{Bridge}
use Rattle.pci_function.specs.declared.record.Record.{Record}
use Rattle.pci_tree.specs.declared.buses.Misplaced.{Misplaced}
use Rattle.pci_tree.specs.BusNumbers.{IsNotLone, IsLedTo, HasLawfulBuses}

-- the function is a bridge, and its bus numbers don't fit
abbrev pub HasUnlawfulBuses : List ℕ → List Record → Record → Type 0
HasUnlawfulBuses roots records r =
    (b : Bridge) × (r.bridge ≡ Some b) × (HasLawfulBuses roots records r.slot b → ⊥)

-- each of the three is said exactly where it is so
pub record IsMisplacedBy (roots : List ℕ) (records : List Record) (r : Record)
    (m : Misplaced) : Type 0 where
  pub lone : IsTrue m.lone ↔ (IsNotLone records r.slot → ⊥)
  pub orphan : IsTrue m.orphan ↔ (IsLedTo roots records r.slot.bus → ⊥)
  pub bus_range : IsTrue m.bus_range ↔ HasUnlawfulBuses roots records r
