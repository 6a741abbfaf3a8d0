-- What is asked for.
use Rattle.std.specs.Prelude.{◌≡◌, ℕ, Bool, IsTrue, List, []}
use Rattle.pci_spec.specs.Slot.{Slot}
use Rattle.settle_spec.specs.Lists.{Request}
use Rattle.pci_first_fit.specs.Slots.{Demand, demand_of}

-- settling below these roots, in these lists and with this room behind slots; functions that may not be written, and whether all
-- is placed anew
abbrev pub request : List ℕ → Demand → List Slot → Bool → Request
request roots d fixed anew = record {
  roots = roots;
  lists = d.lists;
  fixed = fixed;
  anew = anew;
  slots = d.slots;
  spares = d.spares;
  told = d.told;
}

-- it is asked for below these roots, in these lists and behind these slots, whatever is to keep its place
pub record IsAskedOf (q : Request) (roots : List ℕ) (d : Demand) : Type 0 where
  pub roots_are : q.roots ≡ roots
  pub demands_are : demand_of q ≡ d

-- something can stay: not all is placed anew, or something is told
abbrev pub CanStay : Request → Type 0
CanStay q = IsTrue q.anew → q.told.ranges ≡ [] → ⊥
