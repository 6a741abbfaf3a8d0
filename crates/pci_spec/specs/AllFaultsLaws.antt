-- What a list of all faults of judging is good for: it is empty where nothing is wrong, it has a line for each region
-- that isn't home, and without the second region of each line no two are left that share an address.
use Rattle.std.specs.Prelude.{◌≡◌, ℕ, ◌↔◌, false, IsTrue, List, [], ◌∷◌}
use Rattle.std.specs.List.{Contains}
use Rattle.pci_spec.specs.Slot.{Slot}
use Rattle.pci_spec.specs.System.{System, Function, Space, Part, Claims, Gets, IsPassedTo, IsSystem, has_part, is_prefetchable_part, is_window, register_of}
use Rattle.pci_spec.specs.Bus.{IsNested}
use Rattle.pci_spec.specs.Fault.{Fault, address_in, named_region, named_regions}
use Rattle.pci_spec.specs.Order.{IsFirst}
use Rattle.pci_spec.specs.Sound.{IsSingle, IsHome, IsSameRegion}
use Rattle.pci_spec.specs.AllFaults.{IsUnreachedOf, IsClashOf, IsSplitOf, AreAllOfJudging}

-- It is empty exactly where at most one region claims an access, and each region is reached.
abbrev pub EmptyWhereNoneFails : Type 0
EmptyWhereNoneFails =
    (roots : List ℕ) (s : System) (faults : List Fault) → IsSystem s → IsNested roots s
    → AreAllOfJudging roots s faults
    → (faults ≡ []) ↔ (IsSingle roots s × IsHome roots s)

-- Its first line is the fault of judging that is looked for first.
abbrev pub FirstLineIsFirst : Type 0
FirstLineIsFirst =
    (roots : List ℕ) (s : System) (fault : Fault) (rest : List Fault) → IsSystem s
    → IsNested roots s → AreAllOfJudging roots s (fault ∷ rest)
    → IsFirst roots s fault

-- each address of the region gets to its function, by bridges that pass it
abbrev pub IsPartHome : List ℕ → System → Function → Part → Type 0
IsPartHome roots s f part =
    (space : Space) (a : ℕ) → Claims f part space a
    → IsPassedTo roots s space (is_prefetchable_part f part) a f.slot.bus

-- no line says that it is unreached
abbrev pub IsNotUnreached : List ℕ → System → Slot → ℕ → Type 0
IsNotUnreached roots s slot register =
    (space : Space) (address : ℕ) (bridge : Slot)
    → IsUnreachedOf roots s (named_region slot register) (address_in space address) bridge → ⊥

-- A BAR or ROM has a line exactly where it isn't home.
abbrev pub LineWhereNotHome : Type 0
LineWhereNotHome =
    (roots : List ℕ) (s : System) → IsSystem s → IsNested roots s
    → (f : Function) (part : Part) → Contains s f → IsTrue (has_part f part)
    → is_window part ≡ false
    → IsPartHome roots s f part ↔ IsNotUnreached roots s f.slot (register_of f part)

-- no line names the region as the second of two
pub record IsNeverSecond (roots : List ℕ) (s : System) (slot : Slot) (register : ℕ) : Type 0 where
  pub of_a_bus : (bus : ℕ) (space : Space) (address : ℕ) (first : Slot) (first_register : ℕ)
      → IsClashOf roots s bus (address_in space address)
      (named_regions first first_register slot register) → ⊥
  pub of_roots : (space : Space) (address : ℕ) (first : Slot) (first_register : ℕ)
      → IsSplitOf roots s (address_in space address)
      (named_regions first first_register slot register) → ⊥

-- At most one of some regions claims an access.
pub record IsSingleAmong (Has : Function → Part → Type 0) (roots : List ℕ)
    (s : System) : Type 0 where
  pub on_a_bus : (space : Space) (a bus : ℕ) → Gets roots s space a bus
      → (f g : Function) (p q : Part) → Contains s f → Contains s g → Has f p → Has g q
      → f.slot.bus ≡ bus → g.slot.bus ≡ bus → Claims f p space a → Claims g q space a
      → IsSameRegion f p g q
  pub over_roots : (space : Space) (a : ℕ) (f g : Function) (p q : Part) → Contains s f
      → Contains s g → Has f p → Has g q → Contains roots f.slot.bus → Contains roots g.slot.bus
      → Claims f p space a → Claims g q space a → IsSameRegion f p g q

-- Without the regions that are second somewhere the rest is single, also where their windows would still let accesses by.
abbrev pub SingleWithoutSeconds : Type 0
SingleWithoutSeconds =
    (roots : List ℕ) (s : System) → IsSystem s
    → IsSingleAmong (λ f part. IsNeverSecond roots s f.slot (register_of f part)) roots s
