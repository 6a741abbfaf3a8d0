-- Which faults of judging a list of all names, with what is given.
use Rattle.std.specs.Prelude.{◌≡◌, ◌⊎◌, ℕ, ◌<◌, ◌≤◌, IsTrue, List, [], ◌∷◌, ◌++◌}
use Rattle.std.specs.List.{AllPairs, Contains}
use Rattle.pci_spec.specs.Slot.{Slot, slot_number}
use Rattle.pci_spec.specs.System.{System, Space}
use Rattle.pci_spec.specs.Fault.{Unreached, Clash, Split, Address, RegionName, TwoRegions, address_in, named_region, named_regions}
use Rattle.pci_spec.specs.Fault as plain
use Rattle.pci_spec.specs.Order.{precedes, slot_key}
use Rattle.pci_spec.specs.Order as order
use Rattle.pci_spec.specs.JudgingLaws.{region_number, number_of}
use Rattle.pci_spec.specs.AllFaults.{with_second}
use Rattle.judge_spec.specs.Given.{Given}
use Rattle.judge_spec.specs.Fault.{Fault, Known, Outside, IsOutside, IsUnreached, IsClash, IsSplit}

-- An enabled BAR or ROM isn't within what the host sends to its root: the least address that it doesn't.
pub record IsOutsideOf (given : Given) (roots : List ℕ) (s : System) (region : RegionName)
    (at : Address) : Type 0 where
  pub there : IsOutside given roots s region at
  pub least : (sp : Space) (a : ℕ) → IsOutside given roots s region (address_in sp a)
      → at.address ≤ a

-- An enabled BAR or ROM isn't home: of the bridges on the way to it that don't pass all of it the first from the host,
-- and the least address that this one doesn't pass.
pub record IsUnreachedOf (given : Given) (roots : List ℕ) (s : System) (region : RegionName)
    (at : Address) (bridge : Slot) : Type 0 where
  pub there : IsUnreached given roots s region at bridge
  pub first : (sp : Space) (a : ℕ) (b : Slot)
      → IsUnreached given roots s region (address_in sp a) b
      → (slot_number bridge < slot_number b) ⊎ ((bridge ≡ b) × (at.address ≤ a))

-- The second region clashes with one before it: the least address that it shares with any of those, and of those that
-- claim this address the least.
pub record IsClashOf (given : Given) (roots : List ℕ) (s : System) (bus : ℕ) (at : Address)
    (two : TwoRegions) : Type 0 where
  pub there : IsClash given roots s bus at two
  pub rise : number_of two.first < number_of two.second
  pub least : (a : ℕ) (slot : Slot) (register : ℕ)
      → IsClash given roots s bus (address_in at.space a) (with_second slot register two.second)
      → region_number slot register < number_of two.second
      → (at.address < a)
      ⊎ ((at.address ≡ a) × (number_of two.first ≤ region_number slot register))

-- The same of regions on two root buses.
pub record IsSplitOf (given : Given) (roots : List ℕ) (s : System) (at : Address)
    (two : TwoRegions) : Type 0 where
  pub there : IsSplit given roots s at two
  pub rise : number_of two.first < number_of two.second
  pub least : (a : ℕ) (slot : Slot) (register : ℕ)
      → IsSplit given roots s (address_in at.space a) (with_second slot register two.second)
      → region_number slot register < number_of two.second
      → (at.address < a)
      ⊎ ((at.address ≡ a) × (number_of two.first ≤ region_number slot register))

abbrev pub IsKnownNamed : Given → List ℕ → System → plain.Fault → Type 0
IsKnownNamed given roots s (Unreached slot register space address bridge) =
    IsUnreachedOf given roots s (named_region slot register) (address_in space address) bridge
IsKnownNamed given roots s (Clash bus space address first first_register second second_register) =
    IsClashOf given roots s bus (address_in space address)
    (named_regions first first_register second second_register)
IsKnownNamed given roots s (Split space address first first_register second second_register) =
    IsSplitOf given roots s (address_in space address)
    (named_regions first first_register second second_register)
IsKnownNamed given roots s fault = ⊥

-- a list of all names the fault
abbrev pub IsNamed : Given → List ℕ → System → Fault → Type 0
IsNamed given roots s (Known fault) = IsKnownNamed given roots s fault
IsNamed given roots s (Outside slot register space address) =
    IsOutsideOf given roots s (named_region slot register) (address_in space address)

-- regions outside the host's ranges come first, by slot and register, then the others in their order
abbrev pub judging_key : Fault → List ℕ
judging_key (Outside slot register space address) =
    0 ∷ slot_key slot ++ (register ∷ address ∷ [])
judging_key (Known fault) = 1 ∷ order.judging_key fault

-- just those faults, in the order in which judging looks for them, and so none twice
pub record AreAllOfJudging (given : Given) (roots : List ℕ) (s : System)
    (faults : List Fault) : Type 0 where
  pub each : (fault : Fault) → Contains faults fault → IsNamed given roots s fault
  pub complete : (fault : Fault) → IsNamed given roots s fault → Contains faults fault
  pub rising : AllPairs (λ fault other. IsTrue (precedes (judging_key fault) (judging_key other)))
      faults
