-- Which faults of judging a list of all names: one for each region that isn't home, and one for each region that
-- shares an address with a region before it.
use Rattle.std.specs.Prelude.{◌≡◌, ◌⊎◌, ℕ, ◌<◌, ◌≤◌, IsTrue, List}
use Rattle.std.specs.List.{AllPairs, Contains}
use Rattle.pci_spec.specs.Slot.{Slot, slot_number}
use Rattle.pci_spec.specs.System.{System, Space}
use Rattle.pci_spec.specs.Fault.{Fault, Unreached, Clash, Split, Address, RegionName, TwoRegions, address_in, named_region, named_regions, IsUnreached, IsClash, IsSplit}
use Rattle.pci_spec.specs.Order.{precedes, judging_key}
use Rattle.pci_spec.specs.JudgingLaws.{region_number, number_of}

-- An enabled BAR or ROM isn't home: of the bridges on the way to it that don't pass all of it the first from the host,
-- and the least address that this one doesn't pass.
pub record IsUnreachedOf (roots : List ℕ) (s : System) (region : RegionName) (at : Address)
    (bridge : Slot) : Type 0 where
  pub there : IsUnreached roots s region at bridge
  -- the buses of bridges rise on the way, and so do their slots
  pub first : (sp : Space) (a : ℕ) (b : Slot) → IsUnreached roots s region (address_in sp a) b
      → (slot_number bridge < slot_number b) ⊎ ((bridge ≡ b) × (at.address ≤ a))

-- another region and the second of two
abbrev pub with_second : Slot → ℕ → RegionName → TwoRegions
with_second slot register second = named_regions slot register second.slot second.register

-- The second region clashes with one before it: the least address that it shares with any of those, and of those that
-- claim this address the least.
pub record IsClashOf (roots : List ℕ) (s : System) (bus : ℕ) (at : Address)
    (two : TwoRegions) : Type 0 where
  pub there : IsClash roots s bus at two
  pub rise : number_of two.first < number_of two.second
  pub least : (a : ℕ) (slot : Slot) (register : ℕ)
      → IsClash roots s bus (address_in at.space a) (with_second slot register two.second)
      → region_number slot register < number_of two.second
      → (at.address < a)
      ⊎ ((at.address ≡ a) × (number_of two.first ≤ region_number slot register))

-- The same of regions on two root buses.
pub record IsSplitOf (roots : List ℕ) (s : System) (at : Address) (two : TwoRegions) : Type 0 where
  pub there : IsSplit roots s at two
  pub rise : number_of two.first < number_of two.second
  pub least : (a : ℕ) (slot : Slot) (register : ℕ)
      → IsSplit roots s (address_in at.space a) (with_second slot register two.second)
      → region_number slot register < number_of two.second
      → (at.address < a)
      ⊎ ((at.address ≡ a) × (number_of two.first ≤ region_number slot register))

-- a list of all names the fault
abbrev pub IsNamed : List ℕ → System → Fault → Type 0
IsNamed roots s (Unreached slot register space address bridge) =
    IsUnreachedOf roots s (named_region slot register) (address_in space address) bridge
IsNamed roots s (Clash bus space address first first_register second second_register) =
    IsClashOf roots s bus (address_in space address)
    (named_regions first first_register second second_register)
IsNamed roots s (Split space address first first_register second second_register) =
    IsSplitOf roots s (address_in space address)
    (named_regions first first_register second second_register)
IsNamed roots s fault = ⊥

-- just those faults, in the order in which judging looks for them, and so none twice
pub record AreAllOfJudging (roots : List ℕ) (s : System) (faults : List Fault) : Type 0 where
  pub each : (fault : Fault) → Contains faults fault → IsNamed roots s fault
  pub complete : (fault : Fault) → IsNamed roots s fault → Contains faults fault
  pub rising : AllPairs (λ fault other. IsTrue (precedes (judging_key fault) (judging_key other)))
      faults
