-- Which faults of judging a list of all names, with what is given and told.
use Rattle.std.specs.Prelude.{◌≡◌, ◌⊎◌, ℕ, ◌+◌, ◌*◌, ◌<◌, ◌≤◌, IsTrue, List}
use Rattle.std.specs.List.{AllPairs, Contains}
use Rattle.pci_spec.specs.Slot.{Slot, slot_number}
use Rattle.pci_spec.specs.System.{System, Space}
use Rattle.pci_spec.specs.Fault.{Unreached, Clash, Split, Address, RegionName, TwoRegions, address_in, named_region, named_regions}
use Rattle.pci_spec.specs.Fault as plain
use Rattle.pci_spec.specs.Order.{precedes}
use Rattle.pci_spec.specs.AllFaults.{with_second}
use Rattle.judge_spec.specs.Given.{Given}
use Rattle.judge_spec.specs.Fault.{Fault, Known, Outside}
use Rattle.judge_spec.specs.AllFaults.{judging_key}
use Rattle.judge_spec.specs.ToldClaims.{Told}
use Rattle.judge_spec.specs.ToldFault.{IsOutside, IsUnreached, IsClash, IsSplit}

-- The order of regions, by slot and then by register, as one number. The last of 4096 told ranges has the register 4351.
abbrev pub region_number : Slot → ℕ → ℕ
region_number slot register = slot_number slot * 8192 + register

abbrev pub number_of : RegionName → ℕ
number_of region = region_number region.slot region.register

-- A BAR, a ROM or a told range isn't within what the host sends to its root: the least address that it doesn't.
pub record IsOutsideOf (told : Told) (given : Given) (roots : List ℕ) (s : System)
    (region : RegionName) (at : Address) : Type 0 where
  pub there : IsOutside told given roots s region at
  pub least : (sp : Space) (a : ℕ) → IsOutside told given roots s region (address_in sp a)
      → at.address ≤ a

-- A BAR, a ROM or a told range isn't home: of the bridges on the way to it that don't pass all of it the first from the
-- host, and the least address that this one doesn't pass.
pub record IsUnreachedOf (told : Told) (given : Given) (roots : List ℕ) (s : System)
    (region : RegionName) (at : Address) (bridge : Slot) : Type 0 where
  pub there : IsUnreached told given roots s region at bridge
  pub first : (sp : Space) (a : ℕ) (b : Slot)
      → IsUnreached told given roots s region (address_in sp a) b
      → (slot_number bridge < slot_number b) ⊎ ((bridge ≡ b) × (at.address ≤ a))

-- The second region clashes with one before it: the least address that it shares with any of those, and of those that
-- claim this address the least.
pub record IsClashOf (told : Told) (given : Given) (roots : List ℕ) (s : System) (bus : ℕ)
    (at : Address) (two : TwoRegions) : Type 0 where
  pub there : IsClash told given roots s bus at two
  pub rise : number_of two.first < number_of two.second
  pub least : (a : ℕ) (slot : Slot) (register : ℕ)
      → IsClash told given roots s bus (address_in at.space a) (with_second slot register two.second)
      → region_number slot register < number_of two.second
      → (at.address < a)
      ⊎ ((at.address ≡ a) × (number_of two.first ≤ region_number slot register))

-- The same of regions on two root buses.
pub record IsSplitOf (told : Told) (given : Given) (roots : List ℕ) (s : System) (at : Address)
    (two : TwoRegions) : Type 0 where
  pub there : IsSplit told given roots s at two
  pub rise : number_of two.first < number_of two.second
  pub least : (a : ℕ) (slot : Slot) (register : ℕ)
      → IsSplit told given roots s (address_in at.space a) (with_second slot register two.second)
      → region_number slot register < number_of two.second
      → (at.address < a)
      ⊎ ((at.address ≡ a) × (number_of two.first ≤ region_number slot register))

abbrev pub IsKnownNamed : Told → Given → List ℕ → System → plain.Fault → Type 0
IsKnownNamed told given roots s (Unreached slot register space address bridge) =
    IsUnreachedOf told given roots s (named_region slot register) (address_in space address) bridge
IsKnownNamed told given roots s
    (Clash bus space address first first_register second second_register) =
    IsClashOf told given roots s bus (address_in space address)
    (named_regions first first_register second second_register)
IsKnownNamed told given roots s
    (Split space address first first_register second second_register) =
    IsSplitOf told given roots s (address_in space address)
    (named_regions first first_register second second_register)
IsKnownNamed told given roots s fault = ⊥

-- a list of all names the fault
abbrev pub IsNamed : Told → Given → List ℕ → System → Fault → Type 0
IsNamed told given roots s (Known fault) = IsKnownNamed told given roots s fault
IsNamed told given roots s (Outside slot register space address) =
    IsOutsideOf told given roots s (named_region slot register) (address_in space address)

-- Just those faults, in the order in which judging looks for them, and so none twice. Told ranges stand behind the
-- registers of their slot, by line.
pub record AreAllOfJudging (told : Told) (given : Given) (roots : List ℕ) (s : System)
    (faults : List Fault) : Type 0 where
  pub each : (fault : Fault) → Contains faults fault → IsNamed told given roots s fault
  pub complete : (fault : Fault) → IsNamed told given roots s fault → Contains faults fault
  pub rising : AllPairs (λ fault other. IsTrue (precedes (judging_key fault) (judging_key other)))
      faults
