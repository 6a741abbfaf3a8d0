-- What judging is for, with what is given and told: at most one region claims an access, and each region is reached.
use Rattle.std.specs.Prelude.{◌≡◌, ◌⊎◌, ℕ, IsTrue, List}
use Rattle.std.specs.List.{Contains}
use Rattle.pci_spec.specs.Slot.{Slot}
use Rattle.pci_spec.specs.System.{System, Space}
use Rattle.pci_spec.specs.Bus.{IsNested}
use Rattle.pci_spec.specs.Sound.{IsInProfile, HasChains}
use Rattle.pci_spec.specs.Fault.{Address, RegionName, address_in}
use Rattle.judge_spec.specs.Given.{Given, starts}
use Rattle.judge_spec.specs.Claims.{Gets, IsPassedTo}
use Rattle.judge_spec.specs.Sound as untold
use Rattle.judge_spec.specs.Told.{ToldRange}
use Rattle.judge_spec.specs.ToldClaims.{Told, ClaimsOnBus, may_share}
use Rattle.judge_spec.specs.ToldFault.{HasToBeReached, IsNotListed, IsHeldOrphan}

-- two names are of one region, or of two that may share an address
abbrev pub MayBoth : Told → RegionName → RegionName → Type 0
MayBoth told first second =
    ((first.slot ≡ second.slot) × (first.register ≡ second.register))
    ⊎ IsTrue (may_share told first.slot first.register second.slot second.register)

-- At most one region claims an access, but for those that may share it.
pub record IsSingle (told : Told) (given : Given) (roots : List ℕ) (s : System) : Type 0 where
  -- on each bus that it gets to
  pub on_a_bus : (space : Space) (a bus : ℕ) → Gets given roots s space a bus
      → (first second : RegionName) → ClaimsOnBus told given s bus (address_in space a) first
      → ClaimsOnBus told given s bus (address_in space a) second → MayBoth told first second
  -- and over all root buses on which it starts
  pub over_roots : (space : Space) (a : ℕ) (first second : RegionName)
      → Contains roots first.slot.bus → Contains roots second.slot.bus
      → IsTrue (starts given space first.slot.bus a)
      → IsTrue (starts given space second.slot.bus a)
      → ClaimsOnBus told given s first.slot.bus (address_in space a) first
      → ClaimsOnBus told given s second.slot.bus (address_in space a) second
      → MayBoth told first second

-- Each BAR and ROM is home, and so is each told range that has to be reached: accesses to each of its addresses start on
-- the root above, and each bridge on the way passes it.
pub record IsHome (told : Told) (given : Given) (roots : List ℕ) (s : System) : Type 0 where
  pub regions : untold.IsHome given roots s
  pub ranges : (region : RegionName) (at : Address) (r : ToldRange)
      → HasToBeReached told s region at r
      → IsPassedTo given roots s at r.prefetchable region.slot.bus

-- a sound system, with what is given and told
pub record IsSound (told : Told) (given : Given) (roots : List ℕ) (s : System) : Type 0 where
  pub single : IsSingle told given roots s
  pub home : IsHome told given roots s
  pub nested : IsNested roots s
  pub profile : IsInProfile roots s
  pub chains : HasChains s
  -- each range that isn't held is of a function that is listed
  pub listed : (slot : Slot) → IsNotListed told s slot → ⊥
  -- each held range is on a root, or bridges lead to its bus
  pub led_to : (slot : Slot) → IsHeldOrphan told roots s slot → ⊥
