-- What is wrong with a system, with what is given. Fault 63 `Outside` is new; 60, 61 and 62 take what is given into
-- account, and the others are as without it.
use Rattle.std.specs.Prelude.{◌≡◌, ◌≢◌, ℕ, false, IsTrue, List}
use Rattle.std.specs.List.{Contains}
use Rattle.pci_spec.specs.Slot.{Slot}
use Rattle.pci_spec.specs.System.{System, Space, Function, Leads, is_window, is_prefetchable_part}
use Rattle.pci_spec.specs.System as system
use Rattle.pci_spec.specs.Fault.{Unreached, Clash, Split, Address, RegionName, TwoRegions, address_in, named_region, named_regions}
use Rattle.pci_spec.specs.Fault as plain
use Rattle.judge_spec.specs.Given.{Given, starts}
use Rattle.judge_spec.specs.Claims.{Gets, passes, ClaimsOnBus, may_share}

pub data Fault : Type 0 where
  -- 20 to 62
  Known : (fault : plain.Fault) → Fault
  -- 63
  Outside : (slot : Slot) (register : ℕ) (space : Space) (address : ℕ) → Fault

abbrev pub fault_number : Fault → ℕ
fault_number (Known fault) = plain.fault_number fault
fault_number (Outside slot register space address) = 63

-- An enabled BAR or ROM claims the address, and on the root above it no access to it starts.
pub record IsOutside (given : Given) (roots : List ℕ) (s : System) (region : RegionName)
    (at : Address) : Type 0 where
  pub f : Function
  pub part : system.Part
  pub listed : Contains s f
  pub named : (f.slot ≡ region.slot) × (system.register_of f part ≡ region.register)
  pub no_window : is_window part ≡ false
  pub claims : system.Claims f part at.space at.address
  pub bridges : List Function
  pub root : ℕ
  pub is_root : Contains roots root
  pub leads : Leads s root bridges region.slot.bus
  pub none : starts given at.space root at.address ≡ false

-- An enabled BAR or ROM claims the address, accesses to it start on the root above it, and a bridge on the way from
-- there doesn't pass it.
pub record IsUnreached (given : Given) (roots : List ℕ) (s : System) (region : RegionName)
    (at : Address) (bridge : Slot) : Type 0 where
  pub f : Function
  pub part : system.Part
  pub listed : Contains s f
  pub named : (f.slot ≡ region.slot) × (system.register_of f part ≡ region.register)
  pub no_window : is_window part ≡ false
  pub claims : system.Claims f part at.space at.address
  pub bridges : List Function
  pub root : ℕ
  pub is_root : Contains roots root
  pub leads : Leads s root bridges region.slot.bus
  pub sent : IsTrue (starts given at.space root at.address)
  pub b : Function
  pub on_the_way : Contains bridges b
  pub named_bridge : b.slot ≡ bridge
  pub stops : passes given at.space (is_prefetchable_part f part) at.address b ≡ false

-- an access to the address gets to the bus, and two regions of the bus claim it that may not share one
pub record IsClash (given : Given) (roots : List ℕ) (s : System) (bus : ℕ) (at : Address)
    (two : TwoRegions) : Type 0 where
  pub gets : Gets given roots s at.space at.address bus
  pub claims_first : ClaimsOnBus given s bus at two.first
  pub claims_second : ClaimsOnBus given s bus at two.second
  pub differ : (two.first.slot ≡ two.second.slot) × (two.first.register ≡ two.second.register) → ⊥
  pub apart : may_share two.first.slot two.first.register two.second.slot two.second.register
      ≡ false

-- two regions on two root buses claim the address, and accesses to it start on both
pub record IsSplit (given : Given) (roots : List ℕ) (s : System) (at : Address)
    (two : TwoRegions) : Type 0 where
  pub root_first : Contains roots two.first.slot.bus
  pub root_second : Contains roots two.second.slot.bus
  pub buses : two.first.slot.bus ≢ two.second.slot.bus
  pub sent_first : IsTrue (starts given at.space two.first.slot.bus at.address)
  pub sent_second : IsTrue (starts given at.space two.second.slot.bus at.address)
  pub claims_first : ClaimsOnBus given s two.first.slot.bus at two.first
  pub claims_second : ClaimsOnBus given s two.second.slot.bus at two.second

abbrev pub IsKnownIn : Given → List ℕ → System → plain.Fault → Type 0
IsKnownIn given roots s (Unreached slot register space address bridge) =
    IsUnreached given roots s (named_region slot register) (address_in space address) bridge
IsKnownIn given roots s (Clash bus space address first first_register second second_register) =
    IsClash given roots s bus (address_in space address)
    (named_regions first first_register second second_register)
IsKnownIn given roots s (Split space address first first_register second second_register) =
    IsSplit given roots s (address_in space address)
    (named_regions first first_register second second_register)
IsKnownIn given roots s fault = plain.IsIn roots s fault

-- the fault is there, in the system with these root buses and what is given
abbrev pub IsIn : Given → List ℕ → System → Fault → Type 0
IsIn given roots s (Known fault) = IsKnownIn given roots s fault
IsIn given roots s (Outside slot register space address) =
    IsOutside given roots s (named_region slot register) (address_in space address)
