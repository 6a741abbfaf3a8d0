-- What is wrong with a system, with what is given and told. Fault 34 `NotListed` is new; 58 counts held ranges, and 60 to
-- 63 all told ranges.
use Rattle.std.specs.Prelude.{◌≡◌, ◌≢◌, ◌⊎◌, ℕ, false, not, IsTrue, IsFalse, List, map}
use Rattle.std.specs.List.{Contains}
use Rattle.pci_spec.specs.Slot.{Slot}
use Rattle.pci_spec.specs.System.{System, Function, Leads}
use Rattle.pci_spec.specs.Bus.{is_led_to}
use Rattle.pci_spec.specs.Fault.{Orphan, Unreached, Clash, Split, Address, RegionName, TwoRegions, address_in, named_region, named_regions}
use Rattle.pci_spec.specs.Fault as plain
use Rattle.judge_spec.specs.Given.{Given, starts}
use Rattle.judge_spec.specs.Claims.{Gets, passes}
use Rattle.judge_spec.specs.Fault as untold
use Rattle.judge_spec.specs.Told.{ToldRange}
use Rattle.judge_spec.specs.ToldClaims.{Told, IsRangeAt, RangeClaims, ClaimsOnBus, is_marked_held, may_share}

pub data Fault : Type 0 where
  -- 20 to 31, and 50 to 63
  Known : (fault : untold.Fault) → Fault
  -- 34
  NotListed : (slot : Slot) → Fault

abbrev pub fault_number : Fault → ℕ
fault_number (Known fault) = untold.fault_number fault
fault_number (NotListed slot) = 34

-- ---- slots of told ranges

-- A `command` or an `always` range is of a slot that isn't listed.
pub record IsNotListed (told : Told) (s : System) (slot : Slot) : Type 0 where
  pub r : ToldRange
  pub is_told : Contains told.ranges r
  pub not_held : IsFalse (is_marked_held r.mark)
  pub of_slot : r.slot ≡ slot
  pub not_listed : Contains (map (λ f. f.slot) s) slot → ⊥

-- The bus of a held range is no root, and no bridge leads to it.
pub record IsHeldOrphan (told : Told) (roots : List ℕ) (s : System) (slot : Slot) : Type 0 where
  pub r : ToldRange
  pub is_told : Contains told.ranges r
  pub held : IsTrue (is_marked_held r.mark)
  pub of_slot : r.slot ≡ slot
  pub not_led_to : IsTrue (not (is_led_to roots s slot.bus))

-- ---- judging

-- A told range that has to be sent and reached claims the address: one that isn't held.
pub record HasToBeReached (told : Told) (s : System) (region : RegionName) (at : Address)
    (r : ToldRange) : Type 0 where
  pub named : IsRangeAt told region r
  pub not_held : IsFalse (is_marked_held r.mark)
  pub claims : RangeClaims told s r at.space at.address

-- A told range has to be sent, and on the root above it no access to the address starts.
pub record IsRangeOutside (told : Told) (given : Given) (roots : List ℕ) (s : System)
    (region : RegionName) (at : Address) : Type 0 where
  pub r : ToldRange
  pub needs : HasToBeReached told s region at r
  pub bridges : List Function
  pub root : ℕ
  pub is_root : Contains roots root
  pub leads : Leads s root bridges region.slot.bus
  pub none : starts given at.space root at.address ≡ false

-- A told range has to be reached, accesses to the address start on the root above it, and a bridge on the way from there
-- doesn't pass it.
pub record IsRangeUnreached (told : Told) (given : Given) (roots : List ℕ) (s : System)
    (region : RegionName) (at : Address) (bridge : Slot) : Type 0 where
  pub r : ToldRange
  pub needs : HasToBeReached told s region at r
  pub bridges : List Function
  pub root : ℕ
  pub is_root : Contains roots root
  pub leads : Leads s root bridges region.slot.bus
  pub sent : IsTrue (starts given at.space root at.address)
  pub b : Function
  pub on_the_way : Contains bridges b
  pub named_bridge : b.slot ≡ bridge
  pub stops : passes given at.space r.prefetchable at.address b ≡ false

-- a BAR, a ROM or a told range is outside what the host sends
abbrev pub IsOutside : Told → Given → List ℕ → System → RegionName → Address → Type 0
IsOutside told given roots s region at =
    untold.IsOutside given roots s region at ⊎ IsRangeOutside told given roots s region at

-- a BAR, a ROM or a told range isn't reached
abbrev pub IsUnreached : Told → Given → List ℕ → System → RegionName → Address → Slot → Type 0
IsUnreached told given roots s region at bridge =
    untold.IsUnreached given roots s region at bridge
    ⊎ IsRangeUnreached told given roots s region at bridge

-- an access to the address gets to the bus, and two regions of the bus claim it that may not share one
pub record IsClash (told : Told) (given : Given) (roots : List ℕ) (s : System) (bus : ℕ)
    (at : Address) (two : TwoRegions) : Type 0 where
  pub gets : Gets given roots s at.space at.address bus
  pub claims_first : ClaimsOnBus told given s bus at two.first
  pub claims_second : ClaimsOnBus told given s bus at two.second
  pub differ : (two.first.slot ≡ two.second.slot) × (two.first.register ≡ two.second.register) → ⊥
  pub apart : may_share told two.first.slot two.first.register two.second.slot two.second.register
      ≡ false

-- two regions on two root buses claim the address, accesses to it start on both, and the two may not share one
pub record IsSplit (told : Told) (given : Given) (roots : List ℕ) (s : System) (at : Address)
    (two : TwoRegions) : Type 0 where
  pub root_first : Contains roots two.first.slot.bus
  pub root_second : Contains roots two.second.slot.bus
  pub buses : two.first.slot.bus ≢ two.second.slot.bus
  pub sent_first : IsTrue (starts given at.space two.first.slot.bus at.address)
  pub sent_second : IsTrue (starts given at.space two.second.slot.bus at.address)
  pub claims_first : ClaimsOnBus told given s two.first.slot.bus at two.first
  pub claims_second : ClaimsOnBus told given s two.second.slot.bus at two.second
  pub apart : may_share told two.first.slot two.first.register two.second.slot two.second.register
      ≡ false

-- ---- all of them

abbrev pub IsPlainIn : Told → Given → List ℕ → System → plain.Fault → Type 0
IsPlainIn told given roots s (Orphan slot) =
    plain.IsIn roots s (Orphan slot) ⊎ IsHeldOrphan told roots s slot
IsPlainIn told given roots s (Unreached slot register space address bridge) =
    IsUnreached told given roots s (named_region slot register) (address_in space address) bridge
IsPlainIn told given roots s
    (Clash bus space address first first_register second second_register) =
    IsClash told given roots s bus (address_in space address)
    (named_regions first first_register second second_register)
IsPlainIn told given roots s (Split space address first first_register second second_register) =
    IsSplit told given roots s (address_in space address)
    (named_regions first first_register second second_register)
IsPlainIn told given roots s fault = plain.IsIn roots s fault

abbrev pub IsKnownIn : Told → Given → List ℕ → System → untold.Fault → Type 0
IsKnownIn told given roots s (untold.Known fault) = IsPlainIn told given roots s fault
IsKnownIn told given roots s (untold.Outside slot register space address) =
    IsOutside told given roots s (named_region slot register) (address_in space address)

-- the fault is there, in the system with these root buses and what is given and told
abbrev pub IsIn : Told → Given → List ℕ → System → Fault → Type 0
IsIn told given roots s (Known fault) = IsKnownIn told given roots s fault
IsIn told given roots s (NotListed slot) = IsNotListed told s slot
