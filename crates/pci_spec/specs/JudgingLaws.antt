-- What judging looks for: regions that aren't reached, clashes and splits, and which of them is the first.
use Rattle.std.specs.Prelude.{◌≡◌, ℕ, ◌+◌, ◌*◌, ◌<◌, ◌≤◌, ◌↔◌, true, false, List, length, take, slice_index_or}
use Rattle.std.specs.List.{Contains}
use Rattle.pci_spec.specs.Slot.{Slot, slot_number}
use Rattle.pci_spec.specs.System.{System, Function, Space, Io, Memory, Part, Claims, IsPassedTo, IsSystem, Leads, is_prefetchable_part, is_window, passes, register_of}
use Rattle.pci_spec.specs.Bus.{IsNested}
use Rattle.pci_spec.specs.Fault.{IsIn, IsClash, IsSplit, ClaimsOnBus, Unreached, Clash, Split, Address, RegionName, TwoRegions, address_in, named_region, named_regions}
use Rattle.pci_spec.specs.Order.{IsFirst}
use Rattle.pci_spec.specs.Sound.{IsSingle, IsHome}

abbrev pub HasNoUnreached : List ℕ → System → Type 0
HasNoUnreached roots s =
    (slot : Slot) (register : ℕ) (space : Space) (address : ℕ) (bridge : Slot)
    → IsIn roots s (Unreached slot register space address bridge) → ⊥

-- no two regions of a bus clash at an address
abbrev pub HasNoClashAt : List ℕ → System → ℕ → Space → ℕ → Type 0
HasNoClashAt roots s bus space address =
    (first : Slot) (first_register : ℕ) (second : Slot) (second_register : ℕ)
    → IsIn roots s (Clash bus space address first first_register second second_register) → ⊥

abbrev pub HasNoClash : List ℕ → System → Type 0
HasNoClash roots s =
    (bus : ℕ) (space : Space) (address : ℕ) → HasNoClashAt roots s bus space address

-- no two regions of two root buses claim an address
abbrev pub HasNoSplitAt : List ℕ → System → Space → ℕ → Type 0
HasNoSplitAt roots s space address =
    (first : Slot) (first_register : ℕ) (second : Slot) (second_register : ℕ)
    → IsIn roots s (Split space address first first_register second second_register) → ⊥

abbrev pub HasNoSplit : List ℕ → System → Type 0
HasNoSplit roots s = (space : Space) (address : ℕ) → HasNoSplitAt roots s space address

-- At most one region claims an access exactly where no two clash and none are split between roots.
abbrev pub SingleWithoutClashes : Type 0
SingleWithoutClashes =
    (roots : List ℕ) (s : System) → IsSingle roots s ↔ (HasNoClash roots s × HasNoSplit roots s)

-- Every region is reached exactly where none is unreached.
abbrev pub HomeWithoutUnreached : Type 0
HomeWithoutUnreached =
    (roots : List ℕ) (s : System) → IsSystem s → IsNested roots s → IsHome roots s
    ↔ HasNoUnreached roots s

-- ---- the first of them

-- the order of regions, by slot and then by register, as one number
abbrev pub region_number : Slot → ℕ → ℕ
region_number slot register = slot_number slot * 256 + register

abbrev pub number_of : RegionName → ℕ
number_of region = region_number region.slot region.register

-- A BAR or ROM with an address that isn't passed all the way, the first bridge on its way that doesn't pass all of it,
-- and the least address that this bridge doesn't pass.
pub record IsFirstStop (roots : List ℕ) (s : System) (region : RegionName) (missed : Address)
    (bridge : Slot) : Type 0 where
  pub f : Function
  pub part : Part
  pub listed : Contains s f
  pub named : (f.slot ≡ region.slot) × (register_of f part ≡ region.register)
  pub no_window : is_window part ≡ false
  pub claims : Claims f part missed.space missed.address
  pub bridges : List Function
  pub root : ℕ
  pub starts : Contains roots root
  pub leads : Leads s root bridges region.slot.bus
  pub b : Function
  pub place : ℕ
  pub within : place < length bridges
  pub at : slice_index_or bridges place b ≡ b
  pub named_bridge : b.slot ≡ bridge
  pub stops : passes missed.space (is_prefetchable_part f part) missed.address b ≡ false
  -- the bridges before it pass the whole region
  pub earlier_bridges : (c : Function) → Contains (take place bridges) c → (a : ℕ)
      → Claims f part missed.space a → passes missed.space (is_prefetchable_part f part) a c ≡ true
  -- it passes the region's lower addresses
  pub lower_addresses : (a : ℕ) → a < missed.address → Claims f part missed.space a
      → passes missed.space (is_prefetchable_part f part) a b ≡ true

-- Of such regions the least.
pub record IsLeastUnreached (roots : List ℕ) (s : System) (region : RegionName) (missed : Address)
    (bridge : Slot) : Type 0 where
  pub stop : IsFirstStop roots s region missed bridge
  -- lesser regions are passed all the way
  pub lesser_regions : (g : Function) (q : Part) (sp : Space) (a : ℕ) → Contains s g
      → is_window q ≡ false
      → region_number g.slot (register_of g q) < number_of region → Claims g q sp a
      → IsPassedTo roots s sp (is_prefetchable_part g q) a g.slot.bus

-- Where every region is reached: on the lowest bus with a clash, in I/O before memory, at the least address, the two least regions.
pub record IsLeastClash (roots : List ℕ) (s : System) (bus : ℕ) (at : Address)
    (two : TwoRegions) : Type 0 where
  pub reached : HasNoUnreached roots s
  pub there : IsClash roots s bus at two
  pub lower_buses : (b : ℕ) → b < bus → (sp : Space) (a : ℕ) → HasNoClashAt roots s b sp a
  pub io_before_memory : at.space ≡ Memory → (a : ℕ) → HasNoClashAt roots s bus Io a
  pub lower_addresses : (a : ℕ) → a < at.address → HasNoClashAt roots s bus at.space a
  pub least : (slot : Slot) (register : ℕ) → ClaimsOnBus s bus at (named_region slot register)
      → number_of two.first ≤ region_number slot register
  pub next_least : (slot : Slot) (register : ℕ) → ClaimsOnBus s bus at (named_region slot register)
      → ((slot ≡ two.first.slot) × (register ≡ two.first.register) → ⊥)
      → number_of two.second ≤ region_number slot register

-- Where every region is reached and none clash: in I/O before memory, at the least address, the two least regions on root buses.
pub record IsLeastSplit (roots : List ℕ) (s : System) (at : Address) (two : TwoRegions) : Type 0 where
  pub reached : HasNoUnreached roots s
  pub apart : HasNoClash roots s
  pub there : IsSplit roots s at two
  pub io_before_memory : at.space ≡ Memory → (a : ℕ) → HasNoSplitAt roots s Io a
  pub lower_addresses : (a : ℕ) → a < at.address → HasNoSplitAt roots s at.space a
  pub least : (slot : Slot) (register : ℕ) → Contains roots slot.bus
      → ClaimsOnBus s slot.bus at (named_region slot register)
      → number_of two.first ≤ region_number slot register
  pub next_least : (slot : Slot) (register : ℕ) → Contains roots slot.bus
      → ClaimsOnBus s slot.bus at (named_region slot register)
      → ((slot ≡ two.first.slot) × (register ≡ two.first.register) → ⊥)
      → number_of two.second ≤ region_number slot register

-- The least of each kind is the first fault of judging.
abbrev pub LeastUnreachedIsFirst : Type 0
LeastUnreachedIsFirst =
    (roots : List ℕ) (s : System) → IsSystem s → IsNested roots s
    → (slot : Slot) (register : ℕ) (space : Space) (address : ℕ) (bridge : Slot)
    → IsLeastUnreached roots s (named_region slot register) (address_in space address) bridge
    → IsFirst roots s (Unreached slot register space address bridge)

abbrev pub LeastClashIsFirst : Type 0
LeastClashIsFirst =
    (roots : List ℕ) (s : System) → IsSystem s
    → (bus : ℕ) (space : Space) (address : ℕ) (first : Slot) (first_register : ℕ) (second : Slot)
    (second_register : ℕ)
    → IsLeastClash roots s bus (address_in space address)
    (named_regions first first_register second second_register)
    → IsFirst roots s (Clash bus space address first first_register second second_register)

abbrev pub LeastSplitIsFirst : Type 0
LeastSplitIsFirst =
    (roots : List ℕ) (s : System) → IsSystem s
    → (space : Space) (address : ℕ) (first : Slot) (first_register : ℕ) (second : Slot)
    (second_register : ℕ)
    → IsLeastSplit roots s (address_in space address)
    (named_regions first first_register second second_register)
    → IsFirst roots s (Split space address first first_register second second_register)
