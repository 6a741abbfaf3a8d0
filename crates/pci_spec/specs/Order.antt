-- In which order faults are looked for. Of several that are there, the one with the least key is named.
use Rattle.std.specs.Prelude.{ℕ, ◌+◌, ◌==◌, nat_lt, Bool, false, ◌&&◌, ◌||◌, if◌then◌else◌, IsTrue, List, [], ◌∷◌, ◌++◌, slice_index_or}
use Rattle.std.specs.List.{filter, range_with_len}
use Rattle.pci_spec.specs.Slot.{Slot, same_slot}
use Rattle.pci_spec.specs.Capability.{pointer}
use Rattle.pci_spec.specs.Text.{Block}
use Rattle.pci_spec.specs.System.{System, Space, Io, Memory, system_of}
use Rattle.pci_spec.specs.Fault.{Fault, ProfileFault, profile_key, NoVendor, HeaderKind, BarType, BarMask, BarPair, RomMask, WindowMask, CapRange, CapLoop, CapCut, SlotsDiffer, StrayProbe, LoneFunction, OfProfile, BusRange, Orphan, Unreached, Clash, Split, IsIn, IsThere}

-- one list of numbers is before another, by the first place at which they differ
abbrev pub precedes : List ℕ → List ℕ → Bool
precedes [] ys = false
precedes (x ∷ xs) [] = false
precedes (x ∷ xs) (y ∷ ys) = nat_lt x y || (x == y && precedes xs ys)

abbrev pub slot_key : Slot → List ℕ
slot_key slot = slot.bus ∷ slot.device ∷ slot.function ∷ []

abbrev pub space_key : Space → ℕ
space_key Io = 0
space_key Memory = 1

-- Each phase is done for all functions before the next one begins.
pub data Phase : Type 0 where
  -- dump and probe list the same slots
  Slots : Phase
  -- each function is one of a known header, and its probe shows address registers alone
  Identity : Phase
  -- its address registers and its capabilities list decode
  Decoding : Phase
  -- nothing is set that changes what it decodes
  Profile : Phase
  -- it has its place in the tree of buses
  Place : Phase
  -- every region is reached, and none clashes with another
  Judging : Phase

abbrev pub phase_key : Phase → ℕ
phase_key Slots = 0
phase_key Identity = 1
phase_key Decoding = 2
phase_key Profile = 3
phase_key Place = 4
phase_key Judging = 5

-- what is looked at in each phase, in this order
pub data Check : Type 0 where
  -- of Identity
  VendorId HeaderType ReadBacks : Check
  -- of Decoding
  Bars ExpansionRom Windows Capabilities : Check
  -- of a place of the capabilities list
  PlaceRange PlaceVisits PlaceBody : Check
  -- of Profile
  ProfileCheck : (fault : ProfileFault) → Check
  -- of Place
  FunctionZero WayToBus BusNumbers : Check
  -- of Judging
  Reach Clashes Splits : Check

abbrev pub check_key : Check → ℕ
check_key VendorId = 0
check_key HeaderType = 1
check_key ReadBacks = 2
check_key Bars = 0
check_key ExpansionRom = 1
check_key Windows = 2
check_key Capabilities = 3
check_key PlaceRange = 0
check_key PlaceVisits = 1
check_key PlaceBody = 2
check_key (ProfileCheck fault) = profile_key fault
check_key FunctionZero = 0
check_key WayToBus = 1
check_key BusNumbers = 2
check_key Reach = 0
check_key Clashes = 1
check_key Splits = 2

-- there are 64 pointers: a walk comes to a place within so many steps or never, and again within as many more or never
abbrev pub longest_walk : ℕ
longest_walk = 128

-- at which steps of the walk along a capabilities list a place is met
unfoldable pub steps_at : List ℕ → ℕ → List ℕ
steps_at image place = filter (λ n. pointer image n == place) (range_with_len 0 (longest_walk + 1))

-- at which step a place is met after so many times; behind all steps where it isn't
abbrev pub step_after : ℕ → List ℕ → ℕ → ℕ
step_after times image place = slice_index_or (steps_at image place) times (longest_walk + 1)

-- what unreached addresses, clashes and splits are ordered by: unreached ones by region, bridge from the host outwards
-- (the buses of bridges rise on the way) and address; clashes by bus, space, address and the two regions; splits likewise
abbrev pub judging_key : Fault → List ℕ
judging_key (Unreached slot register space address bridge) =
    check_key Reach ∷ slot_key slot ++ (register ∷ slot_key bridge) ++ (address ∷ [])
judging_key (Clash bus space address first first_register second second_register) =
    check_key Clashes ∷ bus ∷ space_key space ∷ address ∷ slot_key first
    ++ (first_register ∷ slot_key second) ++ (second_register ∷ [])
judging_key (Split space address first first_register second second_register) =
    check_key Splits ∷ space_key space ∷ address ∷ slot_key first
    ++ (first_register ∷ slot_key second) ++ (second_register ∷ [])
judging_key fault = []

-- within a phase: functions by slot, each function's checks, then what stands here for each of them
abbrev pub in_phase : Phase → Slot → Check → List ℕ → List ℕ
in_phase phase slot check rest = phase_key phase ∷ slot_key slot ++ check_key check ∷ rest

-- The whole order; the image of a slot's function tells in which order its capabilities are met.
abbrev pub looking_key : (Slot → List ℕ) → Fault → List ℕ
looking_key image_of (SlotsDiffer slot) = phase_key Slots ∷ slot_key slot
looking_key image_of (NoVendor slot) = in_phase Identity slot VendorId []
looking_key image_of (HeaderKind slot) = in_phase Identity slot HeaderType []
looking_key image_of (StrayProbe slot offset) = in_phase Identity slot ReadBacks (offset ∷ [])
-- BARs by register, each with the first of its rules that it breaks
looking_key image_of (BarType slot register) = in_phase Decoding slot Bars (register ∷ [])
looking_key image_of (BarMask slot register) = in_phase Decoding slot Bars (register ∷ [])
looking_key image_of (BarPair slot register) = in_phase Decoding slot Bars (register ∷ [])
looking_key image_of (RomMask slot register) = in_phase Decoding slot ExpansionRom []
looking_key image_of (WindowMask slot register) = in_phase Decoding slot Windows (register ∷ [])
-- places in the order of the walk
looking_key image_of (CapRange slot place) =
    in_phase Decoding slot Capabilities
    (step_after 0 (image_of slot) place ∷ check_key PlaceRange ∷ [])
looking_key image_of (CapLoop slot place) =
    in_phase Decoding slot Capabilities
    (step_after 1 (image_of slot) place ∷ check_key PlaceVisits ∷ [])
looking_key image_of (CapCut slot place) =
    in_phase Decoding slot Capabilities
    (step_after 0 (image_of slot) place ∷ check_key PlaceBody ∷ [])
looking_key image_of (OfProfile fault slot) = in_phase Profile slot (ProfileCheck fault) []
looking_key image_of (LoneFunction slot) = in_phase Place slot FunctionZero []
looking_key image_of (Orphan slot) = in_phase Place slot WayToBus []
looking_key image_of (BusRange slot) = in_phase Place slot BusNumbers []
looking_key image_of (Unreached slot register space address bridge) =
    phase_key Judging ∷ judging_key (Unreached slot register space address bridge)
looking_key image_of (Clash bus space address first first_register second second_register) =
    phase_key Judging
    ∷ judging_key (Clash bus space address first first_register second second_register)
looking_key image_of (Split space address first first_register second second_register) =
    phase_key Judging
    ∷ judging_key (Split space address first first_register second second_register)

-- whether a fault is looked for before another
abbrev pub is_before : (Slot → List ℕ) → Fault → Fault → Bool
is_before image_of fault other = precedes (looking_key image_of fault) (looking_key image_of other)

-- the phase in which a fault is looked for: the first number of its key
abbrev pub phase_of : Fault → ℕ
phase_of fault = slice_index_or (looking_key (λ slot. []) fault) 0 0

-- the image of the function at a slot
abbrev pub image_at : System → Slot → List ℕ
image_at [] slot = []
image_at (f ∷ s) slot = if same_slot f.slot slot then f.image else image_at s slot

-- the fault is there, in a system with these root buses, and none that is looked for before it
pub record IsFirstIn (roots : List ℕ) (s : System) (fault : Fault) : Type 0 where
  pub there : IsIn roots s fault
  pub none_before : (other : Fault) → IsTrue (is_before (image_at s) other fault)
      → IsIn roots s other → ⊥

-- the same, in a dump and its probe
pub record IsFirstThere (roots : List ℕ) (dump probe : List Block) (fault : Fault) : Type 0 where
  pub there : IsThere roots dump probe fault
  pub none_before : (other : Fault)
      → IsTrue (is_before (image_at (system_of dump probe)) other fault)
      → IsThere roots dump probe other → ⊥

-- the fault of judging is there, and none of judging that is looked for before it
pub record IsFirst (roots : List ℕ) (s : System) (fault : Fault) : Type 0 where
  pub there : IsIn roots s fault
  pub first : (other : Fault) → IsTrue (precedes (judging_key other) (judging_key fault))
      → IsIn roots s other → ⊥
