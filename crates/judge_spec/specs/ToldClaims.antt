-- What told ranges claim, beside the regions of a system.
use Rattle.std.specs.Prelude.{◌≡◌, ◌⊎◌, ℕ, ◌+◌, ◌≤◌, ◌==◌, Bool, true, false, ◌&&◌, ◌||◌, not, IsTrue, List, [], ◌∷◌, Some}
use Rattle.std.specs.List.{list_any, slice_get}
use Rattle.pci_spec.specs.Slot.{Slot, same_slot}
use Rattle.pci_spec.specs.System.{System, Space, is_space_on}
use Rattle.pci_spec.specs.Fault.{Address, RegionName}
use Rattle.judge_spec.specs.Given.{Given}
use Rattle.judge_spec.specs.Claims as untold
use Rattle.judge_spec.specs.Told.{Mark, Command, Always, Held, ToldRange}

-- the ranges of a text, and the slots of functions that are taken as asleep (Power Management 1.2, 5.4)
pub record Told : Type 0 where
  pub ranges : List ToldRange
  pub asleep : List Slot

-- where the text is empty
abbrev pub nothing_told : List Slot → Told
nothing_told asleep = record { ranges = []; asleep = asleep }

-- ---- names

-- The range of line n has the register 255 + n, behind all registers of its slot. Indexes count from 0, and lines from 1.
abbrev pub told_register : ℕ → ℕ
told_register index = 256 + index

-- a slot and a register name the range
pub record IsRangeAt (told : Told) (region : RegionName) (r : ToldRange) : Type 0 where
  pub index : ℕ
  pub at : slice_get told.ranges index ≡ Some r
  pub slot : r.slot ≡ region.slot
  pub register : told_register index ≡ region.register

-- ---- when a range is on

abbrev pub is_asleep : Told → Slot → Bool
is_asleep told slot = list_any (λ other. same_slot other slot) told.asleep

-- whether Command of the function at a slot enables a space
abbrev pub is_enabled_at : System → Slot → Space → Bool
is_enabled_at s slot space = list_any (λ f. same_slot f.slot slot && is_space_on f space) s

-- whether a range with a mark is on, by whether its function is awake and Command enables its space
abbrev pub is_on_by : Mark → Bool → Bool → Bool
is_on_by Command is_awake is_enabled = is_awake && is_enabled
is_on_by Always is_awake is_enabled = is_awake
is_on_by Held is_awake is_enabled = true

-- whether a range is on
abbrev pub is_range_on : Told → System → ToldRange → Bool
is_range_on told s r =
    is_on_by r.mark (not (is_asleep told r.slot)) (is_enabled_at s r.slot r.space)

-- ---- what it claims

-- it has the address, from its first to its last
abbrev pub Holds : ToldRange → Space → ℕ → Type 0
Holds r space a = (r.space ≡ space) × (r.first ≤ a) × (a ≤ r.last)

-- The range is on, and has an address of a space. It forwards nothing, whoever its function is.
pub record RangeClaims (told : Told) (s : System) (r : ToldRange) (space : Space)
    (a : ℕ) : Type 0 where
  pub on : IsTrue (is_range_on told s r)
  pub holds : Holds r space a

-- a told range of the bus, named by its slot and register, claims the address
pub record RangeClaimsOnBus (told : Told) (s : System) (bus : ℕ) (at : Address)
    (region : RegionName) : Type 0 where
  pub r : ToldRange
  pub named : IsRangeAt told region r
  pub on_the_bus : region.slot.bus ≡ bus
  pub claims : RangeClaims told s r at.space at.address

-- a region of the bus claims the address: one of a function, or a told range
abbrev pub ClaimsOnBus : Told → Given → System → ℕ → Address → RegionName → Type 0
ClaimsOnBus told given s bus at region =
    untold.ClaimsOnBus given s bus at region ⊎ RangeClaimsOnBus told s bus at region

-- ---- exceptions

abbrev pub is_marked_held : Mark → Bool
is_marked_held Command = false
is_marked_held Always = false
is_marked_held Held = true

-- whether a register is that of a held range, where the first range of the list has a register
abbrev pub is_held_from : ℕ → List ToldRange → ℕ → Bool
is_held_from first [] register = false
is_held_from first (r ∷ ranges) register =
    (first == register && is_marked_held r.mark) || is_held_from (first + 1) ranges register

-- whether a register is that of a held range
abbrev pub is_held : Told → ℕ → Bool
is_held told register = is_held_from (told_register 0) told.ranges register

-- whether the first of two regions is a held range, and the second another one, or any region of the same function
abbrev pub is_held_beside : Told → Slot → ℕ → Slot → ℕ → Bool
is_held_beside told held held_register other register =
    is_held told held_register && (is_held told register || same_slot held other)

-- whether two regions may claim one address
abbrev pub may_share : Told → Slot → ℕ → Slot → ℕ → Bool
may_share told first first_register second second_register =
    untold.may_share first first_register second second_register
    || is_held_beside told first first_register second second_register
    || is_held_beside told second second_register first first_register
