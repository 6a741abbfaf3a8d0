-- How settling ends once its lists are fine, and why nothing is settled.
use Rattle.std.specs.Prelude.{◌≡◌, ℕ, ◌⊎◌, IsTrue, IsFalse, List, [], None, Some, ⊤}
use Rattle.std.specs.Option.{option_map}
use Rattle.settle_laws.specs.KeptLaws.{WishesNothing}
use Rattle.pci_spec.specs.Mark.{all_named}
use Rattle.pci_spec.specs.Slot.{Slot}
use Rattle.pci_spec.specs.Window.{WindowKind, IoWindow}
use Rattle.pci_spec.specs.System.{System, Io, Memory, window_space}
use Rattle.pci_spec.specs.Machine.{Write}
use Rattle.settle_spec.specs.Lists.{Request, are_bad_lists}
use Rattle.settle_spec.specs.Assumed.{assumed_region}
use Rattle.settle_spec.specs.Stands.{stands}
use Rattle.settle_spec.specs.Writes.{Settling, BadLists, Settled, or_lack, or_write, fixed_without, fixed_write}
use Rattle.settle_spec.specs.Writes as spec
use Rattle.settle_spec.specs.Kept.{Kept as Keeping, as_it_stands, growing}
use Rattle.settle_spec.specs.Keeping.Places.{lacking}
use Rattle.settle_spec.specs.Keeping.Writes.{settle_writes, settle_keeping, is_not_reached, does_not_stay, would_be_switched, earliest, or_told, or_not_standing, or_not_staying, or_written}
use Rattle.settle_spec.specs.Growing.{settle_growing, kept_by}
use Rattle.pci_base.specs.declared.memory.Refused.{Refused}
use Rattle.pci_base.specs.declared.memory.Refused.TheVariants as refused
use Rattle.pci_base.specs.WindowKinds.{kind_value}
use Rattle.pci_tree.specs.Admission.{Admission}
use Rattle.pci_place.specs.Above.{system_in}
use Rattle.pci_place.specs.Items.{function_in}
use Rattle.pci_first_fit.specs.declared.kept.Kept.{Kept}
use Rattle.pci_first_fit.specs.declared.over.Left.{Left}
use Rattle.pci_first_fit.specs.Slots.{Demand}
use Rattle.pci_first_fit.specs.NewWindows.{IsTooLarge}
use Rattle.pci_settle_places.specs.Spaces.{space_lack}
use Rattle.pci_settle_places.specs.Placed.{IsLeaving}
use Rattle.pci_kept.specs.Windows.{HasWholeWindow}
use Rattle.pci_settle.specs.declared.lack.SettleFault.{SettleFault}
use Rattle.pci_settle.specs.declared.lack.SettleFault.TheVariants as fault
use Rattle.pci_settle.specs.Requests.{IsAskedOf}
use Rattle.pci_settle.specs.Told.{IsTableOf}
use Rattle.pci_settle.specs.Lacks.{no_room, not_kept}
use Rattle.pci_settle.specs.Fixed.{assumed_part}

-- how it ends where nothing is in the way: some writes are made, none to what is fixed, and nothing told is switched
abbrev pub then_writes : Request → System → Keeping → List Write → Settling
then_writes q s keep writes =
    or_write (fixed_write q writes)
    (or_told (earliest q (would_be_switched q s keep)) (Settled writes))

-- how it ends beside what is kept
abbrev pub after_lists : Request → System → Keeping → Settling
after_lists q s keep =
    or_not_standing q s (or_not_staying q s keep
    (or_lack (lacking q s keep) (or_written q s keep (Settled (settle_writes q s keep)))))

-- each told range that is on stands, and each fixed part
pub record AreKeptStanding (q : Request) (s : System) : Type 0 where
  pub told : earliest q (is_not_reached q s) ≡ None
  pub fixed : fixed_without (stands q s) q s ≡ None

-- each told range that stands stays, and each fixed part
pub record AreKeptStaying (q : Request) (s : System) (keep : Keeping) : Type 0 where
  pub told : earliest q (does_not_stay q s keep) ≡ None
  pub fixed : fixed_without keep.stays q s ≡ None

-- each told range and each fixed part stands and stays
pub record AreFixedKept (q : Request) (s : System) (keep : Keeping) : Type 0 where
  pub stand : AreKeptStanding q s
  pub stay : AreKeptStaying q s keep

-- the function at a slot has a new window of a class with 2^64 addresses or more
pub record IsLargeAt (a : Admission) (q : Request) (c : WindowKind) (slot : Slot) : Type 0 where
  pub function : ℕ
  pub is : slot ≡ (function_in (system_in a) function).slot
  pub large : IsTooLarge q (system_in a) c function

-- where a window is one of memory, nothing lacks a place in I/O
abbrev pub IsAfterIo : Request → System → Keeping → WindowKind → Type 0
IsAfterIo q s keep c = window_space c ≡ Memory → space_lack q s keep Io q.roots ≡ None

-- no function is fixed, and nothing is told
abbrev pub IsUnfixedUntold : Request → Type 0
IsUnfixedUntold q = (q.fixed ≡ []) × (q.told.ranges ≡ [])

-- all is placed anew where nothing is told, or no open window has all addresses of 64 bits
abbrev pub IsStayKnown : Request → System → Type 0
IsStayKnown q s = (IsTrue q.anew × (q.told.ranges ≡ [])) ⊎ (HasWholeWindow s → ⊥)

-- the function at a slot has such a window, and each told range that is on stands, and each fixed part; but beside an open
-- window of all addresses, where not all is placed anew, these stay too; and where the window is one of memory, nothing lacks a
-- place in I/O: there too, where nothing is fixed or told
pub record IsTooLargeAt (a : Admission) (q : Request) (keep : Keeping) (c : WindowKind) (slot : Slot) : Type 0 where
  pub at : IsLargeAt a q c slot
  pub stand : AreKeptStanding q (system_in a)
  pub stay : IsStayKnown q (system_in a) → AreKeptStaying q (system_in a) keep
  pub io : IsStayKnown q (system_in a) ⊎ IsUnfixedUntold q → IsAfterIo q (system_in a) keep c

-- something has no place
abbrev pub IsLack : Admission → Request → Keeping → Refused SettleFault → Type 0
IsLack a q keep refused.Memory = ⊤
IsLack a q keep (refused.Fault fault.BadLists) = ⊥
IsLack a q keep (refused.Fault (fault.Assumed slot reg)) = ⊥
IsLack a q keep (refused.Fault (fault.NoRoom lack)) =
    (other : Settling) → or_lack (lacking q (system_in a) keep) other ≡ no_room lack
IsLack a q keep (refused.Fault (fault.TooLarge class slot)) =
    IsLargeAt a q (kind_value class) slot × IsAfterIo q (system_in a) keep (kind_value class)
IsLack a q keep (refused.Fault (fault.Fixed slot reg)) = ⊥
IsLack a q keep (refused.Fault (fault.Told slot line)) = ⊥

-- something has no place of whatever leaves these windows and parts where they stand
abbrev pub IsLackOff : Admission → Demand → Left → Refused SettleFault → Type 0
IsLackOff a d left e =
    (q : Request) (keep : Keeping) → IsLeaving q keep a.roots (system_in a) d left → IsLack a q keep e

-- ---- beside what stays as it stands

-- something has no place, and nothing is fixed or told
abbrev pub IsUnfixedLack : Admission → Request → Refused SettleFault → Type 0
IsUnfixedLack a q e = IsUnfixedUntold q × IsLack a q (as_it_stands q (system_in a)) e

-- a new window of I/O is too large, or there was no memory
abbrev pub IsLargeInIo : Admission → Request → Refused SettleFault → Type 0
IsLargeInIo a q refused.Memory = ⊤
IsLargeInIo a q (refused.Fault fault.BadLists) = ⊥
IsLargeInIo a q (refused.Fault (fault.Assumed slot reg)) = ⊥
IsLargeInIo a q (refused.Fault (fault.NoRoom lack)) = ⊥
IsLargeInIo a q (refused.Fault (fault.TooLarge class slot)) =
    (kind_value class ≡ IoWindow) × IsLargeAt a q IoWindow slot
IsLargeInIo a q (refused.Fault (fault.Fixed slot reg)) = ⊥
IsLargeInIo a q (refused.Fault (fault.Told slot line)) = ⊥

-- a new window is too large beside an open one of all addresses; where nothing is fixed or told, what has no place in I/O is
-- named before one of memory; or there was no memory
abbrev pub IsTooLargeAsked : Admission → Request → Refused SettleFault → Type 0
IsTooLargeAsked a q refused.Memory = ⊤
IsTooLargeAsked a q (refused.Fault fault.BadLists) = ⊥
IsTooLargeAsked a q (refused.Fault (fault.Assumed slot reg)) = ⊥
IsTooLargeAsked a q (refused.Fault (fault.NoRoom lack)) =
    IsUnfixedUntold q
    × ((other : Settling) → or_lack (lacking q (system_in a) (as_it_stands q (system_in a))) other ≡ no_room lack)
IsTooLargeAsked a q (refused.Fault (fault.TooLarge class slot)) =
    IsLargeAt a q (kind_value class) slot
    × (HasWholeWindow (system_in a)
    × (IsUnfixedUntold q → IsAfterIo q (system_in a) (as_it_stands q (system_in a)) (kind_value class)))
IsTooLargeAsked a q (refused.Fault (fault.Fixed slot reg)) = ⊥
IsTooLargeAsked a q (refused.Fault (fault.Told slot line)) = ⊥

-- ---- with tables of what is kept

-- they are those of what is asked for, and nothing fixed or told is in the way
pub record AreAskedFor (q : Request) (keep : Keeping) (a : Admission) (d : Demand) (left : Left)
    (staying : List Kept) : Type 0 where
  pub asked : IsAskedOf q a.roots d
  pub leaving : IsLeaving q keep a.roots (system_in a) d left
  pub kept : AreFixedKept q (system_in a) keep
  pub stay : IsTableOf (system_in a) keep.stays staying
  pub none : WishesNothing keep

-- it ends so where the lists are fine, or a new window is too large, or there was no memory
abbrev pub IsEndedBy : Admission → Request → Keeping → Refused SettleFault → Type 0
IsEndedBy a q keep refused.Memory = ⊤
IsEndedBy a q keep (refused.Fault fault.BadLists) = ⊥
IsEndedBy a q keep (refused.Fault (fault.Assumed slot reg)) = ⊥
IsEndedBy a q keep (refused.Fault (fault.NoRoom lack)) =
    after_lists q (system_in a) keep ≡ no_room lack
IsEndedBy a q keep (refused.Fault (fault.TooLarge class slot)) =
    IsTooLargeAt a q keep (kind_value class) slot
IsEndedBy a q keep (refused.Fault (fault.Fixed slot reg)) =
    after_lists q (system_in a) keep ≡ spec.Fixed slot reg
IsEndedBy a q keep (refused.Fault (fault.Told slot line)) =
    after_lists q (system_in a) keep ≡ not_kept slot line

-- ---- where windows grow

-- nothing is settled
abbrev pub IsNothingSettled : Settling → Type 0
IsNothingSettled (Settled writes) = ⊥
IsNothingSettled refused = ⊤

abbrev pub IsRefusedGrowing : Admission → Request → Type 0
IsRefusedGrowing a q = IsNothingSettled (after_lists q (system_in a) (growing q (system_in a)))

-- some function has a new window of 2^64 addresses or more
pub record HasLarge (a : Admission) (q : Request) : Type 0 where
  pub class : WindowKind
  pub slot : Slot
  pub at : IsLargeAt a q class slot

-- nothing is settled where windows grow, or a new window is too large, or there was no memory
abbrev pub IsNotGrown : Admission → Request → Refused SettleFault → Type 0
IsNotGrown a q refused.Memory = ⊤
IsNotGrown a q (refused.Fault fault.BadLists) = ⊥
IsNotGrown a q (refused.Fault (fault.Assumed slot reg)) = ⊥
IsNotGrown a q (refused.Fault (fault.NoRoom lack)) = IsRefusedGrowing a q
IsNotGrown a q (refused.Fault (fault.TooLarge class slot)) = IsLargeAt a q (kind_value class) slot
IsNotGrown a q (refused.Fault (fault.Fixed slot reg)) = IsRefusedGrowing a q
IsNotGrown a q (refused.Fault (fault.Told slot line)) = IsRefusedGrowing a q

-- what is kept where the lists are fine: what grows, or else what stays as it stands
abbrev pub kept_after : Request → System → Keeping
kept_after q s = kept_by (after_lists q s (growing q s)) (growing q s) (as_it_stands q s)

-- it ends so beside what stays as it stands, and nothing is settled where windows grow, or a new window is too large
abbrev pub EndsAfter : Admission → Request → Settling → Type 0
EndsAfter a q end =
    (after_lists q (system_in a) (as_it_stands q (system_in a)) ≡ end)
    × (IsRefusedGrowing a q ⊎ HasLarge a q)

-- it ends so where the lists are fine, or a new window is too large, or there was no memory
abbrev pub IsEndedAfter : Admission → Request → Refused SettleFault → Type 0
IsEndedAfter a q refused.Memory = ⊤
IsEndedAfter a q (refused.Fault fault.BadLists) = ⊥
IsEndedAfter a q (refused.Fault (fault.Assumed slot reg)) = ⊥
IsEndedAfter a q (refused.Fault (fault.NoRoom lack)) = EndsAfter a q (no_room lack)
IsEndedAfter a q (refused.Fault (fault.TooLarge class slot)) =
    IsTooLargeAt a q (as_it_stands q (system_in a)) (kind_value class) slot
IsEndedAfter a q (refused.Fault (fault.Fixed slot reg)) = EndsAfter a q (spec.Fixed slot reg)
IsEndedAfter a q (refused.Fault (fault.Told slot line)) = EndsAfter a q (not_kept slot line)

-- ---- the whole

-- no part that the titles of the probe name has an assumed read back
abbrev pub HasNoAssumed : Admission → Type 0
HasNoAssumed a = assumed_region (all_named a.probe) (system_in a) ≡ None

-- the lists are fine, and this is the first part whose read back is assumed
abbrev pub IsAssumedFirst : Admission → Request → SettleFault → Type 0
IsAssumedFirst a q fault =
    IsFalse (are_bad_lists q.roots q.lists)
    × (option_map assumed_part (assumed_region (all_named a.probe) (system_in a)) ≡ Some fault)

-- settling ends so; where a new window is too large, it ends so beside what stays as it stands
abbrev pub EndsWith : Admission → Request → Settling → Type 0
EndsWith a q end =
    (settle_growing q (system_in a) ≡ end)
    ⊎ (HasLarge a q × (settle_keeping q (system_in a) (as_it_stands q (system_in a)) ≡ end))

-- settling ends so, or a read back is assumed, or a new window is too large for the lists, which are fine, or there was no
-- memory
abbrev pub IsRefusal : Admission → Request → Refused SettleFault → Type 0
IsRefusal a q refused.Memory = ⊤
IsRefusal a q (refused.Fault fault.BadLists) = settle_growing q (system_in a) ≡ BadLists
IsRefusal a q (refused.Fault (fault.Assumed slot reg)) =
    IsAssumedFirst a q (fault.Assumed slot reg)
IsRefusal a q (refused.Fault (fault.NoRoom lack)) =
    HasNoAssumed a × EndsWith a q (no_room lack)
IsRefusal a q (refused.Fault (fault.TooLarge class slot)) =
    IsFalse (are_bad_lists q.roots q.lists) × HasNoAssumed a
    × IsTooLargeAt a q (as_it_stands q (system_in a)) (kind_value class) slot
IsRefusal a q (refused.Fault (fault.Fixed slot reg)) =
    HasNoAssumed a × EndsWith a q (spec.Fixed slot reg)
IsRefusal a q (refused.Fault (fault.Told slot line)) =
    HasNoAssumed a × EndsWith a q (not_kept slot line)
