-- The laws, as the contracts name them.
use Rattle.std.specs.Prelude.{◌≡◌, ℕ, suc, ◌⊎◌, map, None, ◌-◌, ◌+◌, ◌%◌, ◌^◌, ◌<◌, ◌≤◌, nat_lt, Bool, false, IsTrue, IsFalse, List, ◌++◌, length, take}
use Rattle.std.specs.List.{Contains, All, AllZip, flat_map, sum}
use Rattle.pci_spec.specs.System.{System, Function, IsSystem, Part, Space, Claims, is_bridge, is_window, is_prefetchable_part, passes, Window}
use Rattle.pci_spec.specs.Bus.{IsNested, LeadsTo}
use Rattle.pci_spec.specs.Sound.{IsSingle, IsHome, HasChains, IsInProfile, IsSound, is_of_profile}
use Rattle.pci_spec.specs.Number.{IsImage, has_bit}
use Rattle.pci_spec.specs.Fault.{Fault, IsIn}
use Rattle.pci_spec.specs.Machine.{Write, target_of, after_writes, write_system, system_after}
use Rattle.plan_spec.specs.Plan.{IsMoved, Pools, pool_of, window_size, own_sizes, window_over, items_on, fits, raised_to, greatest, are_bad, has_behind, IsPlanned}
use Rattle.plan_spec.specs.Planning.Placing.{IsFalling, IsHeld, starts}
use Rattle.plan_spec.specs.Planning.Safety.{is_on, IsCutAt, IsSafe}
use Rattle.plan_spec.specs.Planning.Fitting.{FitsAt, IsFitting, FitsByNumber}
use Rattle.plan_spec.specs.Planning.Ranges.{Ranges, HoldsClaims, AreApart}
use Rattle.pci_spec.specs.Decoded.{IsDecodable, aligned_range, bar_size, rom_size}
use Rattle.plan_spec.specs.Planning.Layout.{IsLaidOut, IsSwitchedOn, range_of}
use Rattle.plan_spec.specs.Planning.Table.{need_behind, IsPlacing, IsTable, IsShown}
use Rattle.plan_spec.specs.Planning.PlanWrites.{Change, olds, news, closing_writes, plan_writes, most_writes}
use Rattle.std.specs.Int.{bit_at}
use Rattle.pci_spec.specs.Bar.{bar_at, bar_kind, bar_fault, whole_bar, has_bar, first_bit}
use Rattle.pci_spec.specs.Rom.{rom_at, has_rom, breaks_rom_rule}
use Rattle.pci_spec.specs.Window.{WindowKind, bounds_at, page_size, is_closed, bounds_for}
use Rattle.plan_spec.specs.Planning.BusNeeds.{added_on}
use Rattle.plan_spec.specs.Planning.Building.{AreFitting, IsBuilt, built}
use Rattle.plan_spec.specs.Planning.Showing.{reach_of, bar_value, rom_value}
use Rattle.plan_spec.specs.Planning.Room.{IsRaised, root_items}
use Rattle.plan_spec.specs.Planning.Stops.{IsAside, Closes, IsStaged, Rises, IsOffFrom}

-- where nothing is on, the registers don't matter
abbrev pub OffIsSafe : Type 0
OffIsSafe = (roots : List ℕ) (s : System) → IsOffFrom 0 s → IsSafe roots s

-- what is left of a safe system when everything from a slot on is off
abbrev pub LowerPartIsSafe : Type 0
LowerPartIsSafe =
    (roots : List ℕ) (n : ℕ) (part whole : System) → IsSystem whole → IsNested roots whole
    → IsCutAt n part whole → IsSafe roots whole → IsSafe roots part

-- from a safe start a plan's writes can stop anywhere
abbrev pub CanStopAnywhere : Type 0
CanStopAnywhere =
    (roots : List ℕ) (s : System) (closing registers opening : List Write) → IsSystem s
    → IsNested roots s → IsSafe roots s
    → Closes s (2 ^ 16) closing → All IsAside registers → Rises 0 opening
    → IsSystem (system_after s (closing ++ (registers ++ opening)))
    → IsNested roots (system_after s (closing ++ (registers ++ opening)))
    → IsSafe roots (system_after s (closing ++ (registers ++ opening)))
    → (k : ℕ) → IsSafe roots (system_after s (take k (closing ++ (registers ++ opening))))

-- and from any start once everything is off
abbrev pub CanStopOnceOff : Type 0
CanStopOnceOff =
    (roots : List ℕ) (s : System) (registers opening : List Write) → IsOffFrom 0 s
    → All IsAside registers → Rises 0 opening
    → IsSystem (system_after s (registers ++ opening))
    → IsNested roots (system_after s (registers ++ opening))
    → IsSafe roots (system_after s (registers ++ opening))
    → (k : ℕ) → IsSafe roots (system_after s (take k (registers ++ opening)))

-- A register write to a function that is off adds no claim: what claims after it was there before.
abbrev pub OffClaimsNothing : Type 0
OffClaimsNothing =
    (s : System) (w : Write) → IsAside w
    → ((f : Function) → Contains s f → f.slot ≡ w.slot → IsFalse (is_on f))
    → (f : Function) (p : Part) (space : Space) (a : ℕ) → Contains (write_system s w) f
    → Claims f p space a → Contains s f

-- a window of the size that its need asks for, aligned to itself, holds what is behind it, to the page
abbrev pub WindowHolds : Type 0
WindowHolds =
    (c : WindowKind) (base : ℕ) (sizes : List ℕ) → IsFalling sizes → sum sizes ≤ 2 ^ 65
    → base % window_size c (sum sizes) ≡ 0
    → IsHeld (page_size c) (window_size c (sum sizes)) base sizes (starts base sizes)

-- From a lawful start, where each write fits, every state on the way is safe and keeps what isn't about regions.
abbrev pub StaysLawful : Type 0
StaysLawful =
    (roots : List ℕ) (s : System) (closing registers opening : List Write) → IsSystem s
    → IsNested roots s → IsInProfile roots s → HasChains s → IsSafe roots s
    → IsStaged s closing registers opening → All (FitsAt s) (closing ++ (registers ++ opening))
    → IsSafe roots (system_after s (closing ++ (registers ++ opening)))
    → (k : ℕ) → IsSound roots (system_after s (take k (closing ++ (registers ++ opening))))

-- and from any start that is nested, once the closing writes are made
abbrev pub LawfulOnceClosed : Type 0
LawfulOnceClosed =
    (roots : List ℕ) (s : System) (closing registers opening : List Write) → IsSystem s
    → IsNested roots s → IsInProfile roots s → HasChains s
    → IsStaged s closing registers opening → All (FitsAt s) (closing ++ (registers ++ opening))
    → IsSafe roots (system_after s (closing ++ (registers ++ opening)))
    → (k : ℕ) → length closing ≤ k
    → IsSound roots (system_after s (take k (closing ++ (registers ++ opening))))

-- a write fits where its number shows the register but for address bits and the enables
abbrev pub FitsIfNumberDoes : Type 0
FitsIfNumberDoes = (w : Write) (f : Function) → IsImage f.image → FitsByNumber w f → IsFitting w f

-- Each region is reached, where the bridge that leads to it passes it, and each bridge passes what those behind it pass.
abbrev pub HomeBySteps : Type 0
HomeBySteps =
    (roots : List ℕ) (s : System) → IsNested roots s
    → ((f c : Function) (p : Part) (space : Space) (a : ℕ) → Contains s f → is_window p ≡ false
    → Claims f p space a → LeadsTo s c f.slot.bus
    → IsTrue (passes space (is_prefetchable_part f p) a c))
    → ((b c : Function) (space : Space) (prefetchable : Bool) (a : ℕ) → Contains s b
    → IsTrue (is_bridge b) → IsTrue (passes space prefetchable a b) → LeadsTo s c b.slot.bus
    → IsTrue (passes space prefetchable a c))
    → IsHome roots s

-- at most one region claims an address where the ranges of a bus are apart
abbrev pub SingleByRanges : Type 0
SingleByRanges =
    (roots : List ℕ) (s : System) (r : Ranges) → HoldsClaims s r → AreApart roots s r
    → IsSingle roots s

-- the items of a bus, by the items of the buses behind its bridges
abbrev pub ItemsByBehind : Type 0
ItemsByBehind =
    (roots : List ℕ) (s : System) (pools : Pools) (c : WindowKind) → IsSystem s → IsNested roots s
    → (bus : ℕ)
    → items_on s pools c bus
    ≡ flat_map (own_sizes s pools c bus) s
    ++ flat_map (λ b. window_over c bus b (need_behind s pools c b)) s

abbrev pub RaisedIsLeast : Type 0
RaisedIsLeast = (size n : ℕ) → 0 < size → IsRaised size n (raised_to size n)

-- what fits stays in the pool
abbrev pub FitHasRoom : Type 0
FitHasRoom =
    (roots : List ℕ) (s : System) (pools : Pools) (c : WindowKind) → IsTrue (fits roots s pools c)
    → (pool_of pools c).last < 2 ^ 64 → 0 < sum (root_items roots s pools c)
    → raised_to (greatest (root_items roots s pools c)) (pool_of pools c).first
    + sum (root_items roots s pools c) ≤ (pool_of pools c).last + 1

-- moving brings no fault of a BAR, nor of what has no address bits
abbrev pub BringsNoFault : Type 0
BringsNoFault =
    (roots : List ℕ) (s t : System) → IsSystem s → HasChains s → AllZip IsMoved s t
    → (fault : Fault) → IsTrue (is_of_profile fault) → IsIn roots t fault → IsIn roots s fault

-- ---- of systems in which everything has its place

-- A system in which everything has its place, and with Command as it asks for, is safe; whatever the places were found by.
abbrev pub LaidOutIsSafe : Type 0
LaidOutIsSafe =
    (roots : List ℕ) (t : System) (pools : Pools) → IsNested roots t → All IsDecodable t
    → IsLaidOut roots t pools → IsSwitchedOn t → IsFalse (are_bad pools) → IsSafe roots t

-- Registers that show the places of a table for each class make a planned system,
abbrev pub TablePlans : Type 0
TablePlans =
    (roots : List ℕ) (s t : System) (pools : Pools) (first : Function → Part → ℕ) → IsSystem s
    → IsNested roots s → All IsDecodable s
    → AllZip (IsShown s t pools first) s t → ((c : WindowKind) → IsTable roots s pools c first)
    → IsSwitchedOn t → IsPlanned s t pools

-- which is sound, so that the judgement at the end of planning never refuses.
abbrev pub TableIsSound : Type 0
TableIsSound =
    (roots : List ℕ) (s t : System) (pools : Pools) (first : Function → Part → ℕ) → IsSystem s
    → IsNested roots s → IsInProfile roots s → HasChains s → All IsDecodable s
    → AllZip (IsShown s t pools first) s t → ((c : WindowKind) → IsTable roots s pools c first)
    → IsSwitchedOn t → IsFalse (are_bad pools) → IsSound roots t

-- What is placed largest first is a table where it fits.
abbrev pub FitMakesTable : Type 0
FitMakesTable =
    (roots : List ℕ) (s : System) (pools : Pools) (c : WindowKind) (first : Function → Part → ℕ)
    → IsSystem s → IsNested roots s
    → IsTrue (fits roots s pools c) → (pool_of pools c).last < 2 ^ 64
    → IsPlacing roots s pools c first → IsTable roots s pools c first

-- something of a class is behind a bridge exactly where the bus behind it has need
abbrev pub BehindIsNeed : Type 0
BehindIsNeed =
    (roots : List ℕ) (s : System) (pools : Pools) (c : WindowKind) → IsSystem s → IsNested roots s
    → ((b : Function) → Contains s b → IsTrue (is_bridge b) → need_behind s pools c b ≤ 2 ^ 65)
    → (b : Function) → Contains s b → IsTrue (is_bridge b)
    → has_behind s pools c b ≡ nat_lt 0 (need_behind s pools c b)

-- ---- of the writes between two states

-- the functions of the start, each with what it is to be
pub record AreChanges (changes : List Change) : Type 0 where
  pub system : IsSystem (olds changes)
  pub moved : All (λ (c : Change). IsMoved c.old c.new) changes

-- after all writes the system is the one that was planned
abbrev pub WritesReach : Type 0
WritesReach =
    (changes : List Change) → AreChanges changes
    → system_after (olds changes) (plan_writes changes) ≡ news changes

-- each write changes the system
abbrev pub EachWriteChanges : Type 0
EachWriteChanges =
    (changes : List Change) → AreChanges changes → (k : ℕ) → k < length (plan_writes changes)
    → system_after (olds changes) (take (suc k) (plan_writes changes))
    ≡ system_after (olds changes) (take k (plan_writes changes)) → ⊥

-- at most 9 for each device, and 11 for each bridge
abbrev pub FewWrites : Type 0
FewWrites = (changes : List Change) → length (plan_writes changes) ≤ sum (map most_writes changes)

-- where the planned state is sound, the writes can stop anywhere from a sound start, and from any admitted start once everything is closed
abbrev pub PlanCanStop : Type 0
PlanCanStop =
    (roots : List ℕ) (changes : List Change) → AreChanges changes → IsNested roots (olds changes)
    → IsInProfile roots (olds changes) → HasChains (olds changes) → IsSound roots (news changes)
    → (k : ℕ) → (length (closing_writes changes) ≤ k) ⊎ IsSound roots (olds changes)
    → IsSound roots (system_after (olds changes) (take k (plan_writes changes)))

-- Over a machine that is the system with its own writable bits, each beginning of the writes does what it does to the system,
abbrev pub PlanOnItsMachine : Type 0
PlanOnItsMachine =
    (s : System) (changes : List Change) → AreChanges changes → olds changes ≡ s → (k : ℕ)
    → after_writes (map target_of s) (take k (plan_writes changes))
    ≡ map target_of (system_after s (take k (plan_writes changes)))

-- so between two sound states the machine is a sound system's wherever the writes stop
abbrev pub StopsOnItsMachine : Type 0
StopsOnItsMachine =
    (roots : List ℕ) (changes : List Change) → AreChanges changes → IsSound roots (olds changes)
    → IsSound roots (news changes) → (k : ℕ)
    → (now : System) × IsSound roots now
    × (after_writes (map target_of (olds changes)) (take k (plan_writes changes))
    ≡ map target_of now)

-- ---- of registers

-- the need of a bus is what its functions add, in any order
abbrev pub NeedBySlots : Type 0
NeedBySlots =
    (roots : List ℕ) (s : System) (pools : Pools) (c : WindowKind) (bus : ℕ) → IsSystem s
    → IsNested roots s → sum (items_on s pools c bus) ≡ added_on s pools c bus s

-- what is built of a function with numbers that fit is moved, and shows them
abbrev pub BuildShows : Type 0
BuildShows =
    (f : Function) (value : ℕ × ℕ → ℕ) (new_command : ℕ) → IsImage f.image
    → AreFitting f value new_command → IsBuilt f (built f value new_command) value new_command

-- a BAR's number shows the range from an aligned first address on, and has the old bits where no address bit is
abbrev pub BarShows : Type 0
BarShows =
    (image probe : List ℕ) (n first : ℕ) → IsTrue (has_bar probe n) → bar_fault image probe n ≡ None
    → first % bar_size probe n ≡ 0
    → first + bar_size probe n ≤ 2 ^ reach_of (bar_kind (bar_at probe n))
    → (aligned_range (bar_value image probe n first) (bar_size probe n)
    ≡ record { first = first; last = first + (bar_size probe n - 1) })
    × ((b : ℕ) → b < 64
    → (b < first_bit (bar_kind (bar_at probe n)))
    ⊎ (has_bit (whole_bar probe probe n) b ≡ false)
    → bit_at (bar_value image probe n first) b ≡ bit_at (whole_bar probe image n) b)

-- and so does a ROM's
abbrev pub RomShows : Type 0
RomShows =
    (image probe : List ℕ) (first : ℕ) → IsTrue (has_rom image probe)
    → IsFalse (breaks_rom_rule image probe) → first % rom_size image probe ≡ 0
    → first + rom_size image probe ≤ 2 ^ 32
    → (aligned_range (rom_value image first) (rom_size image probe)
    ≡ record { first = first; last = first + (rom_size image probe - 1) })
    × ((b : ℕ) → b < 64 → (b < 1) ⊎ (has_bit (rom_at image probe) b ≡ false)
    → bit_at (rom_value image first) b ≡ bit_at (rom_at image image) b)

-- a window whose registers hold the pages of an aligned range is open, and that is its range
abbrev pub WindowShows : Type 0
WindowShows =
    (f : Function) (kind : WindowKind) (n first size : ℕ) → n ≤ 1 → 0 < size
    → first % page_size kind ≡ 0 → size % page_size kind ≡ 0
    → bounds_at kind f.image ≡ bounds_for kind n first (first + (size - 1))
    → (range_of f (Window kind) ≡ record { first = first; last = first + (size - 1) })
    × IsFalse (is_closed kind f.image)
