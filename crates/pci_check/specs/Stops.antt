-- The first bridge of a path that doesn't pass a whole region, found by what gets to the bus behind each.
use Rattle.std.specs.Prelude.{◌≡◌, ℕ, ◌+◌, ◌<◌, ◌≤◌, Bool, false, List, [], length, slice_index_or, Option, None, Some, MatchOption}
use Rattle.std.specs.List.{All, AllWithin, HoldsAt}
use Rattle.pci_spec.specs.Slot.{Slot}
use Rattle.pci_spec.specs.Window.{WindowKind, IoWindow, MemoryWindow, PrefetchWindow}
use Rattle.pci_spec.specs.System.{System, Space}
use Rattle.pci_spec.specs.Bus.{IsNested}
use Rattle.pci_spec.specs.Decoded.{HasRecords}
use Rattle.pci_spec.specs.Fault as faults
use Rattle.pci_spec.specs.AllFaults.{IsUnreachedOf}
use Rattle.pci_spec.specs.Order.{IsFirst}
use Rattle.pci_spec.specs.Fault.{address_in, named_region}
use Rattle.pci_base.specs.declared.range.Range.{Range}
use Rattle.pci_function.specs.declared.fault.Fault.{Fault}
use Rattle.pci_tree.specs.declared.region.Region.{Region}
use Rattle.pci_base.specs.Space.{kind_in}
use Rattle.pci_tree.specs.Ranges.{Covers, IsCanonical}
use Rattle.pci_function.specs.Fault.{fault_of}
use Rattle.pci_tree.specs.Outline.{Tree, IsReachTo}
use Rattle.pci_tree.specs.Regions.{IsRegionOn, AreRegionsOf, is_of_window, region_number as number_of}
use Rattle.pci_tree.specs.Trees.{HasTree}
use Rattle.pci_check.specs.declared.unreached.Foremost.{Foremost}
use Rattle.pci_check.specs.declared.unreached.Foremost.TheVariants as foremost
use Rattle.pci_check.specs.Sweep.{Spans}
use Rattle.pci_check.specs.Homes.{AreHomeBelow, IsHomeOn}

-- what gets to each bus, by the kind of access
pub record Reaches : Type 0 where
  pub io : List (List Range)
  pub memory : List (List Range)
  pub prefetch : List (List Range)

abbrev pub reaches_by : Reaches → WindowKind → List (List Range)
reaches_by reaches IoWindow = reaches.io
reaches_by reaches MemoryWindow = reaches.memory
reaches_by reaches PrefetchWindow = reaches.prefetch

-- there are ranges for each of the 256 buses
pub record AreWholeReaches (r : Reaches) : Type 0 where
  pub count : (kind : WindowKind) → length (reaches_by r kind) ≡ 256
  pub canonical : (kind : WindowKind) → All IsCanonical (reaches_by r kind)

abbrev pub ranges_at : Reaches → Space → Bool → ℕ → List Range
ranges_at reaches space prefetchable bus =
    slice_index_or (reaches_by reaches (kind_in space prefetchable)) bus []

-- they are those of each system with this tree
abbrev pub AreReachesOf : Tree → Reaches → Type 0
AreReachesOf t reaches =
    (s : System) → HasTree t s → (space : Space) (prefetchable : Bool) (bus : ℕ) → bus < 256
    → IsReachTo t.roots s space prefetchable bus (ranges_at reaches space prefetchable bus)

-- each address of the region gets to the bus
abbrev pub IsWholeAt : Reaches → Space → ℕ → Region → Type 0
IsWholeAt reaches space bus r =
    (a : ℕ) → Spans r a → Covers (ranges_at reaches space r.prefetch bus) a

-- the same of a BAR or a ROM
abbrev pub IsReachedAt : Reaches → Space → ℕ → Region → Type 0
IsReachedAt reaches space bus r = is_of_window r.part ≡ false → IsWholeAt reaches space bus r

-- the first region of a list that is a BAR or a ROM with an address that doesn't get to the bus
pub record IsFirstOutside (reaches : Reaches) (space : Space) (bus : ℕ) (regions : List Region)
    (k : ℕ) : Type 0 where
  pub within : k < length regions
  pub before : AllWithin (IsReachedAt reaches space bus) regions 0 k
  pub no_window : HoldsAt (λ r. is_of_window r.part ≡ false) regions k
  pub outside : HoldsAt (λ r. IsWholeAt reaches space bus r → ⊥) regions k

-- the bus that the bridge at a place of a path leads to, the path ending at a bus
pub record IsBusBehind (path : List Slot) (end k bus : ℕ) : Type 0 where
  pub next : k + 1 < length path → HoldsAt (λ slot. slot.bus ≡ bus) path (k + 1)
  pub last : length path ≤ k + 1 → end ≡ bus

-- the bridge at a place passes the whole region, as those before it do
abbrev pub IsWholeBehind : Reaches → Space → List Slot → ℕ → Region → ℕ → Type 0
IsWholeBehind reaches space path end r k =
    (bus : ℕ) → IsBusBehind path end k bus → IsWholeAt reaches space bus r

-- the least address of a region that doesn't get to a bus
pub record IsLeastLost (reaches : Reaches) (space : Space) (bus : ℕ) (r : Region)
    (a : ℕ) : Type 0 where
  pub held : Spans r a
  pub outside : Covers (ranges_at reaches space r.prefetch bus) a → ⊥
  pub least : (b : ℕ) → b < a → Spans r b → Covers (ranges_at reaches space r.prefetch bus) b

-- the first bridge of a path that stops a region, and the least address that it stops
pub record IsFirstStopOnPath (reaches : Reaches) (space : Space) (path : List Slot) (r : Region)
    (k a : ℕ) : Type 0 where
  pub within : k < length path
  pub bus : ℕ
  pub small : bus < 256
  pub behind : IsBusBehind path r.slot.bus k bus
  pub lost : IsLeastLost reaches space bus r a
  pub before : (j : ℕ) → j < k → IsWholeBehind reaches space path r.slot.bus r j

-- what the search for such a region answers
abbrev pub IsOutsideAnswer : Reaches → Space → ℕ → List Region → Option ℕ → Type 0
IsOutsideAnswer reaches space bus regions o =
    MatchOption o (All (IsReachedAt reaches space bus) regions)
    (λ k. IsFirstOutside reaches space bus regions k)

-- of two such answers that of the region which stands first
abbrev pub IsEarlier : List Region → Option ℕ → List Region → Option ℕ → Foremost → Type 0
IsEarlier io i memory m foremost.Neither = (i ≡ None) × (m ≡ None)
IsEarlier io i memory m (foremost.Io k) =
    (i ≡ Some k)
    × MatchOption m (Unit {0}) (λ n. (d : Region)
    → number_of (slice_index_or io k d) ≤ number_of (slice_index_or memory n d))
IsEarlier io i memory m (foremost.Memory k) =
    (m ≡ Some k)
    × MatchOption i (Unit {0}) (λ n. (d : Region)
    → number_of (slice_index_or memory k d) ≤ number_of (slice_index_or io n d))

-- the fault is the one that a list of all names of the region
abbrev pub IsLineOf : List ℕ → System → Space → Region → faults.Fault → Type 0
IsLineOf roots s space r (faults.Unreached slot register sp address bridge) =
    (slot ≡ r.slot) × (register ≡ r.reg) × (sp ≡ space)
    × IsUnreachedOf roots s (named_region slot register) (address_in sp address) bridge
IsLineOf roots s space r fault = ⊥

-- the fault of a region whose addresses aren't all passed on to its bus
abbrev pub IsUnreachedFault : Tree → Space → Region → Fault → Type 0
IsUnreachedFault t space r fault =
    (s : System) → HasTree t s → (bus : ℕ) → IsRegionOn s bus space r → is_of_window r.part ≡ false
    → AreHomeBelow t.roots s (number_of r)
    → IsFirst t.roots s (fault_of fault)

-- the one fault that a list of all names of a BAR or ROM that isn't home
abbrev pub IsLineFault : Tree → Space → Region → Fault → Type 0
IsLineFault t space r fault =
    (s : System) → HasTree t s → (bus : ℕ) → IsRegionOn s bus space r → is_of_window r.part ≡ false
    → IsLineOf t.roots s space r (fault_of fault)

-- the first fault, where it is on this bus
abbrev pub IsUnreachedFaultOn : Tree → ℕ → Fault → Type 0
IsUnreachedFaultOn t bus fault =
    (s : System) → HasTree t s → ((b : ℕ) → b < bus → (space : Space) → IsHomeOn t.roots s b space)
    → IsFirst t.roots s (fault_of fault)

-- the buses of each system with the tree nest
abbrev pub AlwaysNested : Tree → Type 0
AlwaysNested t = (s : System) → HasTree t s → IsNested t.roots s

-- in each system with the tree that has the region, all of it gets to its bus
abbrev pub IsWholeInEach : Tree → Reaches → Space → Region → Type 0
IsWholeInEach t reaches space r =
    (s : System) → HasTree t s → (bus : ℕ) → IsRegionOn s bus space r
    → IsWholeAt reaches space r.slot.bus r

-- in each system with the tree the BARs and ROMs of the bus are passed on to it
abbrev pub AreHomeInEach : Tree → ℕ → Type 0
AreHomeInEach t bus = (s : System) → HasTree t s → (space : Space) → IsHomeOn t.roots s bus space

-- the regions of a bus and space in each system with the tree
abbrev pub AreBusRegionsOfTree : Tree → ℕ → Space → List Region → Type 0
AreBusRegionsOfTree t bus space regions =
    (s : System) → HasRecords s t.records → AreRegionsOf s bus space regions
