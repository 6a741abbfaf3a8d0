-- Regions that have to be sent and reached: enabled BARs and ROMs, and told ranges that are on and that aren't held.
use Rattle.std.specs.Prelude.{◌≡◌, ◌⊎◌, ℕ, ◌<◌, ◌≤◌, ◌++◌, Bool, false, not, List, map}
use Rattle.std.specs.List.{AllPairs, Contains, filter}
use Rattle.pci_spec.specs.Slot.{Slot, IsSlot}
use Rattle.pci_spec.specs.System.{System, Function, Part, Space, IsAddress, Claims, register_of, is_window, is_prefetchable_part}
use Rattle.pci_spec.specs.Fault.{address_in, named_region}
use Rattle.pci_base.specs.declared.space.Space as code
use Rattle.pci_base.specs.Space.{space_of}
use Rattle.pci_tree.specs.declared.region.Region.{Region}
use Rattle.pci_tree.specs.Outline.{Tree}
use Rattle.pci_tree.specs.Ranges.{Holds}
use Rattle.pci_tree.specs.Regions.{is_of_window}
use Rattle.pci_tree.specs.Trees.{HasTree}
use Rattle.judge_spec.specs.Told.{ToldRange}
use Rattle.judge_spec.specs.ToldClaims.{Told}
use Rattle.judge_spec.specs.ToldFault.{HasToBeReached}
use Rattle.judge_spec.specs.ToldAllFaults.{region_number}
use Rattle.pci_faults.specs.declared.needed.Needed.{Needed}

-- ---- which addresses of which regions

-- a BAR or a ROM with this name claims the address, and is prefetchable or isn't
pub record IsOfBar (s : System) (slot : Slot) (register : ℕ) (space : Space) (a : ℕ)
    (prefetch : Bool) : Type 0 where
  pub f : Function
  pub part : Part
  pub listed : Contains s f
  pub named : (f.slot ≡ slot) × (register_of f part ≡ register)
  pub no_window : is_window part ≡ false
  pub claims : Claims f part space a
  pub kind : is_prefetchable_part f part ≡ prefetch

-- a told range with this name has to be reached at the address
pub record IsOfRange (told : Told) (s : System) (slot : Slot) (register : ℕ) (space : Space) (a : ℕ)
    (prefetch : Bool) : Type 0 where
  pub r : ToldRange
  pub needs : HasToBeReached told s (named_region slot register) (address_in space a) r
  pub kind : r.prefetchable ≡ prefetch

-- addresses of regions with a slot and a register, in a system
abbrev pub Which : Type 1
Which = System → Slot → ℕ → Space → ℕ → Bool → Type 0

-- all that have to be sent and reached
abbrev pub IsNeeded : Told → Which
IsNeeded told s slot register space a prefetch =
    IsOfBar s slot register space a prefetch ⊎ IsOfRange told s slot register space a prefetch

-- of BARs and ROMs those on the buses and in the spaces that are meant
abbrev pub IsOfBarAt : (ℕ → Space → Type 0) → Which
IsOfBarAt At s slot register space a prefetch =
    IsOfBar s slot register space a prefetch × At slot.bus space

-- ---- lists of such regions

-- its place in the order of slots and registers
abbrev pub needed_place : Needed → ℕ
needed_place n = region_number n.name.slot n.name.register

-- the region has just the addresses that are meant of its name
pub record IsOneOf (W : Which) (s : System) (n : Needed) : Type 0 where
  pub slot : IsSlot n.name.slot
  pub register : n.name.register < 8192
  pub some : n.range.first ≤ n.range.last
  pub addresses : (a : ℕ) → Holds n.range a → IsAddress (space_of n.space) a
  pub each : (a : ℕ) → Holds n.range a
      → W s n.name.slot n.name.register (space_of n.space) a n.prefetch
  pub only : (space : Space) (a : ℕ) (prefetch : Bool)
      → W s n.name.slot n.name.register space a prefetch
      → (space ≡ space_of n.space) × Holds n.range a × (prefetch ≡ n.prefetch)

-- the list has the region with this name
pub record HasName (list : List Needed) (slot : Slot) (register : ℕ) : Type 0 where
  pub n : Needed
  pub has : Contains list n
  pub slot_is : n.name.slot ≡ slot
  pub register_is : n.name.register ≡ register

-- just those that are meant, each two of them related
pub record AreJustNeededRegions (W : Which) (AreTwo : Needed → Needed → Type 0) (s : System)
    (list : List Needed) : Type 0 where
  pub each : (n : Needed) → Contains list n → IsOneOf W s n
  pub complete : (slot : Slot) (register : ℕ) (space : Space) (a : ℕ) (prefetch : Bool)
      → W s slot register space a prefetch → HasName list slot register
  pub pairs : AllPairs AreTwo list

-- two with different places
abbrev pub Differ : Needed → Needed → Type 0
Differ n m = needed_place n ≡ needed_place m → ⊥

-- they come behind those of a list, each once, in each system with the tree
pub record AreNeededAppended (W : Which) (t : Tree) (before after : List Needed) : Type 0 where
  pub more : List Needed
  pub appended : after ≡ before ++ more
  pub are : (s : System) → HasTree t s → AreJustNeededRegions W Differ s more

abbrev pub AreBarsAdded : (ℕ → Space → Type 0) → Tree → List Needed → List Needed → Type 0
AreBarsAdded At t before after = AreNeededAppended (IsOfBarAt At) t before after

-- all of them by slot and register, in each system with the tree
abbrev pub AreAllNeeded : Told → Tree → List Needed → Type 0
AreAllNeeded told t list =
    (s : System) → HasTree t s
    → AreJustNeededRegions (IsNeeded told) (λ n m. needed_place n < needed_place m) s list

-- the told ranges among them, likewise
abbrev pub AreToldNeeded : Told → Tree → List Needed → Type 0
AreToldNeeded told t list =
    (s : System) → HasTree t s
    → AreJustNeededRegions (IsOfRange told) (λ n m. needed_place n < needed_place m) s list

-- ---- made of regions and told ranges

abbrev pub needed_of : code.Space → Region → Needed
needed_of space r =
    record {
      name = record { slot = r.slot; register = r.reg };
      space = space;
      prefetch = r.prefetch;
      range = record { first = r.first; last = r.last };
    }

-- the BARs and ROMs among the regions of a space
abbrev pub needed_among : code.Space → List Region → List Needed
needed_among space regions = map (needed_of space) (filter (λ r. not (is_of_window r.part)) regions)

-- the told range with a register
pub record IsNeededRange (r : ToldRange) (register : ℕ) (n : Needed) : Type 0 where
  pub slot_is : n.name.slot ≡ r.slot
  pub register_is : n.name.register ≡ register
  pub space_is : space_of n.space ≡ r.space
  pub prefetch_is : n.prefetch ≡ r.prefetchable
  pub first_is : n.range.first ≡ r.first
  pub last_is : n.range.last ≡ r.last
