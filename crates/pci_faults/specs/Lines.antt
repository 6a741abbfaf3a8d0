-- The lines of a list of all faults of judging.
use Rattle.std.specs.Prelude.{◌≡◌, ℕ, ◌<◌, ◌++◌, false, List, slice_index_or, map}
use Rattle.std.specs.List.{AllPairs, Contains}
use Rattle.pci_spec.specs.System as system
use Rattle.pci_spec.specs.Fault as faults
use Rattle.pci_spec.specs.Order.{Check, Reach, Clashes, Splits, judging_key}
use Rattle.pci_spec.specs.AllFaults.{IsUnreachedOf, IsClashOf, IsSplitOf, AreAllOfJudging}
use Rattle.pci_spec.specs.Fault.{address_in, named_region, named_regions}
use Rattle.pci_base.specs.declared.space.Space.{Space}
use Rattle.pci_function.specs.declared.fault.Fault.{Fault}
use Rattle.pci_function.specs.declared.fault.Fault.TheVariants.{Clash, Split}
use Rattle.pci_function.specs.Fault.{fault_of}
use Rattle.pci_tree.specs.declared.region.Region.{Region}
use Rattle.pci_tree.specs.declared.region.Part.TheVariants as part
use Rattle.pci_tree.specs.Outline.{Tree}
use Rattle.pci_tree.specs.Trees.{HasTree}
use Rattle.pci_faults.specs.declared.shares.Among.{Among}
use Rattle.pci_faults.specs.declared.shares.Among.TheVariants.{Bus, Roots}
use Rattle.pci_faults.specs.declared.shares.Share.{Share}

-- ---- what is told of regions that share an address

-- the fault that two regions of these claim an address
abbrev pub share_fault_at : Among → Space → ℕ → Region → Region → Fault
share_fault_at (Bus bus) space address first second =
    Clash bus space address first.slot first.reg second.slot second.reg
share_fault_at Roots space address first second =
    Split space address first.slot first.reg second.slot second.reg

-- where a list has no region
abbrev pub nothing_shared : Region
nothing_shared =
    record {
      slot = record { bus = 0; device = 0; function = 0 };
      reg = 0;
      part = part.Bar;
      prefetch = false;
      first = 0;
      last = 0;
    }

abbrev pub sharing_region_at : List Region → ℕ → Region
sharing_region_at regions k = slice_index_or regions k nothing_shared

-- the fault that regions of a list share their address
abbrev pub share_fault : Among → Space → List Region → Share → Fault
share_fault among space regions s =
    share_fault_at among space s.address (sharing_region_at regions s.first) (sharing_region_at regions s.second)

-- ---- lists of faults

-- the list has just the faults that are such, each once
pub record AreJustCodeFaults (P : faults.Fault → Type 0) (list : List Fault) : Type 0 where
  pub each : (f : Fault) → Contains list f → P (fault_of f)
  pub complete : (f : faults.Fault) → P f → (g : Fault) × Contains list g × (fault_of g ≡ f)
  pub distinct : AllPairs (λ f g. judging_key (fault_of f) ≡ judging_key (fault_of g) → ⊥) list

-- such faults, in each system with the tree, come behind those of a list
pub record AreCodeFaultsAppended (t : Tree) (P : system.System → faults.Fault → Type 0)
    (before after : List Fault) : Type 0 where
  pub more : List Fault
  pub appended : after ≡ before ++ more
  pub just : (s : system.System) → HasTree t s → AreJustCodeFaults (P s) more

-- the fault is one that a list of all names, of a check, bus and space that are meant; splits are of no bus
abbrev pub IsLineInEach : (Check → ℕ → system.Space → Type 0) → List ℕ → system.System → faults.Fault
    → Type 0
IsLineInEach At roots s (faults.Unreached slot register space address bridge) =
    At Reach slot.bus space × IsUnreachedOf roots s (named_region slot register)
    (address_in space address) bridge
IsLineInEach At roots s (faults.Clash bus space address first first_register second second_register) =
    At Clashes bus space
    × IsClashOf roots s bus (address_in space address)
    (named_regions first first_register second second_register)
IsLineInEach At roots s (faults.Split space address first first_register second second_register) =
    At Splits 0 space × IsSplitOf roots s (address_in space address)
    (named_regions first first_register second second_register)
IsLineInEach At roots s fault = ⊥

-- they come behind those of a list
abbrev pub AreLinesAdded : (Check → ℕ → system.Space → Type 0) → Tree → List Fault → List Fault
    → Type 0
AreLinesAdded At t before after = AreCodeFaultsAppended t (IsLineInEach At t.roots) before after

-- of one check, bus and space
abbrev pub IsAt : Check → ℕ → system.Space → Check → ℕ → system.Space → Type 0
IsAt check bus space c b sp = (c ≡ check) × (b ≡ bus) × (sp ≡ space)

-- of one check, and the buses below a number
abbrev pub IsAtBusesBelow : Check → ℕ → Check → ℕ → system.Space → Type 0
IsAtBusesBelow check n c b sp = (c ≡ check) × (b < n)

-- all faults of judging that are there, in each system with the tree
abbrev pub AreAllListed : Tree → List Fault → Type 0
AreAllListed t list =
    (s : system.System) → HasTree t s → AreAllOfJudging t.roots s (map fault_of list)
