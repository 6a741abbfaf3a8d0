-- A BAR or an expansion ROM that is moved, and the faults that name it.
use Rattle.std.specs.Prelude.{◌≡◌, ◌⊎◌, ℕ, ◌+◌, ◌<◌, ◌≤◌, ◌↔◌, Bool, true, if◌then◌else◌, IsTrue, IsFalse, List, map}
use Rattle.std.specs.List.{Contains}
use Rattle.pci_spec.specs.Number.{byte_at}
use Rattle.pci_spec.specs.Header.{layout, command, secondary_bus, bar_count}
use Rattle.pci_spec.specs.Bar.{bar_at, is_wide}
use Rattle.pci_spec.specs.Window.{WindowKind, bounds_at}
use Rattle.pci_spec.specs.System.{System, Function, Space, Part, Bar, Rom, Window, Claims, IsSystem, register_of, is_bridge, is_window}
use Rattle.pci_spec.specs.Bus.{is_root, IsNested}
use Rattle.pci_spec.specs.Fault.{Unreached, Clash, Split, RegionName, named_region}
use Rattle.pci_spec.specs.Fault as plain
use Rattle.pci_spec.specs.Decoded.{Range}
use Rattle.pci_spec.specs.Why.{Region, IsRegionIn, is_wide_part, address_count}
use Rattle.pci_spec.specs.Why as why
use Rattle.judge_spec.specs.Given.{Given}
use Rattle.judge_spec.specs.Fault.{Fault, Known, Outside}
use Rattle.judge_spec.specs.ToldClaims.{Told}
use Rattle.judge_spec.specs.ToldFault as told_fault
use Rattle.judge_spec.specs.FaultsText.{is_of_judging}
use Rattle.judge_spec.specs.Why.{IsPlaceFor}

-- the slot and the register by which a fault names the region
abbrev pub part_name : Region → RegionName
part_name q = named_region q.slot q.register

-- the region, at another range
abbrev pub at_range : Region → Range → Region
at_range q r = record {
  slot = q.slot;
  register = q.register;
  part = q.part;
  space = q.space;
  prefetchable = q.prefetchable;
  range = r;
}

-- a bridge before and after: the bus behind it and its windows are the same
pub record IsSameBridge (f g : Function) : Type 0 where
  pub secondary : secondary_bus f.image ≡ secondary_bus g.image
  pub windows : (kind : WindowKind) → bounds_at kind f.image ≡ bounds_at kind g.image

-- a function before and after: all is the same but what the region claims
pub record IsSameBut (q : Region) (f g : Function) : Type 0 where
  pub probe : f.probe ≡ g.probe
  pub layout : layout f.image ≡ layout g.image
  pub command : command f.image ≡ command g.image
  -- a device may have BARs where a bridge has these
  pub bridge : IsTrue (is_bridge f) → IsSameBridge f g
  -- each other part claims what it claimed
  pub others : (part : Part) (space : Space) (a : ℕ)
      → ((f.slot ≡ q.slot) × (register_of f part ≡ q.register) → ⊥)
      → Claims f part space a ↔ Claims g part space a

-- The region is moved to the range: it claims just this, and all else is as it was.
pub record IsMovedTo (s t : System) (q : Region) (r : Range) : Type 0 where
  pub slots : map (λ f. f.slot) s ≡ map (λ f. f.slot) t
  pub same : (f g : Function) → Contains s f → Contains t g → f.slot ≡ g.slot → IsSameBut q f g
  pub moved : IsRegionIn t (at_range q r)

-- the range has as many addresses as the region
abbrev pub HasItsSize : Region → Range → Type 0
HasItsSize q r = r.last + 1 ≡ r.first + address_count q.range

abbrev pub IsKnownFaultOf : RegionName → plain.Fault → Type 0
IsKnownFaultOf region (Unreached slot register space address bridge) =
    named_region slot register ≡ region
IsKnownFaultOf region (Clash bus space address first first_register second second_register) =
    (named_region first first_register ≡ region) ⊎ (named_region second second_register ≡ region)
IsKnownFaultOf region (Split space address first first_register second second_register) =
    (named_region first first_register ≡ region) ⊎ (named_region second second_register ≡ region)
IsKnownFaultOf region fault = ⊥

-- a fault of judging names the region: alone, or as one of two
abbrev pub NamesRegion : RegionName → Fault → Type 0
NamesRegion region (Known fault) = IsKnownFaultOf region fault
NamesRegion region (Outside slot register space address) = named_region slot register ≡ region

-- A BAR or an expansion ROM that is moved to where it fits has no fault of its own any more: none of judging names it.
-- (The windows of bridges stay as they were, so no window is moved here.)
abbrev pub NoFaultWhereItFits : Type 0
NoFaultWhereItFits =
    (told : Told) (given : Given) (roots : List ℕ) (s t : System) (q : Region) (wide : Bool)
    (r : Range) → IsSystem s → IsSystem t → IsNested roots s
    → IsPlaceFor told given roots s q wide r.first → HasItsSize q r → IsMovedTo s t q r
    → (fault : Fault) → NamesRegion (part_name q) fault
    → told_fault.IsIn told given roots t (told_fault.Known fault) → ⊥

-- A move makes no fault of other regions: each fault of judging that doesn't name the region was there before.
abbrev pub NoFaultOfOthers : Type 0
NoFaultOfOthers =
    (told : Told) (given : Given) (roots : List ℕ) (s t : System) (q : Region) (r : Range)
    → IsMovedTo s t q r
    → (fault : Fault) → IsTrue (is_of_judging fault) → (NamesRegion (part_name q) fault → ⊥)
    → told_fault.IsIn told given roots t (told_fault.Known fault)
    → told_fault.IsIn told given roots s (told_fault.Known fault)

-- With nothing given and told it is so of a region that is on no root bus.
abbrev pub NoPlainFaultWhereItFits : Type 0
NoPlainFaultWhereItFits =
    (roots : List ℕ) (s t : System) (q : Region) (wide : Bool) (r : Range)
    → IsSystem s → IsSystem t → IsNested roots s → IsFalse (is_root roots q.slot.bus)
    → why.IsPlaceFor roots s q wide r.first → HasItsSize q r → IsMovedTo s t q r
    → (fault : plain.Fault) → IsKnownFaultOf (part_name q) fault → plain.IsIn roots t fault → ⊥

-- ---- a move by writes of its register

-- the byte is of the part's register, or of the two registers of a BAR of 64 bits
abbrev pub IsItsByte : Function → Part → ℕ → Type 0
IsItsByte f part offset =
    (register_of f part ≤ offset)
    × (offset < register_of f part + (if is_wide_part f part then 8 else 4))

-- a BAR of 64 bits has both its registers (fault 24 is that it has not)
abbrev pub HasItsRegisters : Function → Part → Type 0
HasItsRegisters f (Bar n) = IsTrue (is_wide (bar_at f.probe n)) → n + 1 < bar_count (layout f.image)
HasItsRegisters f Rom = IsTrue true
HasItsRegisters f (Window kind) = IsTrue true

-- a function before and after writes of bytes of the part
pub record IsWritten (part : Part) (f g : Function) : Type 0 where
  pub slot : f.slot ≡ g.slot
  pub probe : f.probe ≡ g.probe
  pub bytes : (offset : ℕ) → (IsItsByte f part offset → ⊥)
      → byte_at f.image offset ≡ byte_at g.image offset

-- Bytes of the region were written, so that it claims the range. All other bytes are as they were.
pub record IsWrittenTo (s t : System) (q : Region) (r : Range) : Type 0 where
  pub slots : map (λ f. f.slot) s ≡ map (λ f. f.slot) t
  pub written : (f g : Function) → Contains s f → Contains t g → f.slot ≡ g.slot
      → f.slot ≡ q.slot → IsWritten q.part f g
  pub others : (f g : Function) → Contains s f → Contains t g → f.slot ≡ g.slot
      → (f.slot ≡ q.slot → ⊥) → f ≡ g
  pub claims : IsRegionIn t (at_range q r)

-- Such writes move the BAR or the expansion ROM: nothing changes but what it claims.
abbrev pub WrittenIsMoved : Type 0
WrittenIsMoved =
    (s t : System) (q : Region) (r : Range) → IsSystem s → IsRegionIn s q
    → IsFalse (is_window q.part) → ((f : Function) → Contains s f → HasItsRegisters f q.part)
    → IsWrittenTo s t q r → IsMovedTo s t q r
