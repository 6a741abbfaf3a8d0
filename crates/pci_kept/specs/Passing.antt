-- One pass over the parts of a system: what is noted, and what is taken on the bus of the last one.
use Rattle.std.specs.Prelude.{◌≡◌, ℕ, ◌<◌, ◌≤◌, Bool, IsTrue, List, Some, map, length, slice_get, slice_index_or}
use Rattle.std.specs.List.{All, Contains}
use Rattle.pci_spec.specs.System.{System, Function, Space, Io, Memory, Part, has_part}
use Rattle.settle_spec.specs.Lists.{Request}
use Rattle.settle_spec.specs.Parts.{FunctionPart, system_parts, addresses}
use Rattle.settle_spec.specs.Stands.{part_space, stands}
use Rattle.settle_laws.specs.Order.{level}
use Rattle.settle_laws.specs.Passes.{AreInOrder, AreFirstTold}
use Rattle.pci_base.specs.Ranges.{decoded_range_of}
use Rattle.pci_base.specs.declared.range.Range.{Range}
use Rattle.pci_kept.specs.declared.region.Region.{Region as CodeRegion}
use Rattle.pci_first_fit.specs.declared.kept.Kept.{Kept}
use Rattle.pci_kept.specs.Known.{region_value, HasAddress}
use Rattle.pci_kept.specs.Boards.{IsKnownPart, AreOpen}
use Rattle.pci_first_fit.specs.Kept.{IsCodePart, kept_of}
use Rattle.pci_kept.specs.Tables.{stands_in}
use Rattle.pci_kept.specs.Taken.{Taken}

-- a part that can be noted in a table of so many functions
pub record CanBeNoted (functions : ℕ) (r : CodeRegion) : Type 0 where
  pub function : r.function < functions
  pub part : IsCodePart r.part
  pub forward : HasAddress r

-- all parts of a system, each after those that tell whether it stands
pub record AreOrdered (q : Request) (s : System) (rs : List CodeRegion) : Type 0 where
  pub known : All (IsKnownPart q s) rs
  pub order : AreInOrder q s (map (region_value s) rs)

-- a part that stands on a bus, in a space
pub record IsStandingOn (q : Request) (s : System) (test : FunctionPart → Bool) (bus : ℕ) (space : Space)
    (t : FunctionPart) : Type 0 where
  pub listed : Contains (system_parts q s) t
  pub stands : IsTrue (test t)
  pub on : level q t.function.slot.bus ≡ bus
  pub in_space : part_space t ≡ space

-- the ranges of what stands on a bus, in a space
pub record AreTakenOn (q : Request) (s : System) (test : FunctionPart → Bool) (bus : ℕ) (space : Space)
    (taken : List Range) : Type 0 where
  pub each : (x : Range) → Contains taken x
      → (t : FunctionPart) × IsStandingOn q s test bus space t × (addresses t ≡ decoded_range_of x)
  pub all : (t : FunctionPart) → IsStandingOn q s test bus space t
      → (x : Range) × Contains taken x × (addresses t ≡ decoded_range_of x)

-- the first parts are told, and what is taken is what stands on the bus of the last of them
pub record AreFirstPassed (q : Request) (s : System) (rs : List CodeRegion) (count : ℕ) (taken : Taken)
    (table : List Kept) : Type 0 where
  pub size : length table ≡ length s
  pub told : AreFirstTold q s (map (region_value s) rs) count (stands_in s table)
  pub io_taken : AreTakenOn q s (stands_in s table) taken.level Io taken.io
  pub mem_taken : AreTakenOn q s (stands_in s table) taken.level Memory taken.mem
  pub below : (t : FunctionPart) → Contains (system_parts q s) t → IsTrue (stands_in s table t)
      → level q t.function.slot.bus ≤ taken.level
  pub above : (k : ℕ) (d : CodeRegion) → count ≤ k → k < length rs
      → taken.level ≤ (slice_index_or rs k d).level

-- a table by function in slot order, with what stands of each
pub record AreStanding (q : Request) (s : System) (table : List Kept) : Type 0 where
  pub count : length table ≡ length s
  pub opens : AreOpen s table
  pub each : (k : ℕ) (f : Function) (d : Kept) (part : Part) → slice_get s k ≡ Some f
      → IsTrue (has_part f part)
      → kept_of (slice_index_or table k d) part
      ≡ stands q s record { function = f; part = part }
