-- What an outline keeps, and what its records stand for: systems, the ways in them, and who gets where.
use Rattle.std.specs.Prelude.{◌≡◌, ℕ, ◌<◌, ◌↔◌, Bool, List, map, ◌⊎◌}
use Rattle.std.specs.List.{All, AllPairs, Contains}
use Rattle.pci_spec.specs.Slot.{Slot, IsSlot, slot_number}
use Rattle.pci_spec.specs.System.{System, Function, Space, IsAddress, Leads, IsPassedTo}
use Rattle.pci_spec.specs.Bus.{IsNested}
use Rattle.pci_spec.specs.Decoded.{HasRecords}
use Rattle.pci_spec.specs.Decoded as decoded
use Rattle.pci_base.specs.declared.range.Range.{Range}
use Rattle.pci_function.specs.declared.record.Record.{Record}
use Rattle.pci_tree.specs.declared.region.Region.{Region}
use Rattle.pci_function.specs.Values.{record_value}
use Rattle.pci_tree.specs.Ranges.{Covers, IsCanonical}
use Rattle.pci_tree.specs.Ways.{IsForest, AreClear, IsUnled}
use Rattle.pci_tree.specs.Regions.{IsLawful, IsRegionOn, HasEachRegion, region_number}

-- an outline: its root buses, and the records of its functions
pub record Tree : Type 0 where
  pub roots : List ℕ
  pub records : List decoded.Record

-- the records rise by slot
abbrev pub RiseBySlot : List Record → Type 0
RiseBySlot records = AllPairs (λ r q. slot_number r.slot < slot_number q.slot) records

-- what each outline keeps: its records rise by slot, their bridges make a forest below the roots that comes to each function, and their
-- ranges are lawful; the systems that have them nest
pub record IsOutline (roots : List ℕ) (records : List Record) : Type 0 where
  pub slots : All (λ r. IsSlot r.slot) records
  pub rising : RiseBySlot records
  pub forest : IsForest records
  pub clear : AreClear roots records
  pub led : (r : Record) → Contains records r → IsUnled records roots r.slot.bus → ⊥
  pub lawful : All IsLawful records
  pub nested : (s : System) → HasRecords s (map record_value records) → IsNested roots s

-- the records of a bus
pub record IsBusPart (records : List Record) (bus : ℕ) (part : List Record) : Type 0 where
  pub each : (r : Record) → Contains part r → Contains records r × (r.slot.bus ≡ bus)
  pub all : (r : Record) → Contains records r → r.slot.bus ≡ bus → Contains part r
  pub rising : RiseBySlot part

-- the slots of the one list of bridges that leads to a bus from a root
pub record IsPathTo (roots : List ℕ) (s : System) (slots : List Slot) (bus : ℕ) : Type 0 where
  pub root : ℕ
  pub bridges : List Function
  pub starts : Contains roots root
  pub leads : Leads s root bridges bus
  pub named : map (λ f. f.slot) bridges ≡ slots
  pub only : (other_root : ℕ) (others : List Function) → Contains roots other_root
      → Leads s other_root others bus → (other_root ≡ root) × (others ≡ bridges)

-- ranges that rise with a gap between two, and have just the addresses of a space that are passed on from a root to a bus
pub record IsReachTo (roots : List ℕ) (s : System) (space : Space) (prefetch : Bool) (bus : ℕ)
    (out : List Range) : Type 0 where
  pub canonical : IsCanonical out
  pub exact : (a : ℕ) → Covers out a ↔ (IsAddress space a × IsPassedTo roots s space prefetch a bus)

-- a region comes before another by its first address, then by slot and register
abbrev pub IsBefore : Region → Region → Type 0
IsBefore p q = (p.first < q.first) ⊎ ((p.first ≡ q.first) × (region_number p < region_number q))

-- the regions of a bus and space, by first address, slot and register
pub record AreSortedRegionsOf (s : System) (bus : ℕ) (space : Space)
    (qs : List Region) : Type 0 where
  pub each : (q : Region) → Contains qs q → IsRegionOn s bus space q
  pub complete : HasEachRegion s bus space qs
  pub sorted : AllPairs IsBefore qs
