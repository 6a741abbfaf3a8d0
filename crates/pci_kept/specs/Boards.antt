-- The board that is gone over, and what its parts are known by.
use Rattle.std.specs.Prelude.{◌≡◌, ◌<◌, IsTrue, List, map, length}
use Rattle.std.specs.List.{Contains}
use Rattle.pci_spec.specs.Window.{WindowKind}
use Rattle.pci_spec.specs.Decoded.{HasRecords}
use Rattle.pci_spec.specs.System.{System, Function, IsSystem}
use Rattle.pci_spec.specs.Bus.{IsNested}
use Rattle.plan_spec.specs.Plan.{is_open}
use Rattle.settle_spec.specs.Lists.{Lists, Request}
use Rattle.settle_spec.specs.Parts.{system_parts}
use Rattle.settle_spec.specs.Stands.{window_part}
use Rattle.pci_function.specs.declared.record.Record.{Record}
use Rattle.pci_function.specs.Values.{record_value}
use Rattle.pci_kept.specs.declared.region.Region.{Region}
use Rattle.pci_first_fit.specs.declared.kept.Kept.{Kept}
use Rattle.pci_kept.specs.Known.{region_value, known, known_of, HasAddress}
use Rattle.pci_kept.specs.Leads.{IsLeading}
use Rattle.pci_kept.specs.Tables.{stands_in}

-- a lawful system with these records
pub record IsTree (q : Request) (s : System) (records : List Record) : Type 0 where
  pub has : HasRecords s (map record_value records)
  pub system : IsSystem s
  pub nested : IsNested q.roots s

-- and with these lists
pub record IsBoard (q : Request) (s : System) (records : List Record) (lists : Lists) : Type 0 where
  pub has : HasRecords s (map record_value records)
  pub system : IsSystem s
  pub nested : IsNested q.roots s
  pub same : q.lists ≡ lists

-- a part of the system, of which the code knows all but what it leads to
pub record IsKnown (q : Request) (s : System) (r : Region) : Type 0 where
  pub listed : Contains (system_parts q s) (region_value s r)
  pub all : known s r ≡ known_of q s (region_value s r)
  pub within : r.function < length s
  pub forward : HasAddress r

-- and that
pub record IsKnownPart (q : Request) (s : System) (r : Region) : Type 0 where
  pub is : IsKnown q s r
  pub leads : IsLeading q s r

-- no window stands that isn't open
abbrev pub AreOpen : System → List Kept → Type 0
AreOpen s table =
    (c : WindowKind) (b : Function) → Contains s b → IsTrue (stands_in s table (window_part c b))
    → IsTrue (is_open b c)
