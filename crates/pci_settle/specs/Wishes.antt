-- What comes of all wishes.
use Rattle.std.specs.Prelude.{◌≡◌, ℕ, Bool, List, length, map, Option, Some, slice_get, slice_index_or}
use Rattle.std.specs.Option.{option_map}
use Rattle.pci_spec.specs.Slot.{Slot}
use Rattle.pci_spec.specs.Window.{WindowKind}
use Rattle.pci_spec.specs.Decoded.{HasRecords}
use Rattle.pci_spec.specs.System.{System, Function, IsSystem}
use Rattle.pci_spec.specs.Bus.{IsNested}
use Rattle.settle_spec.specs.FirstPlace.{Extent}
use Rattle.settle_spec.specs.Lists.{Request}
use Rattle.settle_spec.specs.Stands.{window_part}
use Rattle.settle_spec.specs.Kept.{Kept as Keeping}
use Rattle.settle_spec.specs.Items.{spare_of}
use Rattle.settle_spec.specs.Wishes.{Granted, granted}
use Rattle.pci_base.specs.declared.range.Range.{Range}
use Rattle.pci_base.specs.declared.window_kind.ByKind.{ByKind}
use Rattle.pci_base.specs.declared.window_kind.WindowKind.{WindowKind as CodeKind}
use Rattle.pci_base.specs.WindowKinds.{kind_value, by_kind}
use Rattle.pci_base.specs.Ranges.{decoded_range_of}
use Rattle.pci_function.specs.declared.record.Record.{Record}
use Rattle.pci_function.specs.Values.{record_value}
use Rattle.pci_tree.specs.declared.roots.Roots.{Roots}
use Rattle.pci_tree.specs.Roots.{buses_of}
use Rattle.pci_kept.specs.Flags.{AreFlags}
use Rattle.pci_first_fit.specs.declared.list.Lists.{Lists}
use Rattle.pci_first_fit.specs.declared.slots.Slots.{Slots}
use Rattle.pci_first_fit.specs.Keeping.{told_of_kind}
use Rattle.pci_first_fit.specs.Lists.{lists_value}
use Rattle.pci_first_fit.specs.Slots.{wanted_of, spare_by}
use Rattle.pci_first_fit.specs.Tables.{untold}
use Rattle.pci_grow.specs.declared.board.Board.{Board}
use Rattle.pci_grow.specs.declared.board.BridgeWindow.{BridgeWindow}
use Rattle.pci_grow.specs.declared.fill.Located.{Located}
use Rattle.pci_grow.specs.declared.granting.Wanted.{Wanted}
use Rattle.pci_grow.specs.Board.{IsAsked}
use Rattle.pci_grow.specs.Located.{AreWindowsThen, AreOwn}
use Rattle.pci_grow.specs.Granting.{spare_up_to, AreExtents, part_of, AreSpares}
use Rattle.pci_settle.specs.declared.settle.Denied.{Denied}
use Rattle.pci_settle.specs.declared.tables.Tables.{Tables}
use Rattle.pci_settle.specs.declared.wishes.Basis.{Basis}
use Rattle.pci_settle.specs.Before.{AreWindowsBefore, AreOwnBefore, AreFlagsOf}
use Rattle.pci_settle.specs.Wished.{TellsWishes}
use Rattle.pci_settle.specs.Denied.{slot_and_offset_of, denied_value}

-- the same where the new windows over these bridges have spares
abbrev pub behind_slots : Request → List Slot → Request
behind_slots q slots = record q { slots = slots }

-- windows by their slots and registers
abbrev pub AreDeniedAt : List Record → List BridgeWindow → List Denied → Type 0
AreDeniedAt records windows denied =
    (s : System) → HasRecords s (map record_value records)
    → map denied_value denied ≡ map (λ w. slot_and_offset_of (part_of s w)) windows

-- the windows that keep room free, and those whose spares are denied
pub record AreOfGranted (s : System) (g : Granted) (wished : List (ByKind (Option Range)))
    (denied : List Denied) : Type 0 where
  pub each : (n : ℕ) (f : Function) (c : WindowKind) → slice_get s n ≡ Some f
      → g.kept.wished (window_part c f)
      ≡ option_map decoded_range_of (told_of_kind (slice_index_or wished n untold) c)
  pub denied_are : map denied_value denied ≡ map slot_and_offset_of g.denied

-- so it is on a board where BARs and ROMs are these
abbrev pub AreGrantedAll : Board → List Located → Wanted → List (ByKind (Option Range)) → List Denied → Type 0
AreGrantedAll b own wanted wished denied =
    (p : Request) (s : System) (keep : Keeping) (spare : WindowKind → Function → Option Extent)
    → IsAsked p s b → AreWindowsThen p s keep b.windows.now → AreOwn p s keep own
    → AreSpares s wanted.slots.now wanted.spares.now spare
    → AreOfGranted s (granted p s spare keep) wished denied

-- ---- by what was collected

pub record IsBasis {A : Type 0} (records : List Record) (wanted : Slots) (fixed : List Bool) (t : Tables) (b : Basis A) : Type 0 where
  pub fixed_are : (slots : List Slot) → AreFlags slots fixed → AreFlagsOf records slots b.fixed.items
  pub slots_are : AreFlagsOf records wanted.bridges.now b.slots.items
  pub spares_are : (class : CodeKind) (highest : ℕ) → option_map (spare_up_to highest) (by_kind b.spares class)
      ≡ spare_by (kind_value class) (wanted_of wanted (kind_value class)) highest
  pub extents : AreExtents b.spares
  pub windows_are : AreWindowsBefore records t (length records) b.windows.items
  pub own_are : AreOwnBefore records t (length records) b.own.items

-- a lawful system with these records, in these lists
pub record IsAskedIn (p : Request) (s : System) (records : List Record) (roots : Roots) (l : Lists) (fixed : List Bool) : Type 0 where
  pub has : HasRecords s (map record_value records)
  pub system : IsSystem s
  pub nested : IsNested p.roots s
  pub roots_are : p.roots ≡ buses_of roots
  pub lists_are : p.lists ≡ lists_value l
  pub told_are : p.told.ranges ≡ l.told.ranges.now
  pub fixed_are : AreFlagsOf records p.fixed fixed

abbrev pub AreGrantedBy : {A : Type 0} → List Record → Roots → Lists → Basis A → List (ByKind (Option Range)) → List Denied → Type 0
AreGrantedBy records roots l b wished denied =
    (p : Request) (s : System) (keep : Keeping) (spare : WindowKind → Function → Option Extent)
    → IsAskedIn p s records roots l b.fixed.items → AreWindowsThen p s keep b.windows.items
    → AreOwn p s keep b.own.items → AreSpares s b.slots.items b.spares spare
    → AreOfGranted s (granted p s spare keep) wished denied

-- those of the spares that are asked for, beside what is kept of another request
abbrev pub AreWishes : Request → Request → System → Keeping → List (ByKind (Option Range)) → List Denied → Type 0
AreWishes q p s keep wished denied =
    TellsWishes s (granted p s (spare_of q) keep).kept wished
    × (map denied_value denied ≡ map slot_and_offset_of (granted p s (spare_of q) keep).denied)
