-- Told ranges that can't be kept, as the code finds them.
use Rattle.std.specs.Prelude.{◌≡◌, ℕ, ◌-◌, ◌<◌, Bool, ◌&&◌, false, not, IsTrue, List, length, Option, Some, slice_get, slice_index_or}
use Rattle.std.specs.List.{Contains, list_all, list_any}
use Rattle.std.specs.Option.{option_map}
use Rattle.pci_spec.specs.Header.{command}
use Rattle.pci_spec.specs.Slot.{Slot, same_slot}
use Rattle.pci_spec.specs.Text.{Block}
use Rattle.pci_spec.specs.Window.{WindowKind}
use Rattle.pci_spec.specs.System.{System, Function, Space, IsSystem, is_bridge}
use Rattle.pci_spec.specs.Bus.{secondary, IsNested}
use Rattle.plan_spec.specs.Plan.{bridges_above}
use Rattle.judge_spec.specs.Told.{ToldRange}
use Rattle.judge_spec.specs.ToldClaims.{told_register, is_enabled_at}
use Rattle.judge_spec.specs.ToldRegion.{ToldRegion}
use Rattle.settle_spec.specs.Lines.{is_marked_always}
use Rattle.settle_spec.specs.Lists.{Request}
use Rattle.settle_spec.specs.Stands.{window_part, range_stands}
use Rattle.settle_spec.specs.Kept.{Kept}
use Rattle.settle_spec.specs.Keeping.Registers.{settled}
use Rattle.settle_spec.specs.Keeping.Writes.{is_shut_itself, earliest}
use Rattle.pci_base.specs.Space.{is_on}
use Rattle.pci_first_fit.specs.declared.told.ToldRanges.{ToldRanges}
use Rattle.pci_kept.specs.declared.told_line.ToldLine.{ToldLine}
use Rattle.pci_kept.specs.ToldLines.{AreToldLines}
use Rattle.pci_settle_places.specs.Answers.{AreFlagsOfTold}
use Rattle.pci_settle.specs.declared.told.KnownRanges.{KnownRanges}
use Rattle.pci_settle.specs.declared.told.Told.{Told as CodeTold}
use Rattle.pci_settle.specs.declared.way.ByClass.{ByClass}
use Rattle.pci_settle.specs.declared.way.Way.{Way}
use Rattle.pci_settle.specs.Shut.{flag_in_space, in_class}
use Rattle.pci_settle.specs.declared.lack.SettleFault.{SettleFault}
use Rattle.pci_settle.specs.declared.lack.SettleFault.TheVariants.{Told}

-- a told range, by its line: its register is behind all of its slot
abbrev pub told_fault : ToldRegion → SettleFault
told_fault x = Told x.told.slot (x.register - 255)

-- the fault of the earliest line that passes a test
abbrev pub first_told : Request → (ToldRegion → Bool) → Option SettleFault
first_told q test = option_map told_fault (earliest q test)

-- what is known of told ranges, each by its index in the text
pub record KnownTold : Type 0 where
  pub ranges : List ToldRange
  pub lines : List ToldLine
  pub standing : List Bool

abbrev pub known_told_value : CodeTold → KnownTold
known_told_value t =
    record { ranges = t.ranges.ranges.now; lines = t.lines.now; standing = t.standing.now }

-- the same beside the ranges
abbrev pub known_value : {A : Type 0} → KnownRanges A → ToldRanges → KnownTold
known_value k ranges =
    record { ranges = ranges.ranges.now; lines = k.lines.items; standing = k.standing.items }

-- a told range has its line and its flag by its index
pub record HasEachFlag (t : KnownTold) : Type 0 where
  pub lines : length t.lines ≡ length t.ranges
  pub standing : length t.standing ≡ length t.ranges

-- the ranges are those that are told, as they lie in the system, and flags say which stand
pub record KnowsTold (q : Request) (s : System) (t : KnownTold) : Type 0 where
  pub ranges : q.told.ranges ≡ t.ranges
  pub lines : AreToldLines q s t.lines
  pub standing : AreFlagsOfTold q s t.standing

-- ---- what stays

-- all windows of a class stay of the bridges above a bus
abbrev pub are_kept_above : System → Kept → WindowKind → ℕ → Bool
are_kept_above s k c bus = list_all (λ b. k.stays (window_part c b)) (bridges_above s bus)

-- a table tells it of each root, and of the buses behind bridges
pub record AreKeptAbove (q : Request) (s : System) (k : Kept) (ways : List ByClass) : Type 0 where
  pub on_roots : (bus : ℕ) (d : ByClass) (c : WindowKind) → Contains q.roots bus → bus < 256
      → in_class (slice_index_or ways bus d) c ≡ are_kept_above s k c bus
  pub behind : (b : Function) (d : ByClass) (c : WindowKind) → Contains s b → IsTrue (is_bridge b)
      → in_class (slice_index_or ways (secondary b) d) c ≡ are_kept_above s k c (secondary b)

-- ---- what is switched

-- whether Command of the block at a slot enables a space
abbrev pub is_enabled_in_blocks : List Block → Slot → Space → Bool
is_enabled_in_blocks blocks slot space =
    list_any (λ b. same_slot b.slot slot && is_on (command b.image) space) blocks

-- flags say of each told range whether Command of its function enables its space in the result
abbrev pub AreFlagsThen : Request → System → Kept → List Bool → Type 0
AreFlagsThen q s k on =
    (n : ℕ) (r : ToldRange) → slice_get q.told.ranges n ≡ Some r
    → slice_index_or on n false ≡ is_enabled_at (settled q s k) r.slot r.space

-- of the bridges above a bus none is shut in a space
abbrev pub are_clear_above : Request → System → Kept → Space → ℕ → Bool
are_clear_above q s k space bus =
    list_all (λ b. not (is_shut_itself q s k space b)) (bridges_above s bus)

-- a table tells it of each root, and of the buses behind bridges
pub record AreClearAbove (q : Request) (s : System) (k : Kept) (ways : List Way) : Type 0 where
  pub system : IsSystem s
  pub nested : IsNested q.roots s
  pub on_roots : (bus : ℕ) (d : Way) (x : Space) → Contains q.roots bus → bus < 256
      → flag_in_space (slice_index_or ways bus d).clear x ≡ are_clear_above q s k x bus
  pub behind : (b : Function) (d : Way) (x : Space) → Contains s b → IsTrue (is_bridge b)
      → flag_in_space (slice_index_or ways (secondary b) d).clear x ≡ are_clear_above q s k x (secondary b)

-- each range that is marked `always` stands
abbrev pub AlwaysStand : Request → System → Type 0
AlwaysStand q s =
    (n : ℕ) (r : ToldRange) → slice_get q.told.ranges n ≡ Some r → IsTrue (is_marked_always r.mark)
    → IsTrue (range_stands q s record { register = told_register n; told = r })
