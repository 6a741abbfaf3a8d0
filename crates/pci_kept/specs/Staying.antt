-- What a table tells of parts that stay.
use Rattle.std.specs.Prelude.{◌≡◌, ℕ, ◌<◌, ◌≤◌, Bool, false, ◌&&◌, IsTrue, List, length, Some, slice_get, slice_index_or, ⊤}
use Rattle.std.specs.List.{Contains, list_all}
use Rattle.pci_spec.specs.Window.{IoWindow}
use Rattle.pci_spec.specs.System.{System, Function, Part, has_part}
use Rattle.plan_spec.specs.Plan.{bridges_above}
use Rattle.settle_spec.specs.Lists.{Request}
use Rattle.settle_spec.specs.Parts.{FunctionPart, system_parts, class_in}
use Rattle.settle_spec.specs.Stands.{window_part, stands}
use Rattle.settle_spec.specs.Items.{has_room_behind}
use Rattle.pci_base.specs.declared.memory.Refused.{Refused}
use Rattle.pci_base.specs.declared.memory.Refused.TheVariants as refused
use Rattle.pci_base.specs.WindowKinds.{kind_value}
use Rattle.pci_first_fit.specs.declared.kept.Kept.{Kept}
use Rattle.pci_first_fit.specs.Slots.{Demand, demand_in_io}
use Rattle.pci_first_fit.specs.Kept.{kept_of, nothing_kept}
use Rattle.pci_first_fit.specs.NewWindows.{IsTooLarge}
use Rattle.pci_kept.specs.declared.region.Region.{Region as CodeRegion}
use Rattle.pci_kept.specs.declared.rules.Rules.{Rules}
use Rattle.pci_kept.specs.Boards.{AreOpen}
use Rattle.pci_kept.specs.Known.{asked_by_rules, region_value}
use Rattle.pci_kept.specs.Tables.{stands_in}
use Rattle.pci_kept.specs.declared.windows.TooLarge.{TooLarge}
use Rattle.pci_kept.specs.Windows.{HasWholeWindow}

-- a test holds only of parts that stand
abbrev pub HoldsWhereStands : Request → System → (FunctionPart → Bool) → Type 0
HoldsWhereStands q s holds =
    (r : FunctionPart) → Contains s r.function → IsTrue (holds r) → IsTrue (stands q s r)

-- a part stays where a test holds of it, and of each window of its class above it
abbrev pub stays_by : Request → System → (FunctionPart → Bool) → FunctionPart → Bool
stays_by q s holds r =
    holds r
    && list_all (λ b. holds (window_part (class_in q s r.function r.part) b))
    (bridges_above s r.function.slot.bus)

-- of the first parts a table tells which stay by a test, and of the rest of which it holds
pub record IsStayedTo (q : Request) (s : System) (holds : FunctionPart → Bool) (rs : List CodeRegion) (n : ℕ)
    (table : List Kept) : Type 0 where
  pub count : length table ≡ length s
  pub opens : AreOpen s table
  pub told : (i : ℕ) (d : CodeRegion) → i < n → i < length rs
      → stands_in s table (region_value s (slice_index_or rs i d))
      ≡ stays_by q s holds (region_value s (slice_index_or rs i d))
  pub rest : (i : ℕ) (d : CodeRegion) → n ≤ i → i < length rs
      → stands_in s table (region_value s (slice_index_or rs i d))
      ≡ holds (region_value s (slice_index_or rs i d))
  pub others : (r : FunctionPart) → Contains s r.function → IsTrue (has_part r.function r.part)
      → (Contains (system_parts q s) r → ⊥) → stands_in s table r ≡ false

-- a table by function in slot order, with what stays of each by a test; of windows only open ones are there
pub record AreStayingBy (q : Request) (s : System) (holds : FunctionPart → Bool) (table : List Kept) : Type 0 where
  pub count : length table ≡ length s
  pub opens : AreOpen s table
  pub each : (k : ℕ) (f : Function) (part : Part) → slice_get s k ≡ Some f
      → IsTrue (has_part f part)
      → kept_of (slice_index_or table k nothing_kept) part
      ≡ stays_by q s holds record { function = f; part = part }

-- what stays where it stands: windows have room for what is behind them
abbrev pub AreStaying : Request → System → List Kept → Type 0
AreStaying q s table = AreStayingBy q s (has_room_behind q s) table

-- what is asked for in lists of I/O alone
abbrev pub asked_in_io : List ℕ → Demand → Rules → Request
asked_in_io roots d rules = asked_by_rules roots (demand_in_io d) rules

-- a new window of I/O is too large, or there was no memory
abbrev pub IsTooLargeInIo : Request → System → Refused TooLarge → Type 0
IsTooLargeInIo q s refused.Memory = ⊤
IsTooLargeInIo q s (refused.Fault x) =
    (kind_value x.class ≡ IoWindow) × IsTooLarge q s IoWindow x.function

-- a new window of some class is too large, and an open window has all addresses, or there was no memory
abbrev pub IsTooLargeFor : Request → System → Refused TooLarge → Type 0
IsTooLargeFor q s refused.Memory = ⊤
IsTooLargeFor q s (refused.Fault x) =
    IsTooLarge q s (kind_value x.class) x.function × HasWholeWindow s
