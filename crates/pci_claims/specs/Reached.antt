-- What gets to a bus, with what is given.
use Rattle.std.specs.Prelude.{◌≡◌, ℕ, ◌↔◌, Bool, IsTrue, List}
use Rattle.std.specs.List.{All, Contains, list_all}
use Rattle.pci_spec.specs.Slot.{Slot}
use Rattle.pci_spec.specs.Window.{WindowKind}
use Rattle.pci_spec.specs.System.{System, Function, Space, Leads, IsAddress, window_space}
use Rattle.pci_spec.specs.Decoded.{HasRecords}
use Rattle.pci_spec.specs.Fault.{address_in}
use Rattle.pci_base.specs.declared.range.Range.{Range}
use Rattle.pci_base.specs.Space.{space_of, is_prefetch}
use Rattle.pci_base.specs.WindowKinds.{kind_value}
use Rattle.pci_function.specs.declared.record.Record.{Record}
use Rattle.pci_tree.specs.Outline.{Tree}
use Rattle.pci_tree.specs.Ranges.{Covers, IsCanonical}
use Rattle.judge_spec.specs.Given.{Given, starts}
use Rattle.judge_spec.specs.Claims.{IsPassedTo, Gets, forwards, passes}
use Rattle.pci_claims.specs.declared.passed.Through.{Through}
use Rattle.pci_claims.specs.declared.passed.Through.TheVariants.{Regions, Accesses}
use Rattle.pci_claims.specs.Passed.{passes_with, through_space, lets}

-- the bridge whose record has the slot passes the address
abbrev pub PassesAt : Given → WindowKind → List Record → ℕ → Slot → Type 0
PassesAt given kind records a slot =
    (r : Record) → Contains records r → r.slot ≡ slot → IsTrue (passes_with given kind a r)

-- the same of what goes through it
abbrev pub LetsAt : Given → Through → List Record → ℕ → Slot → Type 0
LetsAt given through records a slot =
    (r : Record) → Contains records r → r.slot ≡ slot → IsTrue (lets given through a r)

-- the addresses that start on a root, and that the bridges at some slots let through
pub record IsReachAlong (given : Given) (through : Through) (records : List Record) (root : ℕ)
    (slots : List Slot) (out : List Range) : Type 0 where
  pub canonical : IsCanonical out
  pub exact : (a : ℕ) → Covers out a
      ↔ (IsAddress (through_space through) a × IsTrue (starts given (through_space through) root a)
      × All (LetsAt given through records a) slots)

-- ranges that rise with a gap between two, and have just the addresses of a space that are reached
pub record AreReached (space : Space) (IsReached : ℕ → Type 0) (out : List Range) : Type 0 where
  pub canonical : IsCanonical out
  pub exact : (a : ℕ) → Covers out a ↔ (IsAddress space a × IsReached a)

-- whether a bridge lets an address through
abbrev pub lets_by : Given → Through → ℕ → Function → Bool
lets_by given (Regions kind) a b = passes given (window_space (kind_value kind)) (is_prefetch (kind_value kind)) a b
lets_by given (Accesses space) a b = forwards given (space_of space) a b

-- an address gets to a bus from a root on which accesses to it start
abbrev pub GetsThrough : Given → List ℕ → System → Through → ℕ → ℕ → Type 0
GetsThrough given roots s through a bus =
    (root : ℕ) × Contains roots root × IsTrue (starts given (through_space through) root a)
    × (bridges : List Function) × Leads s root bridges bus
    × IsTrue (list_all (lets_by given through a) bridges)

-- in each system with the records of a tree
abbrev pub IsReachThroughInEach : Given → Tree → Through → ℕ → List Range → Type 0
IsReachThroughInEach given t through bus out =
    (s : System) → HasRecords s t.records
    → AreReached (through_space through) (λ a. GetsThrough given t.roots s through a bus) out

-- those of a kind of access that are passed on to a bus from a root on which accesses to them start
abbrev pub IsStartedReachTo : Given → List ℕ → System → WindowKind → ℕ → List Range → Type 0
IsStartedReachTo given roots s kind bus =
    AreReached (window_space kind)
    (λ a. IsPassedTo given roots s (address_in (window_space kind) a) (is_prefetch kind) bus)

-- in each system with the tree
abbrev pub IsReachInEach : Given → Tree → WindowKind → ℕ → List Range → Type 0
IsReachInEach given t kind bus out =
    (s : System) → HasRecords s t.records → IsStartedReachTo given t.roots s kind bus out

-- the same of the addresses at which some access gets to the bus
abbrev pub IsAccessReach : Given → List ℕ → System → Space → ℕ → List Range → Type 0
IsAccessReach given roots s space bus = AreReached space (λ a. Gets given roots s space a bus)

abbrev pub IsAccessReachInEach : Given → Tree → Space → ℕ → List Range → Type 0
IsAccessReachInEach given t space bus out =
    (s : System) → HasRecords s t.records → IsAccessReach given t.roots s space bus out
