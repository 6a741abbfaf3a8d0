-- The first bridge on the way to a region that doesn't pass all that is sent of it.
use Rattle.std.specs.Prelude.{◌≡◌, ℕ, ◌<◌, IsFalse, IsTrue, List, length, take}
use Rattle.std.specs.List.{All, HoldsAt}
use Rattle.pci_spec.specs.Slot.{Slot}
use Rattle.pci_spec.specs.Window.{WindowKind}
use Rattle.pci_spec.specs.System.{System, Space, window_space}
use Rattle.pci_spec.specs.Fault.{address_in, named_region}
use Rattle.pci_base.specs.declared.range.Range.{Range}
use Rattle.pci_base.specs.Space.{space_of}
use Rattle.pci_function.specs.declared.record.Record.{Record}
use Rattle.pci_tree.specs.Outline.{Tree}
use Rattle.pci_tree.specs.Ranges.{Holds, Covers}
use Rattle.pci_tree.specs.Trees.{HasTree}
use Rattle.pci_check.specs.Stops.{Reaches, ranges_at}
use Rattle.judge_spec.specs.Given.{Given, is_cut, is_isa_port}
use Rattle.judge_spec.specs.ToldClaims.{Told}
use Rattle.judge_spec.specs.ToldFault.{IsUnreached}
use Rattle.judge_spec.specs.ToldAllFaults.{IsUnreachedOf}
use Rattle.judge_spec.specs.ToldNumbered.{AreListedIn}
use Rattle.pci_claims.specs.Outside.{IsSent}
use Rattle.pci_claims.specs.Reached.{PassesAt}
use Rattle.pci_faults.specs.declared.needed.Needed.{Needed}
use Rattle.pci_faults.specs.Needed.{IsNeeded, IsOneOf}

-- ---- what ISA Enable takes from windows

-- it takes an address of a space from the window of some bridge, or none from any
pub record HasCut (given : Given) (space : Space) : Type 0 where
  pub address : ℕ
  pub bridge : Slot
  pub cut : IsTrue (is_cut given space address bridge)

abbrev pub NeverCut : Given → Space → Type 0
NeverCut given space = (a : ℕ) (slot : Slot) → IsFalse (is_cut given space a slot)

-- a port of a range is one that it takes, or none is
pub record HasTakenPort (range : Range) : Type 0 where
  pub port : ℕ
  pub held : Holds range port
  pub taken : IsTrue (is_isa_port port)

abbrev pub ArePortsLeft : Range → Type 0
ArePortsLeft range = (a : ℕ) → Holds range a → IsFalse (is_isa_port a)

-- it takes an address of a region from the window of some bridge, or none from any
pub record HasCutAddress (given : Given) (n : Needed) : Type 0 where
  pub address : ℕ
  pub held : Holds n.range address
  pub bridge : Slot
  pub cut : IsTrue (is_cut given (space_of n.space) address bridge)

abbrev pub IsLeftWhole : Given → Needed → Type 0
IsLeftWhole given n =
    (a : ℕ) → Holds n.range a → (slot : Slot) → IsFalse (is_cut given (space_of n.space) a slot)

-- ---- bridges that stop an address

-- the bridge at a slot passes each address of a range that is sent there
abbrev pub PassesEach : (ℕ → Type 0) → (ℕ → Slot → Type 0) → Range → Slot → Type 0
PassesEach IsSentThere IsPassedAt range slot =
    (a : ℕ) → Holds range a → IsSentThere a → IsPassedAt a slot

-- the same of the bridge whose record has the slot, and of what is sent to a root
abbrev pub PassesSent : Given → WindowKind → List Record → ℕ → Range → Slot → Type 0
PassesSent given kind records root =
    PassesEach (IsSent given (window_space kind) root) (PassesAt given kind records)

-- the first slot of a path whose bridge doesn't, and the least address that it doesn't pass
pub record IsFirstBridgeThatStops (IsSentThere : ℕ → Type 0) (IsPassedAt : ℕ → Slot → Type 0) (range : Range)
    (path : List Slot) (bridge : Slot) (a : ℕ) : Type 0 where
  pub place : ℕ
  pub within : place < length path
  pub at : HoldsAt (λ slot. slot ≡ bridge) path place
  pub before : All (PassesEach IsSentThere IsPassedAt range) (take place path)
  pub held : Holds range a
  pub sent : IsSentThere a
  pub stopped : IsPassedAt a bridge → ⊥
  pub least : (b : ℕ) → b < a → Holds range b → IsSentThere b → IsPassedAt b bridge

-- each address of a region gets to its bus
abbrev pub IsWholeAtOwnBus : Reaches → Needed → Type 0
IsWholeAtOwnBus reaches n =
    (a : ℕ) → Holds n.range a
    → Covers (ranges_at reaches (space_of n.space) n.prefetch n.name.slot.bus) a

-- in each system with the tree that has the region, whatever else is told, it has no fault 60
abbrev pub IsNeverUnreached : Given → Tree → Needed → Type 0
IsNeverUnreached given t n =
    (told : Told) (s : System) → HasTree t s → AreListedIn told s → IsOneOf (IsNeeded told) s n
    → (space : Space) (a : ℕ) (bridge : Slot)
    → IsUnreached told given t.roots s (named_region n.name.slot n.name.register)
    (address_in space a) bridge
    → ⊥

-- in each such system a list of all faults names the region with this address and this bridge
abbrev pub IsUnreachedLine : Given → Tree → Needed → ℕ → Slot → Type 0
IsUnreachedLine given t n a bridge =
    (told : Told) (s : System) → HasTree t s → AreListedIn told s → IsOneOf (IsNeeded told) s n
    → IsUnreachedOf told given t.roots s (named_region n.name.slot n.name.register)
    (address_in (space_of n.space) a) bridge
