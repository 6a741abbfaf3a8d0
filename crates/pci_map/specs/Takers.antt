-- The bridges that take what no region of their bus claims.
use Rattle.std.specs.Prelude.{◌≡◌, ℕ, ◌<◌, IsTrue, IsFalse, List, Option, MatchOption}
use Rattle.std.specs.List.{AllPairs, Contains}
use Rattle.pci_spec.specs.Slot.{Slot, slot_number}
use Rattle.pci_spec.specs.Window.{WindowKind}
use Rattle.pci_spec.specs.System.{System, Function, Space, is_bridge}
use Rattle.pci_spec.specs.Bus.{secondary}
use Rattle.pci_spec.specs.Decoded.{record_of}
use Rattle.judge_spec.specs.Given.{Given, takes}
use Rattle.judge_spec.specs.UnclaimedLaws.{is_taking}
use Rattle.judge_spec.specs.Lines.{is_first_window}
use Rattle.pci_function.specs.declared.record.Record.{Record}
use Rattle.pci_function.specs.Values.{record_value}
use Rattle.pci_map.specs.declared.takers.Taker.{Taker}
use Rattle.pci_map.specs.Above.{IsOnlyRootAbove}
use Rattle.pci_map.specs.Addresses.{SpaceRanges, AreTakenByBridge}

-- a bridge takes an address, and none of its windows claims it
pub record IsTakenFirst (given : Given) (space : Space) (b : Function) (a : ℕ) : Type 0 where
  pub taken : IsTrue (takes given space a b)
  pub no_window : (kind : WindowKind) → IsFalse (is_first_window given space kind a b)

-- just what the bridge at a slot takes
abbrev pub AreTakenByBridgeAt : Given → System → Slot → SpaceRanges → Type 0
AreTakenByBridgeAt given s slot x = (b : Function) → Contains s b → b.slot ≡ slot → AreTakenByBridge given b x

-- a function is a bridge of which it is given what it takes
abbrev pub MayTake : Given → Function → Type 0
MayTake given f = IsTrue (is_bridge f) × IsTrue (is_taking given.unclaimed f.slot)

-- where a bridge stands: its slot, the root above it, and the bus behind it
pub record IsTaker (roots : List ℕ) (s : System) (f : Function) (taker : Taker) : Type 0 where
  pub bridge : IsTrue (is_bridge f)
  pub slot : f.slot ≡ taker.slot
  pub behind : secondary f ≡ taker.bus
  pub above : IsOnlyRootAbove roots s taker.slot.bus taker.root

-- the same of the function of a record, where it may take anything
abbrev pub IsTakerOf : Given → List ℕ → System → Record → Option Taker → Type 0
IsTakerOf given roots s r o =
    (f : Function) → Contains s f → record_value r ≡ record_of f
    → MatchOption o (MayTake given f → ⊥) (λ taker. IsTaker roots s f taker)

-- just the bridges that may take anything, by slot
pub record AreTakers (given : Given) (roots : List ℕ) (s : System) (takers : List Taker) : Type 0 where
  pub each : (taker : Taker) → Contains takers taker
      → (f : Function) × Contains s f × IsTaker roots s f taker
  pub complete : (f : Function) → Contains s f → MayTake given f
      → (taker : Taker) × Contains takers taker × (taker.slot ≡ f.slot)
  pub rising : AllPairs (λ t u. slot_number t.slot < slot_number u.slot) takers
