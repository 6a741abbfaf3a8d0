-- Regions that no way leads to.
use Rattle.std.specs.Prelude.{◌≡◌, ℕ, Bool, IsTrue, List, MatchBool}
use Rattle.std.specs.List.{Contains}
use Rattle.pci_spec.specs.Slot.{Slot}
use Rattle.pci_spec.specs.Window.{WindowKind}
use Rattle.pci_spec.specs.System.{System, Function, Space, register_of}
use Rattle.pci_spec.specs.System as system
use Rattle.pci_spec.specs.Bus.{IsNested, LeadsTo}
use Rattle.pci_spec.specs.Decoded.{HasRecords}
use Rattle.pci_spec.specs.Why.{Region, IsRegionIn}
use Rattle.judge_spec.specs.Given.{Given}
use Rattle.judge_spec.specs.Claims.{OwnClaims}
use Rattle.judge_spec.specs.Regions.{MapRegion}
use Rattle.judge_spec.specs.Lines.{is_first_window}
use Rattle.judge_spec.specs.Map.{HasWay, IsOutsideWindows}
use Rattle.pci_tree.specs.declared.region.Region as outline
use Rattle.pci_tree.specs.Outline.{Tree}
use Rattle.pci_map.specs.declared.ways.Above.{Above}
use Rattle.pci_map.specs.declared.ways.Above.TheVariants as above
use Rattle.pci_map.specs.Values.{region_part, value_of}

-- a system with an outline's records: its bridges nest, and no two of its functions have one slot
pub record IsTreeOf (t : Tree) (s : System) : Type 0 where
  pub records : HasRecords s t.records
  pub nested : IsNested t.roots s
  pub one : (f g : Function) → Contains s f → Contains s g → f.slot ≡ g.slot → f ≡ g

-- the slot of the one bridge that leads to a bus, which is no root
pub record IsSlotAbove (roots : List ℕ) (s : System) (bus : ℕ) (slot : Slot) : Type 0 where
  pub off_root : Contains roots bus → ⊥
  pub b : Function
  pub leads : LeadsTo s b bus
  pub named : b.slot ≡ slot
  pub only : (c : Function) → LeadsTo s c bus → c.slot ≡ slot

-- no bridge leads to a bus, which is no root
pub record IsBehindNoBridge (roots : List ℕ) (s : System) (bus : ℕ) : Type 0 where
  pub off_root : Contains roots bus → ⊥
  pub none : (b : Function) → LeadsTo s b bus → ⊥

-- what leads to a bus: the host to a root, else a bridge or nothing
abbrev pub HasAbove : List ℕ → System → ℕ → Above → Type 0
HasAbove roots s bus above.Host = Contains roots bus
HasAbove roots s bus (above.Bridge slot) = IsSlotAbove roots s bus slot
HasAbove roots s bus above.Nothing = IsBehindNoBridge roots s bus

-- no part that this register names claims the address
abbrev pub NoneHas : Given → System → Slot → ℕ → Space → ℕ → Type 0
NoneHas given s slot reg space a =
    (f : Function) (part : system.Part) → Contains s f → f.slot ≡ slot
    → register_of f part ≡ reg → OwnClaims given f part space a → ⊥

-- the first window of a bridge that claims an address
pub record IsFirstHoldingWindow (given : Given) (s : System) (space : Space) (b : Function) (a : ℕ)
    (w : outline.Region) : Type 0 where
  pub is : IsRegionIn s (value_of space w)
  pub slot : b.slot ≡ w.slot
  pub kind : WindowKind
  pub window : region_part w ≡ system.Window kind
  pub first : IsTrue (is_first_window given space kind a b)

-- the region is left, or windows lead to it
abbrev pub IsLeftIf : Given → List ℕ → System → MapRegion → Bool → Type 0
IsLeftIf given roots s q left =
    MatchBool left (IsOutsideWindows given roots s q)
    ((windows : List Region) × HasWay given roots s q windows)
