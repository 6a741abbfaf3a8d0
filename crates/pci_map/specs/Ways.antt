-- The windows above each bus, with whether they are left.
use Rattle.std.specs.Prelude.{ℕ, ◌<◌, ◌≡◌, ◌⊎◌, IsTrue, IsFalse, List, [], length, slice_index_or, Option, None, MatchOption}
use Rattle.std.specs.List.{Contains}
use Rattle.pci_spec.specs.Registers.{IO_BASE, MEMORY_BASE, PREFETCHABLE_BASE}
use Rattle.pci_spec.specs.Slot.{Slot}
use Rattle.pci_spec.specs.Window.{WindowKind}
use Rattle.pci_spec.specs.System.{System, Function, Space, Io, Memory}
use Rattle.judge_spec.specs.Given.{Given}
use Rattle.judge_spec.specs.Regions.{Own}
use Rattle.judge_spec.specs.Lines.{is_first_window}
use Rattle.pci_claims.specs.Found.{IsFoundIn, NoneClaims}
use Rattle.pci_claims.specs.Isa.{is_cut_region}
use Rattle.pci_map.specs.Values.{value_of}
use Rattle.pci_map.specs.Inside.{region_has, is_cut_by_isa}
use Rattle.pci_map.specs.Left.{IsSlotAbove, IsBehindNoBridge, NoneHas, IsFirstHoldingWindow, IsLeftIf}
use Rattle.pci_map.specs.declared.left.Judged.{Judged}
use Rattle.pci_map.specs.Windows.{BridgeWindows}
use Rattle.pci_map.specs.Takers.{AreTakenByBridgeAt}

-- where a bridge's window stands: its register, and the space of its addresses
pub record Spot : Type 0 where
  pub slot : Slot
  pub register : ℕ
  pub space : Space

abbrev pub io_spot : Slot → Spot
io_spot slot = record { slot = slot; register = IO_BASE; space = Io }

abbrev pub memory_spot : Slot → Spot
memory_spot slot = record { slot = slot; register = MEMORY_BASE; space = Memory }

abbrev pub prefetchable_spot : Slot → Spot
prefetchable_spot slot = record { slot = slot; register = PREFETCHABLE_BASE; space = Memory }

-- the window at a spot, with whether ISA Enable cuts it, and whether it is left
pub record IsJudged (given : Given) (roots : List ℕ) (s : System) (spot : Spot)
    (w : Judged) : Type 0 where
  pub found : IsFoundIn s spot.slot spot.register spot.space w.window
  pub cut : w.cut ≡ is_cut_region given spot.space w.window
  pub judged : IsLeftIf given roots s (Own (value_of spot.space w.window)) w.left

-- that window, where one there claims an address
abbrev pub IsJudgedAt : Given → List ℕ → System → Spot → Option Judged → Type 0
IsJudgedAt given roots s spot o =
    MatchOption o (NoneClaims s spot.slot spot.register spot.space)
    (λ w. IsJudged given roots s spot w)

-- that window, which claims an address
pub record IsHoldingWindow (given : Given) (roots : List ℕ) (s : System) (spot : Spot) (a : ℕ)
    (w : Judged) : Type 0 where
  pub is : IsJudged given roots s spot w
  pub has : IsTrue (region_has w.window a)
  pub kept : IsFalse (is_cut_by_isa w.cut a)

-- that window, where it claims an address
abbrev pub IsHoldingAt : Given → List ℕ → System → Spot → ℕ → Option Judged → Type 0
IsHoldingAt given roots s spot a o =
    MatchOption o (NoneHas given s spot.slot spot.register spot.space a)
    (λ w. IsHoldingWindow given roots s spot a w)

-- the first window of a bridge that claims an address, with whether it is left
pub record IsFirstJudged (given : Given) (roots : List ℕ) (s : System) (space : Space)
    (b : Function) (a : ℕ) (w : Judged) : Type 0 where
  pub first : IsFirstHoldingWindow given s space b a w.window
  pub judged : IsLeftIf given roots s (Own (value_of space w.window)) w.left

-- that window, where one claims the address
abbrev pub IsFirstAt : Given → List ℕ → System → Space → Function → ℕ → Option Judged → Type 0
IsFirstAt given roots s space b a o =
    MatchOption o ((kind : WindowKind) → IsTrue (is_first_window given space kind a b) → ⊥)
    (λ w. IsFirstJudged given roots s space b a w)

-- the windows of the bridge at a slot, and what it takes
pub record AreWindowsOf (given : Given) (roots : List ℕ) (s : System) (slot : Slot) (ws : BridgeWindows) : Type 0 where
  pub io : IsJudgedAt given roots s (io_spot slot) ws.io
  pub memory : IsJudgedAt given roots s (memory_spot slot) ws.memory
  pub prefetchable : IsJudgedAt given roots s (prefetchable_spot slot) ws.prefetchable
  pub takes : AreTakenByBridgeAt given s slot ws.takes

-- the windows of the bridge that leads to a bus, which is no root
pub record AreAbove (given : Given) (roots : List ℕ) (s : System) (bus : ℕ) (ws : BridgeWindows) : Type 0 where
  pub slot : Slot
  pub bridge : IsSlotAbove roots s bus slot
  pub windows : AreWindowsOf given roots s slot ws

-- no window leads to a bus, and no bridge takes anything that it leads to it
pub record HasNoWindow (roots : List ℕ) (s : System) (bus : ℕ) (ws : BridgeWindows) : Type 0 where
  pub unled : IsBehindNoBridge roots s bus
  pub io : ws.io ≡ None
  pub memory : ws.memory ≡ None
  pub prefetchable : ws.prefetchable ≡ None
  pub takes : ws.takes ≡ record { io = []; memory = [] }

-- those windows, where the bus isn't a root
abbrev pub IsWayTo : Given → List ℕ → System → ℕ → Option BridgeWindows → Type 0
IsWayTo given roots s bus o =
    MatchOption o (Contains roots bus)
    (λ ws. AreAbove given roots s bus ws ⊎ HasNoWindow roots s bus ws)

-- those above each bus before an end
abbrev pub AreWays : Given → List ℕ → System → List (Option BridgeWindows) → Type 0
AreWays given roots s ways =
    (bus : ℕ) → bus < length ways → IsWayTo given roots s bus (slice_index_or ways bus None)
