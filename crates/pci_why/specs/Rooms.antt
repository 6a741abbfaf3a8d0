-- What there is on a bus for a region that would move.
use Rattle.std.specs.Prelude.{◌≡◌, ℕ, Bool, List, Option, IfSome, MatchOption, map}
use Rattle.std.specs.List.{Contains}
use Rattle.pci_spec.specs.Slot.{Slot}
use Rattle.pci_spec.specs.System.{window_space}
use Rattle.pci_spec.specs.Window.{WindowKind, IoWindow, MemoryWindow, PrefetchWindow}
use Rattle.judge_spec.specs.Given.{Given}
use Rattle.judge_spec.specs.Told.{IsTold}
use Rattle.judge_spec.specs.ToldClaims.{Told}
use Rattle.pci_base.specs.declared.range.Range.{Range}
use Rattle.pci_tree.specs.Outline.{Tree}
use Rattle.pci_claims.specs.Claim.{Claimed}
use Rattle.pci_claims.specs.Reached.{IsReachInEach}
use Rattle.pci_claims.specs.ToldOn.{AreOnIn}
use Rattle.pci_why.specs.Free.{AreClaimsBesideInEach}

-- a bus, the addresses that get there, and the claims of the regions that can clash with one of it
pub record RoomValue : Type 0 where
  pub bus : ℕ
  pub reach : List Range
  pub claims : List Claimed

-- they are those of a kind of access, in each system with the tree
pub record IsRoomOfBus (told : Told) (given : Given) (t : Tree) (kind : WindowKind)
    (room : RoomValue) : Type 0 where
  pub reached : IsReachInEach given t kind room.bus room.reach
  pub claims : AreClaimsBesideInEach told given t room.bus (window_space kind) room.claims

-- if there are any
abbrev pub IsRoomKept : Told → Given → Tree → WindowKind → Option RoomValue → Type 0
IsRoomKept told given t kind o = IfSome o (λ room. IsRoomOfBus told given t kind room)

-- of each kind, with of each told range whether it is on
pub record AreRoomsKept (told : Told) (given : Given) (t : Tree) (on : List Bool)
    (of_io of_memory of_prefetchable : Option RoomValue) : Type 0 where
  pub lawful : IsTold told.ranges
  pub each_on : AreOnIn told t on
  pub io : IsRoomKept told given t IoWindow of_io
  pub memory : IsRoomKept told given t MemoryWindow of_memory
  pub prefetchable : IsRoomKept told given t PrefetchWindow of_prefetchable

-- those of the bus of a slot, where a function of the tree has it
abbrev pub IsRoomFor : Told → Given → Tree → Slot → WindowKind → Option RoomValue → Type 0
IsRoomFor told given t slot kind o =
    MatchOption o (Contains (map (λ r. r.slot) t.records) slot → ⊥)
    (λ room. IsRoomOfBus told given t kind room × (room.bus ≡ slot.bus))
