-- What there is on a bus for a region.
use Rattle.std.proofs.Common.{◌≡◌, ℕ, refl, Bool, true, false, List, Option, None, Some, sym, subst}
use Rattle.std.specs.Prelude.{MatchOption}
use Rattle.pci_spec.specs.Slot.{Slot}
use Rattle.pci_spec.specs.System.{Space, Io, Memory, window_space}
use Rattle.pci_spec.specs.Window.{WindowKind}
use Rattle.judge_spec.specs.Given.{Given}
use Rattle.judge_spec.specs.ToldClaims.{Told}
use Rattle.pci_base.specs.Space.{kind_in}
use Rattle.pci_base.specs.declared.range.Range.{Range}
use Rattle.pci_tree.specs.Outline.{Tree}
use Rattle.pci_claims.specs.Claim.{Claimed}
use Rattle.pci_claims.specs.Reached.{IsReachInEach}
use Rattle.pci_why.specs.Free.{AreClaimsBesideInEach}
use Rattle.pci_why.specs.Rooms.{RoomValue, IsRoomKept, IsRoomFor}

-- a kind's space is that of its region
pub space_same : (space : Space) (prefetch : Bool) → window_space (kind_in space prefetch) ≡ space
space_same Io prefetch = refl
space_same Memory false = refl
space_same Memory true = refl

-- what was looked at of the bus is what there is for the region
pub still_ready : (told : Told) (given : Given) (t : Tree) (slot : Slot) (kind : WindowKind) (o : Option RoomValue) → IsRoomKept told given t kind o → MatchOption o ⊥ (λ room. room.bus ≡ slot.bus) → IsRoomFor told given t slot kind o
still_ready told given t slot kind None kept on = absurd on
still_ready told given t slot kind (Some room) kept on = (kept, on)

pub ready_kept : (told : Told) (given : Given) (t : Tree) (slot : Slot) (kind : WindowKind) (o : Option RoomValue) → IsRoomFor told given t slot kind o → IsRoomKept told given t kind o
ready_kept told given t slot kind None ready = tt {0}
ready_kept told given t slot kind (Some room) ready = ready.0

pub room_for : (told : Told) (given : Given) (t : Tree) (slot : Slot) (space : Space) (prefetch : Bool) (kind : WindowKind) (bus : ℕ) (reach : List Range) (claims : List Claimed) → kind ≡ kind_in space prefetch → bus ≡ slot.bus
    → IsReachInEach given t kind slot.bus reach → AreClaimsBesideInEach told given t bus space claims
    → IsRoomFor told given t slot (kind_in space prefetch) (Some (record { bus = bus; reach = reach; claims = claims }))
room_for told given t slot space prefetch kind bus reach claims is_kind is_bus reached beside = (
  record {
    reached = subst (λ n. IsReachInEach given t (kind_in space prefetch) n reach) (sym is_bus) (subst (λ k. IsReachInEach given t k slot.bus reach) is_kind reached);
    claims = subst (λ sp. AreClaimsBesideInEach told given t bus sp claims) (sym (space_same space prefetch)) beside;
  },
  is_bus,
)
