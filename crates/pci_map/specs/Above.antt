-- What the host sends to the root above each bus, and which regions are out of place.
use Rattle.std.specs.Prelude.{◌≡◌, ℕ, ◌<◌, ◌⊎◌, List, None, length, slice_index_or}
use Rattle.std.specs.List.{Contains}
use Rattle.pci_spec.specs.System.{System, Function, Space, Io, Memory, Leads}
use Rattle.judge_spec.specs.Given.{Given, ranges_said}
use Rattle.judge_spec.specs.ToldClaims.{Told}
use Rattle.judge_spec.specs.Lines.{IsOutOfPlace}
use Rattle.pci_tree.specs.Outline.{Tree}
use Rattle.pci_map.specs.declared.seat.Seat.{Seat}
use Rattle.pci_map.specs.Seats.{seat_value, AreFilteredSeats}
use Rattle.pci_map.specs.Left.{IsTreeOf}
use Rattle.pci_map.specs.Addresses.{SpaceRanges, AreSent}

-- the one root from which bridges lead to a bus
pub record IsOnlyRootAbove (roots : List ℕ) (s : System) (bus root : ℕ) : Type 0 where
  pub is_root : Contains roots root
  pub bridges : List Function
  pub leads : Leads s root bridges bus
  pub only : (other : ℕ) (others : List Function) → Contains roots other
      → Leads s other others bus → other ≡ root

-- at each bus with functions
abbrev pub AreRootsAbove : List ℕ → System → List ℕ → Type 0
AreRootsAbove roots s table =
    (f : Function) → Contains s f
    → IsOnlyRootAbove roots s f.slot.bus (slice_index_or table f.slot.bus 0)

-- what is sent to the root above a bus
pub record IsSentAbove (given : Given) (roots : List ℕ) (s : System) (bus : ℕ)
    (sent : SpaceRanges) : Type 0 where
  pub root : ℕ
  pub above : IsOnlyRootAbove roots s bus root
  pub are : AreSent given root sent

-- no list is said of either space
pub record IsNothingSaid (given : Given) (rows : List SpaceRanges) : Type 0 where
  pub none : length rows ≡ 0
  pub io : ranges_said given Io ≡ None
  pub memory : ranges_said given Memory ≡ None

-- at each bus with functions what is sent to the root above it
pub record AreRowsSentAbove (given : Given) (roots : List ℕ) (s : System) (rows : List SpaceRanges) : Type 0 where
  pub size : length rows ≡ 256
  pub each : (f : Function) (d : SpaceRanges) → Contains s f → f.slot.bus < 256
      → IsSentAbove given roots s f.slot.bus (slice_index_or rows f.slot.bus d)

-- the same of a system with an outline's records, where a list is said at all
pub record AreSentAbove (given : Given) (t : Tree) (s : System)
    (above : List SpaceRanges) : Type 0 where
  pub tree : IsTreeOf t s
  pub rows : IsNothingSaid given above ⊎ AreRowsSentAbove given t.roots s above

-- a region of a bus is out of place
abbrev pub IsSeatOut : Told → Given → List ℕ → System → Space → Seat → Type 0
IsSeatOut told given roots s space q = IsOutOfPlace told given roots s (seat_value space q)

-- just those of some regions that aren't out of place, in their order
abbrev pub AreInPlace : Told → Given → List ℕ → System → Space → List Seat → List Seat → Type 0
AreInPlace told given roots s space qs out =
    AreFilteredSeats (λ q. IsSeatOut told given roots s space q → ⊥) space qs out
