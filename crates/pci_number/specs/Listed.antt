-- The functions that a walk over a board lists, and a board on which each bridge has its numbers.
use Rattle.std.specs.Prelude.{◌≡◌, ℕ, ◌<◌, List, None, map}
use Rattle.std.specs.List.{Contains}
use Rattle.std.specs.List.Sorted.{IsStrictlyIncreasing}
use Rattle.pci_spec.specs.System.{Function, System}
use Rattle.pci_number.specs.Board.{RootBus, Board, NodePlace, access_of, node_image}
use Rattle.pci_number.specs.Walk.{walk}
use Rattle.pci_number.specs.Numbered.{IsNumbered}
use Rattle.pci_number.specs.Room.{IsNumberedWithRoom}
use Rattle.pci_number.specs.NoBus.{first_without}

-- A function is that of a node that the walk finds behind a root: it has the slot of the access
-- that the node answers, and its image.
pub record IsFunctionOfNode (root : RootBus) (place : NodePlace) (f : Function) : Type 0 where
  pub found : Contains (walk root.nodes root.nodes) place
  pub slot : f.slot ≡ access_of root.number root.nodes place
  pub image : f.image ≡ node_image root.nodes place

-- These are the functions of the nodes that the walk finds behind the roots, in whatever order.
pub record IsBoardListing (board : Board) (s : System) : Type 0 where
  pub each : (f : Function) → Contains s f
      → (root : RootBus) × Contains board root × (place : NodePlace) × IsFunctionOfNode root place f
  pub all : (root : RootBus) → Contains board root
      → (place : NodePlace) → Contains (walk root.nodes root.nodes) place
      → (f : Function) × Contains s f × IsFunctionOfNode root place f

-- Behind each root each bridge has its numbers, up to a last bus of that root, and there is room
-- behind it. No root has a bus of another.
pub record HasRoomyNumbers (room : List ℕ → ℕ) (last : ℕ → ℕ) (board : Board) : Type 0 where
  pub rising : IsStrictlyIncreasing (map (λ root. root.number) board)
  pub apart : (root other : RootBus) → Contains board root → Contains board other
      → root.number < other.number → last root.number < other.number
  pub numbered : (root : RootBus) → Contains board root
      → IsNumberedWithRoom room root.number (last root.number) root.nodes root.nodes
  -- no bridge is without a number
  pub none : (root : RootBus) → Contains board root → first_without root.number root.nodes ≡ None

-- The same where no room is kept.
pub record HasNumbers (last : ℕ → ℕ) (board : Board) : Type 0 where
  pub rising : IsStrictlyIncreasing (map (λ root. root.number) board)
  pub apart : (root other : RootBus) → Contains board root → Contains board other
      → root.number < other.number → last root.number < other.number
  pub numbered : (root : RootBus) → Contains board root
      → IsNumbered root.number (last root.number) root.nodes root.nodes
  -- no bridge is without a number
  pub none : (root : RootBus) → Contains board root → first_without root.number root.nodes ≡ None
