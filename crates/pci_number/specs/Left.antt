-- What numbering leaves behind each root, where it answers that each bridge has its numbers.
use Rattle.std.specs.Prelude.{◌≡◌, ◌≢◌, ◌↔◌, ℕ, ◌+◌, ◌≤◌, ◌⊎◌, [], ◌∷◌, None}
use Rattle.std.specs.List.{Contains}
use Rattle.pci_spec.specs.Slot.{Slot}
use Rattle.pci_spec.specs.System.{System}
use Rattle.pci_spec.specs.NestingLaws.{HasNoBusFault}
use Rattle.pci_number.specs.Board.{Nodes, RootBus, Board, NodePlace, answers, access_of}
use Rattle.pci_number.specs.Walk.{walk}
use Rattle.pci_number.specs.Numbered.{IsNumbered}
use Rattle.pci_number.specs.Room.{IsNumberedWithRoom}
use Rattle.pci_number.specs.SpareBuses.{spare_room}
use Rattle.pci_number.specs.NoBus.{first_without, bridges}
use Rattle.pci_number.specs.Access.{nodes_behind}
use Rattle.pci_number.specs.Ready.{IsReady}
use Rattle.pci_number.specs.Listed.{IsBoardListing}
use Rattle.pci_number.specs.Answer.{named_by, AnswersWhereReady}
use Rattle.pci_number.specs.declared.number.Numbering.{Numbering}

-- each bridge behind a root has its numbers
pub record IsRootNumbered (spare last : ℕ) (root : RootBus) : Type 0 where
  pub numbered : IsNumberedWithRoom (spare_room spare) root.number last root.nodes root.nodes
  pub none : first_without root.number root.nodes ≡ None

-- A root of the board that is left is the one that was numbered, or another as it was.
abbrev pub OneRootIsNumbered : Type 0
OneRootIsNumbered =
    (spare root last : ℕ) (before after : Board) (answer : Numbering) → IsReady before root last
    → AnswersWhereReady spare before root last answer after → named_by answer ≡ None
    → (r : RootBus) → Contains after r
    → ((r.number ≡ root) × IsRootNumbered spare last r) ⊎ ((r.number ≢ root) × Contains before r)

-- What a walk lists of a board with one root has no bus-range fault and no orphan.
abbrev pub AloneHasNoBusFault : Type 0
AloneHasNoBusFault =
    (spare root last : ℕ) (nodes : Nodes) (after : Board) (answer : Numbering) (s : System)
    → IsReady (record { number = root; nodes = nodes } ∷ []) root last
    → AnswersWhereReady spare (record { number = root; nodes = nodes } ∷ []) root last answer after
    → named_by answer ≡ None → IsBoardListing after s → HasNoBusFault (root ∷ []) s

-- Where none are kept free, the n-th bridge behind the root has the n-th number.
abbrev pub NoneFreeInOrder : Type 0
NoneFreeInOrder =
    (root last : ℕ) (before after : Board) (answer : Numbering) → IsReady before root last
    → AnswersWhereReady 0 before root last answer after
    → IsNumbered root last (nodes_behind before root) (nodes_behind after root)

-- With none kept free, a bridge is without one exactly where there are more bridges than numbers.
abbrev pub NoneFreeRunOut : Type 0
NoneFreeRunOut =
    (root last : ℕ) (before after : Board) (answer : Numbering) → root ≤ last
    → IsReady before root last → AnswersWhereReady 0 before root last answer after
    → (named_by answer ≡ None) ↔ (root + bridges (nodes_behind before root) ≤ last)

-- Each node that the walk finds behind the root answers one access, that to its bus, device and
-- function, and no other, whatever is behind other roots.
abbrev pub FoundAnswersOnceOnBoard : Type 0
FoundAnswersOnceOnBoard =
    (spare root last : ℕ) (before after : Board) (answer : Numbering) → IsReady before root last
    → AnswersWhereReady spare before root last answer after
    → (place : NodePlace) → Contains (walk (nodes_behind after root) (nodes_behind after root)) place
    → (access : Slot)
    → Contains (answers after access) (root, place)
    ↔ (access ≡ access_of root (nodes_behind after root) place)
