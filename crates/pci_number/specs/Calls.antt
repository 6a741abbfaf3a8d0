-- A board of several roots, each numbered by a call.
use Rattle.std.specs.Prelude.{◌≡◌, ◌↔◌, ℕ, ◌<◌, IsTrue, List, [], ◌∷◌, None, map}
use Rattle.std.specs.List.{Contains}
use Rattle.std.specs.List.Sorted.{IsStrictlyIncreasing}
use Rattle.pci_spec.specs.Slot.{Slot}
use Rattle.pci_spec.specs.System.{System}
use Rattle.pci_spec.specs.NestingLaws.{HasNoBusFault}
use Rattle.pci_number.specs.Board.{RootBus, Board, NodePlace, answers, access_of, HasOneAnswer}
use Rattle.pci_number.specs.Walk.{is_walkable, walk}
use Rattle.pci_number.specs.SpareBuses.{spare_room}
use Rattle.pci_number.specs.Listed.{IsBoardListing, HasRoomyNumbers}
use Rattle.pci_number.specs.Answer.{named_by, AnswersWhereReady}
use Rattle.pci_number.specs.declared.number.Numbering.{Numbering}

-- The last bus of each root is below the next root, and a walk over each bus behind them finds all
-- that is there.
pub record AreReady (last : ℕ → ℕ) (board : Board) : Type 0 where
  pub rising : IsStrictlyIncreasing (map (λ root. root.number) board)
  pub apart : (root other : RootBus) → Contains board root → Contains board other
      → root.number < other.number → last root.number < other.number
  pub walkable : (root : RootBus) → Contains board root → IsTrue (is_walkable root.nodes)

-- The roots are numbered one after another, and each call answers that each bridge has its numbers.
abbrev pub AreNumbered : ℕ → (ℕ → ℕ) → List ℕ → Board → Board → Type 0
AreNumbered spare last [] before after = after ≡ before
AreNumbered spare last (root ∷ roots) before after =
    (mid : Board) × (answer : Numbering) × AnswersWhereReady spare before root (last root) answer mid
    × (named_by answer ≡ None) × AreNumbered spare last roots mid after

-- these are the roots of a board, in whatever order
abbrev pub AreItsRoots : List ℕ → Board → Type 0
AreItsRoots roots board =
    (n : ℕ) → Contains roots n ↔ Contains (map (λ root. root.number) board) n

-- Where each root is numbered by a call, each bridge of the board has its numbers,
abbrev pub RootsGetNumbers : Type 0
RootsGetNumbers =
    (spare : ℕ) (last : ℕ → ℕ) (roots : List ℕ) (before after : Board) → AreReady last before
    → AreItsRoots roots before → AreNumbered spare last roots before after
    → HasRoomyNumbers (spare_room spare) last after

-- what a walk then lists has no bus-range fault and no orphan,
abbrev pub RootsHaveNoBusFault : Type 0
RootsHaveNoBusFault =
    (spare : ℕ) (last : ℕ → ℕ) (roots : List ℕ) (before after : Board) (s : System)
    → AreReady last before
    → AreItsRoots roots before → AreNumbered spare last roots before after → IsBoardListing after s
    → HasNoBusFault (map (λ root. root.number) before) s

-- at most one node answers each access,
abbrev pub RootsGetSingle : Type 0
RootsGetSingle =
    (spare : ℕ) (last : ℕ → ℕ) (roots : List ℕ) (before after : Board) → AreReady last before
    → AreItsRoots roots before → AreNumbered spare last roots before after → HasOneAnswer after

-- and each node that the walk finds answers one access, and no other.
abbrev pub RootsAnswerOnce : Type 0
RootsAnswerOnce =
    (spare : ℕ) (last : ℕ → ℕ) (roots : List ℕ) (before after : Board) → AreReady last before
    → AreItsRoots roots before → AreNumbered spare last roots before after
    → (root : RootBus) → Contains after root
    → (place : NodePlace) → Contains (walk root.nodes root.nodes) place
    → (access : Slot)
    → Contains (answers after access) (root.number, place)
    ↔ (access ≡ access_of root.number root.nodes place)
