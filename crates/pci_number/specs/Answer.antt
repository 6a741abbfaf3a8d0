-- What numbering answers.
use Rattle.std.specs.Prelude.{◌≡◌, ℕ, Option, Some, None}
use Rattle.pci_spec.specs.Slot.{Slot}
use Rattle.pci_number.specs.Board.{Board}
use Rattle.pci_number.specs.Access.{nodes_behind, with_nodes}
use Rattle.pci_number.specs.Numbered.{without_numbers}
use Rattle.pci_number.specs.Room.{last_behind, IsNumberedWithRoom}
use Rattle.pci_number.specs.SpareBuses.{spare_room}
use Rattle.pci_number.specs.NoBus.{first_without}
use Rattle.pci_number.specs.Ready.{IsReady}
use Rattle.pci_number.specs.declared.number.Numbering.{Numbering}
use Rattle.pci_number.specs.declared.number.Numbering.TheVariants.{Numbered, NoBus}

-- the bridge that is named: none where each has its numbers
abbrev pub named_by : Numbering → Option Slot
named_by (Numbered highest) = None
named_by (NoBus slot highest) = Some slot

abbrev pub highest_bus_of : Numbering → ℕ
highest_bus_of (Numbered highest) = highest
highest_bus_of (NoBus slot highest) = highest

-- Behind the root the bridges are numbered, with so many numbers kept free behind each that has a
-- hot-plug slot; behind the others all is kept.
pub record IsAnswer (spare : ℕ) (before : Board) (root : ℕ) (last : ℕ) (answer : Numbering)
    (after : Board) : Type 0 where
  pub others : after ≡ with_nodes before root (nodes_behind after root)
  pub numbered : IsNumberedWithRoom (spare_room spare) root last (nodes_behind before root)
      (nodes_behind after root)
  -- the first bridge without a number is the one that is named
  pub without : named_by answer ≡ first_without root (nodes_behind after root)
  -- the greatest number is the last bus that a bridge leads to, or the root
  pub highest : highest_bus_of answer ≡ last_behind root (nodes_behind after root)

-- the same as long as the board is one that can be numbered
abbrev pub AnswersWhereReady : ℕ → Board → ℕ → ℕ → Numbering → Board → Type 0
AnswersWhereReady spare before root last answer after = IsReady before root last
    → IsAnswer spare before root last answer after

-- Behind the root all but bus numbers is kept, and behind the others all.
pub record IsBoardKept (before : Board) (root : ℕ) (after : Board) : Type 0 where
  pub others : after ≡ with_nodes before root (nodes_behind after root)
  pub same : without_numbers (nodes_behind before root) ≡ without_numbers (nodes_behind after root)

abbrev pub Keeps : Board → ℕ → ℕ → Board → Type 0
Keeps before root last after = IsReady before root last → IsBoardKept before root after
