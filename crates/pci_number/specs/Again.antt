-- What a second numbering answers and leaves.
use Rattle.std.specs.Prelude.{◌≡◌, ℕ, None, IsTrue}
use Rattle.pci_number.specs.Board.{Board}
use Rattle.pci_number.specs.Access.{nodes_behind}
use Rattle.pci_number.specs.Reached.{reached, only_bridges_lead}
use Rattle.pci_number.specs.Ready.{IsReady}
use Rattle.pci_number.specs.Answer.{named_by, AnswersWhereReady}
use Rattle.pci_number.specs.declared.number.Numbering.{Numbering}

pub record IsSameNumbering (root : ℕ) (first : Numbering) (after : Board) (second : Numbering)
    (again : Board) : Type 0 where
  pub answer : second ≡ first
  -- each node that a walk comes to has the image that it had
  pub reached : reached (nodes_behind again root) ≡ reached (nodes_behind after root)
  -- where each bridge has its numbers, and only bridges lead further, that is the whole board
  pub all : named_by first ≡ None → IsTrue (only_bridges_lead (nodes_behind after root))
      → again ≡ after

-- Where a board that may be numbered is numbered and numbered again, the numbers stand.
abbrev pub NumbersStand : Type 0
NumbersStand =
    (spare root last : ℕ) (before after again : Board) (first second : Numbering)
    → IsReady before root last → AnswersWhereReady spare before root last first after
    → AnswersWhereReady spare after root last second again → IsSameNumbering root first after second again
