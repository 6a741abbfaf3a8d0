-- A board on which the buses behind a root may be numbered.
use Rattle.std.specs.Prelude.{◌≡◌, ℕ, ◌==◌, nat_lt, nat_le, ◌||◌, IsTrue, length}
use Rattle.std.specs.List.{list_all, filter}
use Rattle.pci_number.specs.Board.{Board}
use Rattle.pci_number.specs.Walk.{is_walkable}
use Rattle.pci_number.specs.Access.{nodes_behind}

-- The buses from a root to a last one are this root's: one root has the number, and none has one of
-- the others. A walk over each bus behind it finds all that is there.
pub record IsReady (board : Board) (root : ℕ) (last : ℕ) : Type 0 where
  pub one : length (filter (λ other. other.number == root) board) ≡ 1
  pub apart : IsTrue
      (list_all (λ other. nat_le other.number root || nat_lt last other.number) board)
  pub walkable : IsTrue (is_walkable (nodes_behind board root))
