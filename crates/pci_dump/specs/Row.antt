-- A line of values that is read into an image.
use Rattle.std.specs.Prelude.{◌≡◌, ◌+◌, ◌*◌, ◌++◌, ℕ, List, length, take, drop}
use Rattle.pci_spec.specs.Form.{row_text}
use Rattle.pci_dump.specs.Value.{AreSmall}

-- the line of a row, whose values follow those of the rows before; the rows behind stay as they are
pub record IsRowRead (row : ℕ) (line old new : List ℕ) : Type 0 where
  pub values : List ℕ
  pub long : length values ≡ 16
  pub small : AreSmall values
  pub text : line ≡ row_text row values
  pub written : take (16 * row + 16) new ≡ take (16 * row) old ++ values
  pub kept : drop (16 * row + 16) new ≡ drop (16 * row + 16) old
