-- The rows of the tree.
use Rattle.std.specs.Prelude.{◌-◌, ◌*◌, ℕ, Option, List, [], ◌++◌, codes, length, if◌then◌else◌}
use Rattle.std.specs.Option.{is_some}
use Rattle.pci_picture.specs.Labels.{cut_words, label_text}
use Rattle.pci_picture.specs.Named.{name_of_function, words_of_buses}
use Rattle.pci_picture.specs.Roots.{Listed}
use Rattle.pci_picture.specs.declared.function.Buses.{Buses}

-- a row of the tree: its words and their look, what stands at its right end, and where both begin
pub record TreeRow : Type 0 where
  pub class : List ℕ
  pub words : List ℕ
  pub beside : List ℕ
  pub left : ℕ
  pub base : ℕ

-- a character beside a function is seven units wide
abbrev pub width_beside : TreeRow → ℕ
width_beside row = length row.beside * 7

-- the words of a row, cut to the room that is left, and in red what stands at its right end
unfoldable pub tree_row_text : TreeRow → List ℕ
tree_row_text row =
    label_text row.left row.base row.class (cut_words (394 - row.left - width_beside row) row.words)
    ++ label_text (400 - width_beside row) row.base (codes "alarm bold") row.beside

-- the buses behind a bridge, as `to bus 03, `; nothing for a function that is no bridge
abbrev pub words_of_bridge : Option Buses → List ℕ
words_of_bridge buses = if is_some buses then codes "to " ++ words_of_buses buses ++ codes ", " else []

-- the words of a row: the slot of its function, the buses behind a bridge, and the name of the function
abbrev pub words_of_row : Listed → List ℕ
words_of_row function = function.word ++ codes " " ++ words_of_bridge function.buses ++ name_of_function function
