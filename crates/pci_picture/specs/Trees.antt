-- The tree of buses.
use Rattle.std.specs.Prelude.{◌≡◌, ℕ, Bool, ◌+◌, ◌-◌, ◌*◌, ◌^◌, ◌==◌, ◌&&◌, true, false, not, min, Option, Some, None, List, [], ◌∷◌, ◌++◌, codes, if◌then◌else◌}
use Rattle.std.specs.List.{filter, list_any, range_with_len}
use Rattle.std.specs.Option.{is_none, is_some}
use Rattle.pci_picture.specs.Badges.{ShowBadges}
use Rattle.pci_picture.specs.Elements.{box_text}
use Rattle.pci_picture.specs.Lines.{is_nonempty_word}
use Rattle.pci_picture.specs.Roots.{Listed, bus_above, secondary_of}
use Rattle.pci_picture.specs.Rows.{TreeRow, tree_row_text, words_of_row}
use Rattle.pci_picture.specs.Slots.{bus_of_slot}
use Rattle.pci_picture.specs.declared.badge.Badge.{Badge}

-- ---- which rows stand in the tree

-- a row of the tree: its function, and how many steps to the right it stands
pub record TreePlace : Type 0 where
  pub function : Listed
  pub steps : ℕ

abbrev pub tree_place : Listed → ℕ → TreePlace
tree_place function steps = record { function = function; steps = steps }

-- what is behind a bridge stands one step further right, up to 12 steps
abbrev pub steps_behind : ℕ → ℕ
steps_behind steps = min (steps + 1) 12

-- the functions on a bus
abbrev pub listed_on : ℕ → List Listed → List Listed
listed_on bus functions = filter (λ (function : Listed). bus_of_slot function.slot == bus) functions

abbrev pub is_drawn : List ℕ → ℕ → Bool
is_drawn drawn bus = list_any (λ other. other == bus) drawn

abbrev pub if_undrawn : List ℕ → Option ℕ → Option ℕ
if_undrawn drawn None = None
if_undrawn drawn (Some bus) = if is_drawn drawn bus then None else Some bus

-- the secondary bus of a bridge, where it was not drawn before
abbrev pub undrawn_behind : List ℕ → Listed → Option ℕ
undrawn_behind drawn function = if_undrawn drawn (secondary_of function.buses)

-- the rows of some of the functions that are listed, so many steps to the right, in their order: which buses were drawn before
-- these rows, and which ones were drawn then
pub data AreTreeRows (functions : List Listed) : List ℕ → ℕ → List Listed → List TreePlace → List ℕ → Type 0 where
  no_row : (drawn : List ℕ) (steps : ℕ) → AreTreeRows functions drawn steps [] [] drawn
  -- a function that is no bridge, or whose secondary bus was drawn before
  one_row : (drawn after : List ℕ) (steps : ℕ) (function : Listed) (rest : List Listed) (rows : List TreePlace)
      → undrawn_behind drawn function ≡ None
      → AreTreeRows functions drawn steps rest rows after
      → AreTreeRows functions drawn steps (function ∷ rest) (tree_place function steps ∷ rows) after
  -- below a bridge stand the rows of all functions on its secondary bus
  rows_behind : (drawn between after : List ℕ) (steps bus : ℕ) (function : Listed) (rest : List Listed) (behind rows : List TreePlace)
      → undrawn_behind drawn function ≡ Some bus
      → AreTreeRows functions (bus ∷ drawn) (steps_behind steps) (listed_on bus functions) behind between
      → AreTreeRows functions between steps rest rows after
      → AreTreeRows functions drawn steps (function ∷ rest) (tree_place function steps ∷ (behind ++ rows)) after

abbrev pub any_listed : List Listed → Bool
any_listed [] = false
any_listed (function ∷ functions) = true

-- a bus with functions, below no other bus and not drawn before
abbrev pub is_tree_root : List Listed → List ℕ → ℕ → Bool
is_tree_root functions drawn bus =
    any_listed (listed_on bus functions) && is_none (bus_above functions bus) && not (is_drawn drawn bus)

-- of each root among some buses its rows
pub data AreRootRows (functions : List Listed) : List ℕ → List ℕ → List (List TreePlace) → Type 0 where
  no_bus : (drawn : List ℕ) → AreRootRows functions drawn [] []
  other_bus : (drawn : List ℕ) (bus : ℕ) (buses : List ℕ) (roots : List (List TreePlace))
      → is_tree_root functions drawn bus ≡ false
      → AreRootRows functions drawn buses roots
      → AreRootRows functions drawn (bus ∷ buses) roots
  root_bus : (drawn between : List ℕ) (bus : ℕ) (buses : List ℕ) (rows : List TreePlace) (roots : List (List TreePlace))
      → is_tree_root functions drawn bus ≡ true
      → AreTreeRows functions (bus ∷ drawn) 0 (listed_on bus functions) rows between
      → AreRootRows functions between buses roots
      → AreRootRows functions drawn (bus ∷ buses) (rows ∷ roots)

-- ---- where the rows stand, and how they look

-- a height so many units further down; no height has more than 64 bits
abbrev pub down : ℕ → ℕ → ℕ
down y units = min (y + units) (2 ^ 64 - 1)

-- a row is red where faults stand beside it, else grey where its function is off
abbrev pub class_of_row : List ℕ → Bool → List ℕ
class_of_row beside is_on = if is_nonempty_word beside then codes "alarm" else (if is_on then [] else codes "quiet")

-- the class of a row's box: that of a window for a bridge, that of a register where the function is on, else grey
abbrev pub class_of_tree_box : Listed → List ℕ
class_of_tree_box function = if is_some function.buses then codes "window" else (if function.is_on then codes "bar" else codes "off")

-- the box of a row with its top at a height, whose title is the slot
abbrev pub tree_box_text : ℕ → TreePlace → List ℕ
tree_box_text y place =
    box_text (16 + 14 * place.steps) (down y 2) 8 9 (class_of_tree_box place.function) [] place.function.word

-- a row with its top at a height; a step is 14 units wide. At its right end stands the number of each fault that shows beside the
-- function, once
pub record IsRowAt (badges : List Badge) (y : ℕ) (place : TreePlace) (row : TreeRow) : Type 0 where
  pub says : row.words ≡ words_of_row place.function
  pub shows : ShowBadges (filter (λ badge. badge.slot == place.function.slot) badges) row.beside
  pub left_is : row.left ≡ 30 + 14 * place.steps
  pub base_is : row.base ≡ down y 10
  pub class_is : row.class ≡ class_of_row row.beside place.function.is_on

-- rows from a height on, their text, and where they end: each is 14 units high
pub data AreWritten (badges : List Badge) : ℕ → List TreePlace → List ℕ → ℕ → Type 0 where
  none_written : (y : ℕ) → AreWritten badges y [] [] y
  row_written : (y end : ℕ) (place : TreePlace) (row : TreeRow) (places : List TreePlace) (text : List ℕ)
      → IsRowAt badges y place row
      → AreWritten badges (down y 14) places text end
      → AreWritten badges y (place ∷ places) (tree_row_text row ++ text) end

-- the rows of roots: 16 units above those of each root have its heading, and 8 units below them are free
pub data AreRootsWritten (badges : List Badge) : ℕ → List (List TreePlace) → List ℕ → ℕ → Type 0 where
  no_root : (y : ℕ) → AreRootsWritten badges y [] [] y
  root_written : (y below end : ℕ) (rows : List TreePlace) (roots : List (List TreePlace)) (text more : List ℕ)
      → AreWritten badges (down y 16) rows text below
      → AreRootsWritten badges (down below 8) roots more end
      → AreRootsWritten badges y (rows ∷ roots) (text ++ more) end

-- the text of the tree of some functions, from a height on up to another
pub record IsTreeText (functions : List Listed) (badges : List Badge) (top : ℕ) (text : List ℕ) (end : ℕ) : Type 0 where
  pub roots : List (List TreePlace)
  pub are : AreRootRows functions [] (range_with_len 0 256) roots
  pub written : AreRootsWritten badges top roots text end
