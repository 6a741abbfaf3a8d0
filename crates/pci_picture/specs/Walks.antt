-- The tree of buses, while it is drawn.
use Rattle.std.specs.Prelude.{◌≡◌, ◌<◌, ◌+◌, ◌-◌, ◌^◌, ℕ, Bool, true, false, min, Option, Some, None, List, [], ◌∷◌, ◌++◌, take, drop, slice_index_or, slice_set, if◌then◌else◌}
use Rattle.std.specs.List.{Contains}
use Rattle.pci_picture.specs.Canvases.{WritesBytes}
use Rattle.pci_picture.specs.Roots.{Listed, listed_function, secondary_of}
use Rattle.pci_picture.specs.Rows.{TreeRow, tree_row_text}
use Rattle.pci_picture.specs.Starts.{StandOnBus}
use Rattle.pci_picture.specs.Trees.{AreTreeRows, AreWritten, IsRowAt, IsTreeText, TreePlace, down, is_drawn, listed_on, tree_place}
use Rattle.pci_picture.specs.declared.badge.Badge.{Badge}
use Rattle.pci_picture.specs.declared.canvas.Canvas.{Canvas}
use Rattle.pci_picture.specs.declared.function.Function.{Function}
use Rattle.pci_picture.specs.declared.tree.Rest.{Rest}

-- the row of a function is written
pub record WritesRow {A : Type 0} (badges : List Badge) (y : ℕ) (place : TreePlace) (before after : Canvas A) : Type 0 where
  pub row : TreeRow
  pub stands : IsRowAt badges y place row
  pub writes : WritesBytes (tree_row_text row) before after

abbrev pub place_of : Function → ℕ → TreePlace
place_of function depth = tree_place (listed_function function) (min depth 12)

-- the functions from an index up to another
abbrev pub left_between : List Function → ℕ → ℕ → List Function
left_between functions next end = take (end - next) (drop next functions)

abbrev pub left_of : List Function → Rest → List Function
left_of functions rest = left_between functions rest.next rest.end

-- the first function that is left, and those behind it
pub record IsNextFunction (functions : List Function) (rest : Rest) (function : Function) : Type 0 where
  pub own : Contains functions function
  pub some : rest.next < rest.end
  pub splits : left_of functions rest ≡ function ∷ left_between functions (rest.next + 1) rest.end

-- these buses are marked in a table
abbrev pub AreMarked : List Bool → List ℕ → Type 0
AreMarked marks drawn = (bus : ℕ) → bus < 256 → slice_index_or marks bus false ≡ is_drawn drawn bus

abbrev pub if_unmarked : List Bool → Option ℕ → Option ℕ
if_unmarked marks None = None
if_unmarked marks (Some bus) = if slice_index_or marks bus false then None else Some bus

-- the secondary bus of a bridge, where it is not marked
abbrev pub unmarked_behind : List Bool → Function → Option ℕ
unmarked_behind marks function = if_unmarked marks (secondary_of function.buses)

-- a bus is marked, and its functions are left, one step deeper
pub record IsBusBegun (functions : List Function) (bus depth : ℕ) (old new : List Rest) (marks now : List Bool) : Type 0 where
  pub rest : Rest
  pub put : new ≡ old ++ rest ∷ []
  pub on : StandOnBus functions bus rest.next rest.end
  pub deep : rest.depth ≡ min (depth + 1) (2 ^ 64 - 1)
  pub marked : now ≡ slice_set marks bus true
  pub low : bus < 256
  pub unmarked : slice_index_or marks bus false ≡ false

-- the rows of a root from a height on are written, where these buses were drawn before
pub record WritesBus {A : Type 0} (functions : List Listed) (badges : List Badge) (drawn : List ℕ) (root top end : ℕ) (marks : List Bool)
    (before after : Canvas A) : Type 0 where
  pub rows : List TreePlace
  pub text : List ℕ
  pub now : List ℕ
  pub are : AreTreeRows functions (root ∷ drawn) 0 (listed_on root functions) rows now
  pub marked : AreMarked marks now
  pub written : AreWritten badges top rows text end
  pub writes : WritesBytes text before after

-- the rows of a root below its heading are written, from where the heading stands
pub record WritesRoot {A : Type 0} (functions : List Listed) (badges : List Badge) (drawn : List ℕ) (root top end : ℕ) (marks : List Bool)
    (before after : Canvas A) : Type 0 where
  pub below : ℕ
  pub bus : WritesBus functions badges drawn root (down top 16) below marks before after
  pub ends : end ≡ down below 8

-- the tree is written, from a height on up to another
pub record WritesTree {A : Type 0} (functions : List Listed) (badges : List Badge) (top end : ℕ) (before after : Canvas A) : Type 0 where
  pub text : List ℕ
  pub is : IsTreeText functions badges top text end
  pub writes : WritesBytes text before after
