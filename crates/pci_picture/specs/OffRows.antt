-- The list of what is off.
use Rattle.std.specs.Prelude.{◌≡◌, ℕ, List, [], ◌∷◌}
use Rattle.pci_picture.specs.Spots.{BoxSpot}
use Rattle.pci_picture.specs.Trees.{down}

-- a box of the list, 13 units high
pub record IsOffRow (x width y : ℕ) (spot : BoxSpot) : Type 0 where
  pub left_is : spot.x ≡ x
  pub width_is : spot.width ≡ width
  pub top_is : spot.y ≡ y
  pub height_is : spot.height ≡ 13

-- boxes of the list from a height on, and where they end: each stands 14 units below the one before it
pub data AreRowsOfOff (x width : ℕ) : ℕ → List BoxSpot → ℕ → Type 0 where
  no_off_row : (y : ℕ) → AreRowsOfOff x width y [] y
  off_row : (y end : ℕ) (spot : BoxSpot) (spots : List BoxSpot) → IsOffRow x width y spot → AreRowsOfOff x width (down y 14) spots end
      → AreRowsOfOff x width y (spot ∷ spots) end

-- the list begins 22 units below a height, under its heading, where anything is off
abbrev pub top_of_off : {X : Type 0} → ℕ → List X → ℕ
top_of_off y [] = y
top_of_off y (x ∷ xs) = down y 22
