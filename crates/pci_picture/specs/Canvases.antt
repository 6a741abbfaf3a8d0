-- What is added to a canvas.
use Rattle.std.specs.Prelude.{◌≡◌, ℕ, List, [], ◌∷◌, ◌++◌}
use Rattle.std.specs.String.{string_bytes}
use Rattle.pci_picture.specs.Boxes.{AreDrawn}
use Rattle.pci_picture.specs.Spots.{BoxSpot, spot_at}
use Rattle.pci_picture.specs.declared.canvas.Canvas.{Canvas}

-- a canvas has these lines of a map as first lines of titles, in their order and with their places, and no others
abbrev pub HasDrawn : {A : Type 0} → List BoxSpot → Canvas A → Type 0
HasDrawn spots canvas = AreDrawn spots (string_bytes canvas.boxes) (string_bytes canvas.words)

-- bytes stand behind the words that a canvas has
abbrev pub WritesBytes : {A : Type 0} → List ℕ → Canvas A → Canvas A → Type 0
WritesBytes bytes before after = string_bytes after.words ≡ string_bytes before.words ++ bytes

-- bytes stand behind the boxes that a canvas has
abbrev pub DrawsBytes : {A : Type 0} → List ℕ → Canvas A → Canvas A → Type 0
DrawsBytes bytes before after = string_bytes after.boxes ≡ string_bytes before.boxes ++ bytes

-- these are added behind those that a canvas has, boxes behind its boxes, and words behind its words
pub record AddsToCanvas {A : Type 0} (more : List BoxSpot) (before after : Canvas A) : Type 0 where
  pub behind : (spots : List BoxSpot) → HasDrawn spots before → HasDrawn (spots ++ more) after
  pub boxed : List ℕ
  pub draws : DrawsBytes boxed before after
  pub bytes : List ℕ
  pub writes : WritesBytes bytes before after

-- one box of a line is added, with a class and a place, whose title says this below the line
pub record AddsBoxOf {A : Type 0} (class said line : List ℕ) (x y width height : ℕ) (before after : Canvas A) : Type 0 where
  pub title : List ℕ
  pub titled : title ≡ line ++ said
  pub adds : AddsToCanvas (spot_at x y width height class title line ∷ []) before after

-- some are added, and bytes behind the words, of which this holds
pub record AddsSome {A : Type 0} (Hold : List BoxSpot → List ℕ → Type 0) (before after : Canvas A) : Type 0 where
  pub spots : List BoxSpot
  pub bytes : List ℕ
  pub hold : Hold spots bytes
  pub adds : AddsToCanvas spots before after
  pub writes : WritesBytes bytes before after
