-- A picture of the texts of `show`, `map` and `faults --why`, and of titles.
use Rattle.std.specs.Prelude.{ℕ, List}
use Rattle.pci_picture.specs.Boxes.{IsPictureOf}
use Rattle.pci_picture.specs.Named.{AreFunctionsTitled}
use Rattle.pci_picture.specs.Roots.{Listed}

-- the functions that `show` lists, with their titles, say in which section a region out of place is drawn, and what the title of a
-- region's box says of its function
pub record IsDrawnByRootsOfShow (show titles map faults text : List ℕ) : Type 0 where
  pub functions : List Listed
  pub titled : AreFunctionsTitled show titles functions
  pub drawn : IsPictureOf functions map faults text
