-- The root buses of a word of the command line.
use Rattle.std.specs.Prelude.{◌≡◌, ℕ, ◌<◌, List, ◌∷◌}
use Rattle.std.specs.List.{All, flat_map}
use Rattle.pci_spec.specs.Text.{hex_byte}
use Rattle.pci_tree.specs.Roots.{IsRootList}

-- a comma, and a bus in two digits
abbrev pub comma_bus_text : ℕ → List ℕ
comma_bus_text bus = 44 ∷ hex_byte bus

-- the buses in two digits each, joined by commas: with a comma before the first too, each has one
pub record IsRootWord (word buses : List ℕ) : Type 0 where
  pub below : All (λ bus. bus < 256) buses
  pub list : IsRootList buses
  pub text : 44 ∷ word ≡ flat_map comma_bus_text buses
