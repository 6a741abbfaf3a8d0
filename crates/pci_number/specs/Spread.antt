-- The bridges behind a root while numbers are given: one may have a bus behind it on which any old
-- numbers stand.
use Rattle.std.specs.Prelude.{◌≡◌, ℕ, ◌<◌, ◌≤◌, ◌⊎◌, max, true, List}
use Rattle.pci_spec.specs.Header.{secondary_bus, subordinate_bus}
use Rattle.pci_number.specs.Board.{Nodes, NoMore, Node, is_type_1}

-- a node is no bridge, or one that forwards nothing
abbrev pub IsShut : List ℕ → Type 0
IsShut image = is_type_1 image ≡ true → (secondary_bus image ≡ 0) × (subordinate_bus image ≡ 0)

-- The bridges on a bus that forward anything lead to buses above the lower one, up to the higher
-- one, each to buses after those of the one before it. One that leads to a single bus may have
-- bridges with any numbers there, as it passes nothing on to them; those behind another are spread
-- over the buses after its own.
abbrev pub IsSpread : ℕ → ℕ → Nodes → Type 0
IsSpread low high NoMore = Unit {0}
IsSpread low high (Node device function image behind others) =
    (IsShut image × IsSpread low high others)
    ⊎ ((low < secondary_bus image) × (max (secondary_bus image) (subordinate_bus image) ≤ high)
    × ((subordinate_bus image ≤ secondary_bus image)
    ⊎ IsSpread (secondary_bus image) (subordinate_bus image) behind)
    × IsSpread (max (secondary_bus image) (subordinate_bus image)) high others)
