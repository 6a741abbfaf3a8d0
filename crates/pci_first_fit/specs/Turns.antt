-- The order in which items are placed, by a number that stands for slot and register.
use Rattle.std.specs.Prelude.{◌≡◌, ℕ, ◌<◌, ◌⊎◌}
use Rattle.settle_spec.specs.Items.{PlacingItem as ItemValue}
use Rattle.pci_first_fit.specs.declared.item.Item.{Item}
use Rattle.pci_first_fit.specs.declared.extent.Extent.{Extent}
use Rattle.pci_first_fit.specs.Spots.{extent_value, IsExtent}

-- an item is larger than another, or as large and of a lower number
abbrev pub IsLargerItem : (Item → ℕ) → Item → Item → Type 0
IsLargerItem number i j =
    (j.extent.size < i.extent.size)
    ⊎ ((i.extent.size ≡ j.extent.size) × (number i < number j))

-- it is of a greater alignment, or comes first in the same
abbrev pub IsItemInTurn : (Item → ℕ) → Item → Item → Type 0
IsItemInTurn number i j =
    (j.extent.alignment < i.extent.alignment)
    ⊎ ((i.extent.alignment ≡ j.extent.alignment) × IsLargerItem number i j)

abbrev pub extent_of_item : Item → Extent
extent_of_item i = i.extent

abbrev pub HasExtent : Item → Type 0
HasExtent i = IsExtent i.extent

-- items of the definitions with the extents of those that they stand for
abbrev pub IsValued : (Item → ItemValue) → Type 0
IsValued value = (i : Item) → (value i).extent ≡ extent_value i.extent
