-- The places of items in a table: each is put over what the table has.
use Rattle.std.specs.Prelude.{◌≡◌, ℕ, IsTrue, List, Some, slice_get}
use Rattle.pci_spec.specs.Window.{WindowKind}
use Rattle.pci_spec.specs.System.{System, Function, Part, has_part}
use Rattle.settle_spec.specs.FirstPlace.{else_at}
use Rattle.settle_spec.specs.Items.{Placed}
use Rattle.settle_spec.specs.Places.{place_among}
use Rattle.settle_spec.specs.Kept.{address_of_placed}
use Rattle.pci_first_fit.specs.declared.item.Item.{Item}
use Rattle.pci_first_fit.specs.declared.place.Places.{Places}
use Rattle.pci_first_fit.specs.Own.{asked_item_value}
use Rattle.pci_first_fit.specs.PlaceTables.{placed}

-- a table of a system's functions gets the places of items; of those of one part the first counts
abbrev pub ArePutOver : System → List Placed → List Places → List Places → Type 0
ArePutOver s put old new =
    (k : ℕ) (f : Function) (part : Part) → slice_get s k ≡ Some f → IsTrue (has_part f part)
    → placed new k part
    ≡ else_at (address_of_placed (place_among record { function = f; part = part } put)) (placed old k part)

-- the function of an item has its part
abbrev pub HasItemPart : System → WindowKind → Item → Type 0
HasItemPart s c i =
    IsTrue (has_part (asked_item_value s c i).region.function (asked_item_value s c i).region.part)
