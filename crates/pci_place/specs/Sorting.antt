-- The order in which items are placed.
use Rattle.std.specs.Prelude.{◌≡◌, ℕ, ◌^◌, ◌<◌, ◌⊎◌, IsTrue, List, length, map}
use Rattle.std.specs.List.{All}
use Rattle.std.specs.List.Sorted.{IsPermutation}
use Rattle.pci_spec.specs.Window.{WindowKind}
use Rattle.pci_spec.specs.System.{System}
use Rattle.plan_spec.specs.Plan.{Pools, pool_of, raised_to, greatest_of_roots, fits}
use Rattle.plan_spec.specs.Planning.Sorted.{all_items, IsInOrder}
use Rattle.pci_place.specs.declared.item.Item.{Item}
use Rattle.pci_place.specs.Items.{item_value, IsItemIn, IsRooted}

-- an item has a lower slot than another, or the same slot and a lower register
abbrev pub StandsEarlier : (Item → ℕ) → (Item → ℕ) → Item → Item → Type 0
StandsEarlier slot register i j =
    (slot i < slot j) ⊎ ((slot i ≡ slot j) × (register i < register j))

-- it is larger, or as large and stands earlier
abbrev pub IsLarger : (Item → ℕ) → (Item → ℕ) → Item → Item → Type 0
IsLarger slot register i j =
    (j.size < i.size) ⊎ ((i.size ≡ j.size) × StandsEarlier slot register i j)

-- it is of a lower group, or comes first in the same
abbrev pub IsPlacedBefore : (Item → ℕ) → (Item → ℕ) → Item → Item → Type 0
IsPlacedBefore slot register i j =
    (i.group < j.group) ⊎ ((i.group ≡ j.group) × IsLarger slot register i j)

-- all items of a class, in the order in which they are placed
pub record AreSortedItems (roots : List ℕ) (s : System) (pools : Pools) (c : WindowKind)
    (items : List Item) : Type 0 where
  pub same : IsPermutation (all_items s pools c) (map (item_value s c) items)
  pub ordered : IsInOrder roots (map (item_value s c) items)
  pub each : All (IsItemIn roots s) items

-- the system that sorted items are of, in which all of the class fits its pool
pub record SortedClass (c : WindowKind) (functions start : ℕ) (items : List Item) : Type 0 where
  pub roots : List ℕ
  pub system : System
  pub pools : Pools
  pub rooted : IsRooted roots system
  pub room : IsTrue (fits roots system pools c)
  pub low : (pool_of pools c).last < 2 ^ 64
  pub starts : start
      ≡ raised_to (greatest_of_roots roots system pools c) (pool_of pools c).first
  pub count : functions ≡ length system
  pub sorted : AreSortedItems roots system pools c items
