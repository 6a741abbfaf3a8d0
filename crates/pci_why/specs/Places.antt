-- Places for a number of addresses among ranges.
use Rattle.std.specs.Prelude.{◌≡◌, ℕ, ◌+◌, ◌%◌, ◌<◌, ◌≤◌, List}
use Rattle.pci_base.specs.declared.range.Range.{Range}
use Rattle.pci_tree.specs.Ranges.{Covers}

-- a multiple of the number, from which on the ranges have so many addresses, all below an end
pub record IsPlaceReached (ranges : List Range) (count end p : ℕ) : Type 0 where
  pub multiple : p % count ≡ 0
  pub below : p + count ≤ end
  pub covered : (a : ℕ) → p ≤ a → a < p + count → Covers ranges a

-- the least of those from a number on
pub record IsLeastPlaceFrom (ranges : List Range) (count end from p : ℕ) : Type 0 where
  pub from_on : from ≤ p
  pub is : IsPlaceReached ranges count end p
  pub least : (n : ℕ) → from ≤ n → IsPlaceReached ranges count end n → p ≤ n
