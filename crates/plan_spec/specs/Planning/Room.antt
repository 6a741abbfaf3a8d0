-- The least multiple of a size.
use Rattle.std.specs.Prelude.{◌≡◌, ℕ, ◌+◌, ◌%◌, ◌<◌, ◌≤◌, List}
use Rattle.std.specs.List.{flat_map}
use Rattle.pci_spec.specs.Window.{WindowKind}
use Rattle.pci_spec.specs.System.{System}
use Rattle.plan_spec.specs.Plan.{Pools, items_on}

-- r is the least multiple of a size from n on
pub record IsRaised (size n r : ℕ) : Type 0 where
  pub multiple : r % size ≡ 0
  pub from : n ≤ r
  pub below : r < n + size
  pub least : (m : ℕ) → m % size ≡ 0 → n ≤ m → r ≤ m

-- what stands on the root buses, as the items of one bus
abbrev pub root_items : List ℕ → System → Pools → WindowKind → List ℕ
root_items roots s pools c = flat_map (items_on s pools c) roots
