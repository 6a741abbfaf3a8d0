-- What the buses need of a class.
use Rattle.std.specs.Prelude.{◌≡◌, ℕ, ◌<◌, List, slice_index}
use Rattle.pci_spec.specs.Window.{WindowKind, IoWindow, MemoryWindow, PrefetchWindow}
use Rattle.pci_spec.specs.System.{System}
use Rattle.plan_spec.specs.Plan.{Pools, need_of, greatest_of_roots}
use Rattle.pci_place.specs.declared.need.Needs.{Needs}
use Rattle.pci_base.specs.declared.window_kind.ByKind.{ByKind}

pub record AreNeeds (roots : List ℕ) (s : System) (pools : Pools) (c : WindowKind)
    (needs : Needs) : Type 0 where
  pub need : (bus : ℕ) → bus < 256 → slice_index needs.of_bus bus ≡ need_of s pools c bus
  pub greatest : needs.greatest ≡ greatest_of_roots roots s pools c

-- of each class
pub record AreAllNeeds (roots : List ℕ) (s : System) (pools : Pools)
    (needs : ByKind Needs) : Type 0 where
  pub io : AreNeeds roots s pools IoWindow needs.io
  pub memory : AreNeeds roots s pools MemoryWindow needs.memory
  pub prefetch : AreNeeds roots s pools PrefetchWindow needs.prefetchable
