-- The places of a function's parts, as a table of the code has them.
use Rattle.std.specs.Prelude.{◌≡◌, ℕ, List, length, Some, slice_get, slice_index, slice_index_or, IsTrue, IsFalse}
use Rattle.pci_spec.specs.Window.{WindowKind, IoWindow, MemoryWindow, PrefetchWindow}
use Rattle.pci_spec.specs.System.{System, Function, Part, Bar, Rom, Window}
use Rattle.plan_spec.specs.Plan.{Pools}
use Rattle.plan_spec.specs.Planning.Table.{is_placed}
use Rattle.plan_spec.specs.Planning.Numbers.{place_at}
use Rattle.pci_place.specs.declared.place.Places.{Places}

-- the first address of a part
abbrev pub first_in : Places → Part → ℕ
first_in p (Bar n) = slice_index p.bars n
first_in p Rom = p.rom
first_in p (Window IoWindow) = p.windows.io
first_in p (Window MemoryWindow) = p.windows.memory
first_in p (Window PrefetchWindow) = p.windows.prefetchable

-- everything of a class stands at its place
abbrev pub HasPlaces : List ℕ → System → Pools → WindowKind → List Places → Type 0
HasPlaces roots s pools c places =
    (k : ℕ) (f : Function) (d : Places) (part : Part) → slice_get s k ≡ Some f
    → IsTrue (is_placed s pools c f part)
    → first_in (slice_index_or places k d) part ≡ place_at roots s pools f part

-- everything of another class stands where it stood
pub record KeepsOthers (s : System) (pools : Pools) (c : WindowKind)
    (old new : List Places) : Type 0 where
  pub count : length new ≡ length old
  pub others : (k : ℕ) (f : Function) (d : Places) (part : Part) → slice_get s k ≡ Some f
      → IsFalse (is_placed s pools c f part)
      → first_in (slice_index_or new k d) part ≡ first_in (slice_index_or old k d) part
