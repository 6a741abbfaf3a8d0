-- Laws of the writes of settling beside what is kept: how few they are, and what they leave on.
use Rattle.std.specs.Prelude.{◌≡◌, ℕ, ◌≤◌, IsTrue, take}
use Rattle.std.specs.List.{Contains, count_by}
use Rattle.pci_spec.specs.Slot.{same_slot}
use Rattle.pci_spec.specs.System.{System, Function, IsSystem, Space, is_space_on}
use Rattle.pci_spec.specs.Machine.{system_after}
use Rattle.settle_spec.specs.Lists.{Request}
use Rattle.settle_spec.specs.Kept.{Kept}
use Rattle.settle_spec.specs.Keeping.Writes.{is_left_on, settle_writes}
use Rattle.settle_laws.specs.WriteLaws.{most_settle_writes}
use Rattle.settle_laws.specs.Keeping.PlacesLaws.{CanSettle}

-- To a device at most 9 writes are made, and to a bridge 16.
abbrev pub FewSettleWritesEach : Type 0
FewSettleWritesEach =
    (q : Request) (s : System) (k : Kept) → IsSystem s → (f : Function) → Contains s f
    → count_by (λ w. same_slot w.slot f.slot) (settle_writes q s k) ≤ most_settle_writes f

-- A function is on in a space at each stop where it was on in it and isn't shut there, and has no I/O BAR that is left there.
abbrev pub UnshutIsNeverOff : Type 0
UnshutIsNeverOff =
    (q : Request) (s : System) (k : Kept) → CanSettle q s k → (f : Function) → Contains s f
    → (space : Space) → IsTrue (is_left_on q s k space f) → (n : ℕ)
    → (g : Function) × Contains (system_after s (take n (settle_writes q s k))) g × (g.slot ≡ f.slot)
    × IsTrue (is_space_on g space)
