-- Laws of stops between the writes: windows that stay hold all that they held, and bridges pass `always` ranges at each stop.
use Rattle.std.specs.Prelude.{◌≡◌, ℕ, ◌≤◌, IsTrue, take}
use Rattle.std.specs.List.{Contains}
use Rattle.pci_spec.specs.Window.{WindowKind, holds}
use Rattle.pci_spec.specs.System.{System, Function, is_bridge, passes}
use Rattle.pci_spec.specs.Machine.{system_after}
use Rattle.plan_spec.specs.Plan.{bridges_above}
use Rattle.judge_spec.specs.ToldRegion.{ToldRegion, told_regions}
use Rattle.settle_spec.specs.Kept.{Kept}
use Rattle.settle_spec.specs.Lines.{line_bus, is_always_line}
use Rattle.settle_spec.specs.Lists.{Request}
use Rattle.settle_spec.specs.Stands.{window_part, range_stands}
use Rattle.settle_spec.specs.Keeping.Writes.{settle_writes}
use Rattle.settle_laws.specs.Keeping.PlacesLaws.{CanSettle}
use Rattle.settle_laws.specs.Told.Ranges.{IsSettledSo}

-- the function of a slot at a stop, with the read backs that it has
pub record IsAtStop (q : Request) (s : System) (k : Kept) (n : ℕ) (b now : Function) : Type 0 where
  pub there : Contains (system_after s (take n (settle_writes q s k))) now
  pub slot : now.slot ≡ b.slot
  pub probe : now.probe ≡ b.probe

-- A window of a bridge that stays holds at each stop each address that it held.
abbrev pub StayingWindowsHold : Type 0
StayingWindowsHold =
    (q : Request) (s : System) (k : Kept) (c : WindowKind) (b : Function) (n : ℕ) → CanSettle q s k
    → Contains s b → IsTrue (is_bridge b) → IsTrue (k.stays (window_part c b))
    → (now : Function) × IsAtStop q s k n b now
    × ((a : ℕ) → IsTrue (holds c b.image b.probe a) → IsTrue (holds c now.image now.probe a))

-- Each bridge above a told range that is marked `always` and stands passes it at each stop.
abbrev pub BridgesAlwaysPass : Type 0
BridgesAlwaysPass =
    (q : Request) (s : System) (k : Kept) (x : ToldRegion) (b : Function) (n : ℕ) → IsSettledSo q s k
    → Contains (told_regions q.told) x → IsTrue (is_always_line x) → IsTrue (range_stands q s x)
    → Contains (bridges_above s (line_bus x)) b
    → (now : Function) × IsAtStop q s k n b now
    × ((a : ℕ) → x.told.first ≤ a → a ≤ x.told.last → IsTrue (passes x.told.space x.told.prefetchable a now))
