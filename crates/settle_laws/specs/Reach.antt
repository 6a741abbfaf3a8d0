-- Laws of reaches: each is pages around its window, in the reach of the window above it, off what stands beside it.
use Rattle.std.specs.Prelude.{◌≢◌, ◌≤◌, IsTrue, IsFalse}
use Rattle.std.specs.List.{Contains}
use Rattle.pci_spec.specs.Window.{WindowKind}
use Rattle.pci_spec.specs.System.{System, Function, IsSystem}
use Rattle.pci_spec.specs.Bus.{is_root, IsNested, LeadsTo}
use Rattle.settle_spec.specs.FirstPlace.{ranges_are_apart}
use Rattle.settle_spec.specs.Lists.{Request}
use Rattle.settle_spec.specs.Parts.{FunctionPart, system_parts, addresses, lies_within}
use Rattle.settle_spec.specs.Stands.{rank, are_beside, window_part, stands}
use Rattle.settle_spec.specs.Items.{highest_in}
use Rattle.settle_spec.specs.Reach.{reach}
use Rattle.settle_spec.specs.GrowthLaws.{CanReach}

-- no window that stands lies above the highest address that it can hold
abbrev pub WindowsAreLow : Request → System → Type 0
WindowsAreLow q s =
    (c : WindowKind) (b : Function) → Contains s b → IsTrue (stands q s (window_part c b))
    → (addresses (window_part c b)).last ≤ highest_in c b.probe

-- a window of a bridge stands
pub record IsStandingWindow (q : Request) (s : System) (c : WindowKind) (b : Function) : Type 0 where
  pub part : Contains (system_parts q s) (window_part c b)
  pub stands : IsTrue (stands q s (window_part c b))

-- The reach of a window that stands is pages around it.
abbrev pub ReachesAreAround : Type 0
ReachesAreAround =
    (q : Request) (s : System) (c : WindowKind) (b : Function) → IsSystem s → IsNested q.roots s
    → WindowsAreLow q s → IsStandingWindow q s c b
    → CanReach c (addresses (window_part c b)) (reach q s c b)

-- It is in the reach of the window above it,
abbrev pub ReachesNest : Type 0
ReachesNest =
    (q : Request) (s : System) (c : WindowKind) (b over : Function) → IsSystem s → IsNested q.roots s
    → WindowsAreLow q s → IsStandingWindow q s c b → IsFalse (is_root q.roots b.slot.bus)
    → LeadsTo s over b.slot.bus → IsTrue (lies_within (reach q s c b) (reach q s c over))

-- and off all else that stands on its bus.
abbrev pub ReachesAreOff : Type 0
ReachesAreOff =
    (q : Request) (s : System) (c : WindowKind) (b : Function) (t : FunctionPart) → IsNested q.roots s
    → IsStandingWindow q s c b → Contains (system_parts q s) t → IsTrue (stands q s t)
    → IsTrue (are_beside q (window_part c b) t) → rank t ≢ rank (window_part c b)
    → IsTrue (ranges_are_apart (reach q s c b) (addresses t))
