-- What settling comes to with told ranges: sound as told, off lines, and with a way to what is answered always.
use Rattle.std.specs.Prelude.{ℕ, ◌≤◌, ◌⊎◌, IsTrue, List, take}
use Rattle.std.specs.List.{Contains}
use Rattle.pci_spec.specs.Decoded.{InRange}
use Rattle.pci_spec.specs.Slot.{Slot}
use Rattle.pci_spec.specs.System.{System, IsPassedTo}
use Rattle.pci_spec.specs.Machine.{Write, system_after}
use Rattle.judge_spec.specs.ToldFault.{IsNotListed, IsHeldOrphan}
use Rattle.judge_spec.specs.ToldRegion.{ToldRegion, told_regions}
use Rattle.settle_spec.specs.Lines.{line_bus, line_range, is_always_line, keeps_off_part}
use Rattle.settle_spec.specs.Lists.{Request}
use Rattle.settle_spec.specs.Parts.{FunctionPart, system_parts}
use Rattle.settle_laws.specs.ToldSoundLaws.{IsSoundAsTold}
use Rattle.settle_laws.specs.Told.Whole.{StoodThere}

-- The system has the slots of told ranges, and somebody leads to the bus of each `held` line: else 34 or 58 is there.
pub record HasLines (q : Request) (s : System) : Type 0 where
  pub listed : (slot : Slot) → IsNotListed q.told s slot → ⊥
  pub led_to : (slot : Slot) → IsHeldOrphan q.told q.roots s slot → ⊥

-- the end is sound as told
abbrev pub EndsAsTold : Request → System → System → Type 0
EndsAsTold q s end = HasLines q s → IsSoundAsTold q end

-- The writes can stop once so many are made, which are those that close, and from a start that is sound as told at any time.
abbrev pub StopsAsTold : Request → System → List Write → ℕ → Type 0
StopsAsTold q s writes closings =
    HasLines q s → (k : ℕ) → (closings ≤ k) ⊎ IsSoundAsTold q s → IsSoundAsTold q (system_after s (take k writes))

-- an address of a range that is marked `always` is passed from a root to its bus
abbrev pub ReachesAlways : Request → System → Type 0
ReachesAlways q t =
    (x : ToldRegion) (a : ℕ) → Contains (told_regions q.told) x → IsTrue (is_always_line x) → InRange (line_range x) a
    → IsPassedTo q.roots t x.told.space x.told.prefetchable a (line_bus x)

-- it is so at each stop, whatever the start
abbrev pub AlwaysReaches : Request → System → List Write → Type 0
AlwaysReaches q s writes = HasLines q s → (k : ℕ) → ReachesAlways q (system_after s (take k writes))

-- In the end no part shares an address with a line that keeps it off, but one that stood where a line that is off keeps it off.
abbrev pub EndsOffLines : Request → System → System → Type 0
EndsOffLines q s end =
    (r : FunctionPart) (x : ToldRegion) → Contains (system_parts q end) r → Contains (told_regions q.told) x
    → IsTrue (keeps_off_part q x r) → StoodThere q s r.function.slot r.part x
