-- Laws of a whole settling with told ranges and room behind slots: lines, told ranges and stops.
use Rattle.std.specs.Prelude.{◌≡◌, ◌⊎◌, ℕ, ◌≤◌, IsTrue, IsFalse, [], List, take}
use Rattle.std.specs.List.{Contains}
use Rattle.pci_spec.specs.Slot.{Slot}
use Rattle.pci_spec.specs.System.{System, Function, Part, passes}
use Rattle.pci_spec.specs.Machine.{Write, system_after}
use Rattle.plan_spec.specs.Plan.{bridges_above}
use Rattle.judge_spec.specs.Told.{IsTold}
use Rattle.judge_spec.specs.ToldRegion.{ToldRegion, told_regions}
use Rattle.settle_spec.specs.Lines.{line_bus, is_always_line, keeps_off_part}
use Rattle.settle_spec.specs.Lists.{Request, are_bad_lists}
use Rattle.settle_spec.specs.Parts.{FunctionPart, system_parts}
use Rattle.settle_spec.specs.Stands.{is_line_on, precedes_off, range_stands, stands}
use Rattle.settle_spec.specs.Writes.{Settled}
use Rattle.settle_spec.specs.Sparing.{settle_sparing}
use Rattle.settle_laws.specs.StandingTold.Standing.{shares_with_line}
use Rattle.settle_laws.specs.Told.Ranges.{IsReached, IsFirstLineThere}
use Rattle.settle_laws.specs.Told.Starts.{IsQuiet}
use Rattle.settle_laws.specs.ToldSoundLaws.{IsAdmittedSystem}

-- A system is admitted, told ranges are as a text tells them, and it is settled by these writes.
pub record IsSettledBy (q : Request) (s : System) (writes : List Write) : Type 0 where
  pub admitted : IsAdmittedSystem q s
  pub told : IsTold q.told.ranges
  pub settles : settle_sparing q s ≡ Settled writes

-- ---- lines

-- A part of the start at this slot stood where a line that is off keeps it off, and comes before what is off.
pub record StoodThere (q : Request) (s : System) (slot : Slot) (part : Part) (x : ToldRegion) : Type 0 where
  pub f : Function
  pub listed : Contains s f
  pub slot_is : f.slot ≡ slot
  pub off : IsFalse (is_line_on q s x)
  pub stood : IsTrue (stands q s record { function = f; part = part })
  pub first : IsTrue (precedes_off q s record { function = f; part = part })
  pub shares : IsTrue (keeps_off_part q x record { function = f; part = part })

-- In the result no part shares an address with a line that keeps it off, but such a one.
abbrev pub ResultIsOffLines : Type 0
ResultIsOffLines =
    (q : Request) (s : System) (writes : List Write) (r : FunctionPart) (x : ToldRegion) → IsSettledBy q s writes
    → Contains (system_parts q (system_after s writes)) r → Contains (told_regions q.told) x
    → IsTrue (keeps_off_part q x r) → StoodThere q s r.function.slot r.part x

-- ---- told ranges

-- No part of the result shares an address with a told range that stood.
abbrev pub ResultIsOffRanges : Type 0
ResultIsOffRanges =
    (q : Request) (s : System) (writes : List Write) (r : FunctionPart) (x : ToldRegion) → IsSettledBy q s writes
    → Contains (told_regions q.told) x → IsTrue (range_stands q s x)
    → Contains (system_parts q (system_after s writes)) r → IsFalse (shares_with_line q r x)

-- One that stood is reached in the result,
abbrev pub ResultReachesRanges : Type 0
ResultReachesRanges =
    (q : Request) (s : System) (writes : List Write) (x : ToldRegion) → IsSettledBy q s writes
    → Contains (told_regions q.told) x → IsTrue (range_stands q s x) → IsReached q (system_after s writes) x

-- and stands there if it is on, or if no told range of an earlier line shares an address with it.
abbrev pub ResultKeepsRanges : Type 0
ResultKeepsRanges =
    (q : Request) (s : System) (writes : List Write) (x : ToldRegion) → IsSettledBy q s writes
    → Contains (told_regions q.told) x → IsTrue (range_stands q s x)
    → IsTrue (is_line_on q (system_after s writes) x) ⊎ IsFirstLineThere q x
    → IsTrue (range_stands q (system_after s writes) x)

-- ---- stops

-- Each bridge above one that is marked `always` and stood passes it at each stop.
abbrev pub BridgesPassThroughout : Type 0
BridgesPassThroughout =
    (q : Request) (s : System) (writes : List Write) (x : ToldRegion) (b : Function) (n : ℕ) → IsSettledBy q s writes
    → Contains (told_regions q.told) x → IsTrue (is_always_line x) → IsTrue (range_stands q s x)
    → Contains (bridges_above s (line_bus x)) b
    → (now : Function) × Contains (system_after s (take n writes)) now × (now.slot ≡ b.slot)
    × ((a : ℕ) → x.told.first ≤ a → a ≤ x.told.last → IsTrue (passes x.told.space x.told.prefetchable a now))

-- ---- a start that needs nothing

-- A quiet start is settled by no write.
abbrev pub QuietIsSettled : Type 0
QuietIsSettled =
    (q : Request) (s : System) → IsQuiet q s → IsFalse (are_bad_lists q.roots q.lists) → q.slots ≡ []
    → settle_sparing q s ≡ Settled []
