-- Laws of a sound start: each part stands exactly where each is in its place, and then nothing is settled.
use Rattle.std.specs.Prelude.{◌≡◌, ◌≢◌, ◌↔◌, Bool, ◌&&◌, IsTrue, IsFalse, []}
use Rattle.std.specs.List.{list_all, Contains}
use Rattle.pci_spec.specs.System.{System, Function, IsSystem, Io, is_space_on}
use Rattle.pci_spec.specs.Bus.{is_root, IsNested, LeadsTo}
use Rattle.pci_spec.specs.Sound.{IsSound}
use Rattle.plan_spec.specs.Plan.{bridges_above, is_open}
use Rattle.settle_spec.specs.FirstPlace.{ranges_are_apart}
use Rattle.settle_spec.specs.Lists.{Request, are_bad_lists}
use Rattle.settle_spec.specs.Parts.{FunctionPart, system_parts, addresses, lies_within, class_in, has_left}
use Rattle.settle_spec.specs.Stands.{rank, is_part_on, part_space, are_beside, is_in_lists, window_part, stands}
use Rattle.settle_spec.specs.Writes.{Settled}
use Rattle.settle_spec.specs.Kept.{as_it_stands}
use Rattle.settle_spec.specs.Keeping.Writes.{settle_keeping}
use Rattle.settle_spec.specs.Growing.{settle_growing}

-- Each part behind a bridge lies whole in the window of its class there, which is open.
abbrev pub PartsLieInWindows : Request → System → Type 0
PartsLieInWindows q s =
    (r : FunctionPart) (b : Function) → Contains (system_parts q s) r → LeadsTo s b r.function.slot.bus
    → IsTrue (is_open b (class_in q s r.function r.part))
    × IsTrue (lies_within (addresses r) (addresses (window_part (class_in q s r.function r.part) b)))

-- So it is, and each part on a root lies whole in a range of the lists of its space that the root has.
pub record LieInPlace (q : Request) (s : System) : Type 0 where
  pub lists : (r : FunctionPart) → Contains (system_parts q s) r → IsTrue (is_root q.roots r.function.slot.bus)
      → IsTrue (is_in_lists q r.function.slot.bus (addresses r) (part_space r))
  pub windows : PartsLieInWindows q s

-- Command enables a part, and on each bridge above it the part's space.
abbrev pub is_on_from_above : System → FunctionPart → Bool
is_on_from_above s r =
    is_part_on r && list_all (λ b. is_space_on b (part_space r)) (bridges_above s r.function.slot.bus)

-- What isn't enabled so shares no address with another part of its space on its bus, all roots being one bus.
abbrev pub OffLieApart : Request → System → Type 0
OffLieApart q s =
    (r t : FunctionPart) → Contains (system_parts q s) r → Contains (system_parts q s) t
    → IsTrue (are_beside q r t) → rank r ≢ rank t → IsFalse (is_on_from_above s r)
    → IsTrue (ranges_are_apart (addresses r) (addresses t))

-- So it is where all parts are enabled: a bridge above one has an open window of the part's space.
abbrev pub EnabledLieApart : Type 0
EnabledLieApart =
    (q : Request) (s : System) → IsSystem s → IsNested q.roots s → LieInPlace q s
    → ((r : FunctionPart) → Contains (system_parts q s) r → IsTrue (is_part_on r)) → OffLieApart q s

-- In a sound system each part stands, unless all is placed anew, where both hold, and nowhere else.
abbrev pub SoundStandsInPlace : Type 0
SoundStandsInPlace =
    (q : Request) → q.told.ranges ≡ [] → (s : System) → IsSystem s → IsSound q.roots s → IsFalse q.anew
    → ((r : FunctionPart) → Contains (system_parts q s) r → IsTrue (stands q s r))
    ↔ LieInPlace q s × OffLieApart q s

-- So settling it writes nothing there, whatever is fixed, if I/O is off in each function with an I/O BAR that is left.
abbrev pub SoundInPlaceIsSettled : Type 0
SoundInPlaceIsSettled =
    (q : Request) → q.told.ranges ≡ [] → (s : System) → IsSystem s → IsSound q.roots s → IsFalse q.anew
    → LieInPlace q s → OffLieApart q s
    → ((f : Function) → Contains s f → IsTrue (has_left q s f) → IsFalse (is_space_on f Io))
    → IsFalse (are_bad_lists q.roots q.lists)
    → (settle_keeping q s (as_it_stands q s) ≡ Settled []) × (settle_growing q s ≡ Settled [])
