-- Laws of what stands: it is told bus by bus and part by part, in one way alone, and what stands is apart and reached.
use Rattle.std.specs.Prelude.{◌≡◌, ◌≢◌, Bool, IsTrue, IsFalse}
use Rattle.std.specs.List.{Contains}
use Rattle.pci_spec.specs.System.{System, Function, IsSystem}
use Rattle.pci_spec.specs.Bus.{is_root, IsNested, LeadsTo}
use Rattle.settle_spec.specs.FirstPlace.{ranges_are_apart}
use Rattle.settle_spec.specs.Lists.{Request}
use Rattle.settle_spec.specs.Parts.{FunctionPart, system_parts, addresses, is_part, lies_within, class_in}
use Rattle.settle_spec.specs.Stands.{rank, part_space, are_beside, is_in_lists, window_part, stands_if, stands}

-- A test tells of each part what it has to by what it tells of the others, and of nothing else that it stands.
pub record IsStanding (q : Request) (s : System) (test : FunctionPart → Bool) : Type 0 where
  pub each : (r : FunctionPart) → Contains (system_parts q s) r → test r ≡ stands_if q s test r
  pub only : (r : FunctionPart) → Contains s r.function → IsTrue (test r)
      → IsTrue (is_part q s r.function r.part)

-- Asking as many others one after another as there are parts is enough.
abbrev pub StandsByItself : Type 0
StandsByItself = (q : Request) (s : System) → IsNested q.roots s → IsStanding q s (stands q s)

-- No other test tells of each part what it has to.
abbrev pub StandsAlone : Type 0
StandsAlone =
    (q : Request) (s : System) (test : FunctionPart → Bool) → IsNested q.roots s → IsStanding q s test
    → (r : FunctionPart) → Contains (system_parts q s) r → test r ≡ stands q s r

-- Two parts that stand, of one space and on one bus or both on roots, share no address.
abbrev pub AreApartWhereBeside : Type 0
AreApartWhereBeside =
    (q : Request) (s : System) (r t : FunctionPart) → IsNested q.roots s → Contains (system_parts q s) r
    → Contains (system_parts q s) t → IsTrue (stands q s r) → IsTrue (stands q s t)
    → IsTrue (are_beside q r t) → rank r ≢ rank t → IsTrue (ranges_are_apart (addresses r) (addresses t))

-- What stands on a root lies in a range of the lists that the root has.
abbrev pub LieInRootLists : Type 0
LieInRootLists =
    (q : Request) (s : System) (r : FunctionPart) → IsNested q.roots s → Contains (system_parts q s) r
    → IsTrue (stands q s r) → IsTrue (is_root q.roots r.function.slot.bus)
    → IsTrue (is_in_lists q r.function.slot.bus (addresses r) (part_space r))

-- What stands behind a bridge lies in the window of its class that leads there, and that window stands.
abbrev pub LieInWindows : Type 0
LieInWindows =
    (q : Request) (s : System) (r : FunctionPart) (b : Function) → IsSystem s → IsNested q.roots s
    → Contains (system_parts q s) r → IsTrue (stands q s r)
    → IsFalse (is_root q.roots r.function.slot.bus) → LeadsTo s b r.function.slot.bus
    → (let over = window_part (class_in q s r.function r.part) b in
    IsTrue (lies_within (addresses r) (addresses over)) × IsTrue (stands q s over))
