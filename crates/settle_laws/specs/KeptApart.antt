-- Laws of what is kept as a system is settled: it stands, apart, in the lists of its root or in the window over it.
use Rattle.std.specs.Prelude.{◌≢◌, IsTrue, IsFalse}
use Rattle.std.specs.List.{Contains}
use Rattle.pci_spec.specs.System.{System, Function, IsSystem}
use Rattle.pci_spec.specs.Bus.{is_root, IsNested, LeadsTo}
use Rattle.settle_spec.specs.FirstPlace.{ranges_are_apart}
use Rattle.settle_spec.specs.Lists.{Request}
use Rattle.settle_spec.specs.Parts.{FunctionPart, system_parts, lies_within, class_in}
use Rattle.settle_spec.specs.Stands.{rank, part_space, are_beside, is_in_lists, window_part, stands}
use Rattle.settle_spec.specs.Kept.{Kept, as_it_stands, growing}
use Rattle.settle_laws.specs.Reach.{WindowsAreLow}
use Rattle.settle_laws.specs.There.{ItemsAreAligned}

-- What stays stands. By the addresses that it has then it shares none with what else stays on its bus, lies in a range of
-- the lists that its root has, and behind a bridge in the window of its class there, which stays too.
pub record IsKeptApart (q : Request) (s : System) (k : Kept) : Type 0 where
  pub stands : (r : FunctionPart) → IsTrue (k.stays r) → IsTrue (stands q s r)
  pub apart : (r t : FunctionPart) → Contains (system_parts q s) r → Contains (system_parts q s) t → IsTrue (k.stays r)
      → IsTrue (k.stays t) → IsTrue (are_beside q r t) → rank r ≢ rank t → IsTrue (ranges_are_apart (k.range r) (k.range t))
  pub lists : (r : FunctionPart) → Contains (system_parts q s) r → IsTrue (k.stays r)
      → IsTrue (is_root q.roots r.function.slot.bus) → IsTrue (is_in_lists q r.function.slot.bus (k.range r) (part_space r))
  pub windows : (r : FunctionPart) (b : Function) → Contains (system_parts q s) r → IsTrue (k.stays r)
      → IsFalse (is_root q.roots r.function.slot.bus) → LeadsTo s b r.function.slot.bus
      → (let over = window_part (class_in q s r.function r.part) b in
      IsTrue (lies_within (k.range r) (k.range over)) × IsTrue (k.stays over))

-- So it is with what stays as it stands,
abbrev pub StandingIsKeptApart : Type 0
StandingIsKeptApart =
    (q : Request) (s : System) → IsSystem s → IsNested q.roots s → IsKeptApart q s (as_it_stands q s)

-- and where windows grow.
abbrev pub GrowingIsKeptApart : Type 0
GrowingIsKeptApart =
    (q : Request) (s : System) → IsSystem s → IsNested q.roots s → WindowsAreLow q s → ItemsAreAligned q s
    → IsKeptApart q s (growing q s)
