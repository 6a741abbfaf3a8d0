-- Laws of a host that sends each root bus just the addresses that the lists have for it: what is sound with that given, and in
-- its place, is settled.
use Rattle.std.specs.Prelude.{◌≡◌, ◌↔◌, ◌⊎◌, ℕ, ◌+◌, ◌<◌, ◌≤◌, not, ◌&&◌, IsTrue, IsFalse, List, [], ◌++◌, map, Some}
use Rattle.std.specs.List.{Contains}
use Rattle.pci_spec.specs.Decoded.{Range, InRange}
use Rattle.pci_spec.specs.System.{System, Function, IsSystem, Space, Io, Memory, is_space_on, is_window}
use Rattle.pci_spec.specs.Bus.{is_root}
use Rattle.pci_spec.specs.Sound as plain
use Rattle.judge_spec.specs.Given.{Given, HostRange, starts}
use Rattle.judge_spec.specs.Sound as given
use Rattle.settle_spec.specs.Lists.{RootRange, Request, is_had_by, are_bad_lists}
use Rattle.settle_spec.specs.Parts.{FunctionPart, system_parts, addresses, has_left}
use Rattle.settle_spec.specs.Stands.{is_part_on, part_space, is_in_lists}
use Rattle.settle_spec.specs.Writes.{Settled}
use Rattle.settle_spec.specs.Kept.{as_it_stands}
use Rattle.settle_spec.specs.Keeping.Writes.{settle_keeping}
use Rattle.settle_spec.specs.Growing.{settle_growing}
use Rattle.settle_laws.specs.StartLaws.{LieInPlace, OffLieApart, PartsLieInWindows}

-- ---- the host's ranges are those of the lists

abbrev pub host_range : RootRange → HostRange
host_range r = record { root = r.root; first = r.range.first; last = r.range.last }

-- the ranges of a space: those of memory are in two lists
abbrev pub list_in : Request → Space → List RootRange
list_in q Io = q.lists.io
list_in q Memory = q.lists.memory ++ q.lists.prefetch

-- The host sends just what they have. No bridge answers for a VGA adapter or listens to its palette, has ISA Enable or takes
-- what no region of its bus claims.
abbrev pub host_by : Request → Given
host_by q = record {
  io = Some (map host_range (list_in q Io));
  memory = Some (map host_range (list_in q Memory));
  legacy = [];
  isa = [];
  palette = [];
  unclaimed = [];
}

-- Two ranges of a space that one root has are the same, or an address lies between them that neither has.
abbrev pub HaveGaps : Request → Type 0
HaveGaps q =
    (space : Space) (bus : ℕ) (x y : RootRange) → Contains (list_in q space) x
    → Contains (list_in q space) y → IsTrue (is_had_by x.root bus) → IsTrue (is_had_by y.root bus)
    → (x.range ≡ y.range) ⊎ ((x.range.last + 1 < y.range.first) ⊎ (y.range.last + 1 < x.range.first))

-- So addresses lie whole in a range that a root has exactly where the host sends each of them to that root.
abbrev pub InListsWhereSent : Type 0
InListsWhereSent =
    (q : Request) (space : Space) (bus : ℕ) (r : Range) → HaveGaps q → r.first ≤ r.last
    → IsTrue (is_in_lists q bus r space)
    ↔ ((a : ℕ) → InRange r a → IsTrue (starts (host_by q) space bus a))

-- ---- sound systems

-- I/O is off in each function with an I/O BAR that is left.
abbrev pub LeftIsOff : Request → System → Type 0
LeftIsOff q s = (f : Function) → Contains s f → IsTrue (has_left q s f) → IsFalse (is_space_on f Io)

-- What is in its place is sound with this host exactly where it is sound by itself.
abbrev pub SoundForHostIsSound : Type 0
SoundForHostIsSound =
    (q : Request) (s : System) → IsSystem s → LieInPlace q s → LeftIsOff q s
    → given.IsSound (host_by q) q.roots s ↔ plain.IsSound q.roots s

-- What the host's ranges don't tell is in its place: windows on roots and what is off there lie whole in ranges of the
-- lists, and what is behind bridges in the windows of its class.
pub record RestLiesInPlace (q : Request) (s : System) : Type 0 where
  pub lists : (r : FunctionPart) → Contains (system_parts q s) r → IsTrue (is_root q.roots r.function.slot.bus)
      → IsFalse (is_part_on r && not (is_window r.part))
      → IsTrue (is_in_lists q r.function.slot.bus (addresses r) (part_space r))
  pub windows : PartsLieInWindows q s

-- Then all is in its place, where the system is sound with this host,
abbrev pub SoundForHostLiesInPlace : Type 0
SoundForHostLiesInPlace =
    (q : Request) (s : System) → IsSystem s → given.IsSound (host_by q) q.roots s → HaveGaps q
    → RestLiesInPlace q s → LieInPlace q s

-- and settling it writes nothing, whatever is fixed, unless all is placed anew.
abbrev pub SoundForHostIsSettled : Type 0
SoundForHostIsSettled =
    (q : Request) → q.told.ranges ≡ [] → (s : System) → IsSystem s → given.IsSound (host_by q) q.roots s → HaveGaps q
    → RestLiesInPlace q s → OffLieApart q s → LeftIsOff q s → IsFalse q.anew
    → IsFalse (are_bad_lists q.roots q.lists)
    → (settle_keeping q s (as_it_stands q s) ≡ Settled []) × (settle_growing q s ≡ Settled [])
