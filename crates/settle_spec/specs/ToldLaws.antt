-- Laws of settling with what lines tell: what stands is off lines, windows grow over none, and which lines are named.
use Rattle.std.specs.Prelude.{◌≡◌, ◌⊎◌, ℕ, ◌≤◌, IsTrue, IsFalse, Some}
use Rattle.std.specs.List.{Contains}
use Rattle.pci_spec.specs.Slot.{Slot}
use Rattle.pci_spec.specs.Window.{WindowKind}
use Rattle.pci_spec.specs.System.{System, Function, window_space}
use Rattle.pci_spec.specs.Bus.{is_root}
use Rattle.judge_spec.specs.ToldClaims.{Told}
use Rattle.judge_spec.specs.ToldRegion.{ToldRegion, told_regions}
use Rattle.settle_spec.specs.FirstPlace.{ranges_are_apart}
use Rattle.settle_spec.specs.Lists.{Request}
use Rattle.settle_spec.specs.Parts.{FunctionPart, addresses, lies_within, bridge_over}
use Rattle.settle_spec.specs.Stands.{window_part, is_line_on, range_class, precedes_off, are_bridges_on, stands, range_stands}
use Rattle.settle_spec.specs.Lines.{line_bus, line_range, is_held_line, is_always_line, can_keep_off, keeps_off, keeps_off_part}
use Rattle.settle_spec.specs.Reach.{reach}
use Rattle.settle_spec.specs.Kept.{as_it_stands}
use Rattle.settle_spec.specs.Writes.{NotKept}
use Rattle.settle_spec.specs.Keeping.Writes.{settle_keeping}
use Rattle.settle_spec.specs.Growing.{settle_growing}
use Rattle.settle_spec.specs.Sparing.{is_settled, settle_sparing}

-- ---- what stands

-- A line keeps a part off that stands only where the line is off, and the part comes before what is off.
abbrev pub StandsOffLines : Type 0
StandsOffLines =
    (q : Request) (s : System) (r : FunctionPart) (x : ToldRegion)
    → IsTrue (stands q s r) → Contains (told_regions q.told) x → IsTrue (keeps_off_part q x r)
    → IsFalse (is_line_on q s x) × IsTrue (precedes_off q s r)

-- A bridge leads to a told range by the window of its class, which stands and holds it whole.
pub record IsInStandingWindow (q : Request) (s : System) (x : ToldRegion) : Type 0 where
  pub b : Function
  pub over : bridge_over s (line_bus x) ≡ Some b
  pub holds : IsTrue (lies_within (line_range x) (addresses (window_part (range_class q s x) b)))
  pub stands : IsTrue (stands q s (window_part (range_class q s x) b))
  pub on : IsTrue (is_always_line x) → IsTrue (are_bridges_on s x.told.space (line_bus x))

-- A told range that stands is on a root, or in such a window. No `held` line keeps it off, nor is it `held`.
pub record IsStandingRange (q : Request) (s : System) (x : ToldRegion) : Type 0 where
  pub not_held : IsFalse (is_held_line x)
  pub in_place : IsTrue (is_root q.roots (line_bus x)) ⊎ IsInStandingWindow q s x
  pub off_held : (y : ToldRegion) → Contains (told_regions q.told) y → IsTrue (is_held_line y)
      → IsFalse (keeps_off q y x.told.slot x.told.space (line_range x))

abbrev pub RangesStandInPlace : Type 0
RangesStandInPlace =
    (q : Request) (s : System) (x : ToldRegion) → IsTrue (range_stands q s x)
    → IsStandingRange q s x

-- ---- windows that grow

-- The reach of a window has no address of a line that can keep it off, where the window has none.
abbrev pub ReachIsOffLines : Type 0
ReachIsOffLines =
    (q : Request) (s : System) (c : WindowKind) (b : Function) (x : ToldRegion)
    → Contains (told_regions q.told) x → IsTrue (can_keep_off q x b.slot (window_space c))
    → x.told.first ≤ x.told.last
    → IsTrue (ranges_are_apart (addresses (window_part c b)) (line_range x))
    → IsTrue (ranges_are_apart (reach q s c b) (line_range x))

-- ---- endings

-- Whatever is settled beside what stays as it stands is settled where windows grow.
abbrev pub GrowthRefusesNothing : Type 0
GrowthRefusesNothing =
    (q : Request) (s : System)
    → IsTrue (is_settled (settle_keeping q s (as_it_stands q s)))
    → IsTrue (is_settled (settle_growing q s))

-- a slot and a register are those of a line that isn't `held`
pub record AreOfToldRange (told : Told) (slot : Slot) (register : ℕ) : Type 0 where
  pub line : ToldRegion
  pub is_told : Contains (told_regions told) line
  pub not_held : IsFalse (is_held_line line)
  pub of_slot : line.told.slot ≡ slot
  pub of_register : line.register ≡ register

-- No `held` line is named.
abbrev pub HeldIsNeverNamed : Type 0
HeldIsNeverNamed =
    (q : Request) (s : System) (slot : Slot) (register : ℕ)
    → settle_sparing q s ≡ NotKept slot register → AreOfToldRange q.told slot register
