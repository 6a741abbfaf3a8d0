-- Laws of settling once more with told ranges: what is settled stands where it is, and is settled again by no write.
use Rattle.std.specs.Prelude.{◌≡◌, Bool, ◌&&◌, IsTrue, IsFalse, List, [], ◌++◌, map, Some}
use Rattle.std.specs.Option.{is_some}
use Rattle.std.specs.List.{Contains}
use Rattle.pci_spec.specs.Window.{WindowKind, has_window}
use Rattle.pci_spec.specs.System.{System, Function, Part, has_part, window_space}
use Rattle.pci_spec.specs.Bus.{secondary}
use Rattle.pci_spec.specs.Machine.{Write, system_after}
use Rattle.judge_spec.specs.Told.{IsTold}
use Rattle.judge_spec.specs.ToldRegion.{ToldRegion, told_regions}
use Rattle.plan_spec.specs.Plan.{is_open}
use Rattle.settle_spec.specs.FirstPlace.{Extent, first_place_in}
use Rattle.settle_spec.specs.Growing.{settle_growing}
use Rattle.settle_spec.specs.Growth.{there_on}
use Rattle.settle_spec.specs.Items.{spare_of, stays}
use Rattle.settle_spec.specs.Kept.{Kept, as_it_stands}
use Rattle.settle_spec.specs.Lines.{is_held_line, lines_on}
use Rattle.settle_spec.specs.Lists.{Request}
use Rattle.settle_spec.specs.Parts.{FunctionPart, system_parts, addresses, are_same_space}
use Rattle.settle_spec.specs.Stands.{window_part, part_space, stands}
use Rattle.settle_spec.specs.SpareLaws.{result_sparing, result_of}
use Rattle.settle_spec.specs.Sparing.{denied, settle_sparing}
use Rattle.settle_spec.specs.Writes.{Settled}
use Rattle.settle_spec.specs.Keeping.Registers.{settled, settled_function}
use Rattle.settle_spec.specs.Keeping.Writes.{settle_writes, settle_keeping}
use Rattle.settle_laws.specs.SparingLaws.{slot_and_register}
use Rattle.settle_laws.specs.StandingTold.Kept.{LinesAreForward}
use Rattle.settle_laws.specs.Told.Ranges.{IsSettledSo}
use Rattle.settle_laws.specs.ToldSoundLaws.{IsAdmittedSystem}
use Rattle.settle_laws.specs.Keeping.PlacesLaws.{CanSettle, end_range}

-- ---- what is settled so

-- Each part of what is settled stands where it is, unless all is placed anew.
abbrev pub ToldPartsStand : Type 0
ToldPartsStand =
    (q : Request) (s : System) (k : Kept) → IsSettledSo q s k → IsFalse q.anew → (r : FunctionPart)
    → Contains (system_parts q (settled q s k)) r → IsTrue (stands q (settled q s k) r)

-- It is settled by these writes. No line is backward, and nobody is asleep. Not all is placed anew.
pub record IsSettledAwake (q : Request) (s : System) (k : Kept) (writes : List Write) : Type 0 where
  pub can : CanSettle q s k
  pub forward : LinesAreForward q
  pub awake : q.told.asleep ≡ []
  pub kept : IsFalse q.anew
  pub settles : settle_keeping q s k ≡ Settled writes

-- Each of its parts stays, and ends where it ended. It can be settled again beside what stays as it stands then, and that
-- changes nothing.
pub record IsSettledAlready (q : Request) (s : System) (k : Kept) : Type 0 where
  pub can : CanSettle q (settled q s k) (as_it_stands q (settled q s k))
  pub stays : (r : FunctionPart) → Contains (system_parts q (settled q s k)) r → IsTrue (stays q (settled q s k) r)
  pub ends : (f : Function) (p : Part) → Contains s f → IsTrue (has_part f p)
      → end_range q (settled q s k) (as_it_stands q (settled q s k)) record { function = settled_function q s k f; part = p }
      ≡ end_range q s k record { function = f; part = p }
  pub same : settled q (settled q s k) (as_it_stands q (settled q s k)) ≡ settled q s k
  pub unwritten : settle_writes q (settled q s k) (as_it_stands q (settled q s k)) ≡ []

abbrev pub ToldIsSettledAlready : Type 0
ToldIsSettledAlready =
    (q : Request) (s : System) (k : Kept) (writes : List Write) → IsSettledAwake q s k writes → IsSettledAlready q s k

-- So settled again nothing is written: beside what stays as it stands, and where windows grow.
abbrev pub ToldAgainWritesNothing : Type 0
ToldAgainWritesNothing =
    (q : Request) (s : System) (k : Kept) (writes : List Write) → IsSettledAwake q s k writes
    → (settle_keeping q (system_after s writes) (as_it_stands q (system_after s writes)) ≡ Settled [])
    × (settle_growing q (system_after s writes) ≡ Settled [])

-- ---- room behind slots

-- a window has a first place for an extent, off all of its space that is there on the bus behind, and off lines there
abbrev pub has_room_off : Request → System → WindowKind → Function → Extent → Bool
has_room_off q t c b e =
    is_open b c
    && is_some (first_place_in (addresses (window_part c b))
    (lines_on q (window_space c) (secondary b)
    ++ there_on q t (λ r. Some (addresses r)) (λ r. are_same_space (window_space c) (part_space r)) (secondary b)) e)

-- ---- the whole

-- A system is admitted, told ranges are as a text tells them, and nobody is asleep.
pub record CanAskAwake (q : Request) (s : System) : Type 0 where
  pub admitted : IsAdmittedSystem q s
  pub told : IsTold q.told.ranges
  pub awake : q.told.asleep ≡ []

-- Settled again nothing is written, whatever is told, unless all is placed anew.
abbrev pub ToldGrowingAgainWritesNothing : Type 0
ToldGrowingAgainWritesNothing =
    (q : Request) (s : System) (writes : List Write) → CanAskAwake q s → IsFalse q.anew
    → settle_growing q s ≡ Settled writes → settle_growing q (system_after s writes) ≡ Settled []

-- With room behind slots the same spares are denied, too, in the same order.
abbrev pub ToldSparingSettlesOnce : Type 0
ToldSparingSettlesOnce =
    (q : Request) (s : System) (writes : List Write) → CanAskAwake q s → IsFalse q.anew → settle_sparing q s ≡ Settled writes
    → (settle_sparing q (system_after s writes) ≡ Settled [])
    × (map slot_and_register (denied q (system_after s writes)) ≡ map slot_and_register (denied q s))

-- A window whose spare isn't denied has room for it in the result, off lines.
abbrev pub ToldSparesHaveRoom : Type 0
ToldSparesHaveRoom =
    (q : Request) (s : System) (writes : List Write) (c : WindowKind) (b : Function) (e : Extent) → CanAskAwake q s → IsFalse q.anew
    → settle_sparing q s ≡ Settled writes → Contains s b → spare_of q c b ≡ Some e → IsTrue (has_window c b.probe)
    → (Contains (denied q s) (window_part c b) → ⊥) → IsTrue (has_room_off q (result_sparing q s) c (result_of q s b) e)

-- ---- placed anew

-- All lines are `held`: no told range is told of.
abbrev pub AllLinesAreHeld : Request → Type 0
AllLinesAreHeld q = (x : ToldRegion) → Contains (told_regions q.told) x → IsTrue (is_held_line x)

-- Then nothing is written once more where all is placed anew, either. Beside a told range it can be otherwise: a window over
-- one can grow down, and what is placed before it can change places once.
abbrev pub HeldGrowingAgainWritesNothing : Type 0
HeldGrowingAgainWritesNothing =
    (q : Request) (s : System) (writes : List Write) → CanAskAwake q s → AllLinesAreHeld q
    → settle_growing q s ≡ Settled writes → settle_growing q (system_after s writes) ≡ Settled []
