-- Laws of a start that needs nothing: what is told stands, all parts do, and nothing is cut off or left on.
use Rattle.std.specs.Prelude.{◌≡◌, ◌≢◌, ◌⊎◌, IsTrue, IsFalse, [], Some}
use Rattle.std.specs.List.{Contains}
use Rattle.pci_spec.specs.System.{System, Function, IsSystem, Space, Io, is_space_on}
use Rattle.pci_spec.specs.Bus.{is_root, IsNested}
use Rattle.plan_spec.specs.Plan.{is_open}
use Rattle.judge_spec.specs.Given.{nothing_given}
use Rattle.judge_spec.specs.ToldRegion.{ToldRegion, told_regions}
use Rattle.judge_spec.specs.ToldSound.{IsSound}
use Rattle.settle_spec.specs.Kept.{as_it_stands, growing}
use Rattle.settle_spec.specs.Lines.{line_bus, line_range, is_held_line}
use Rattle.settle_spec.specs.Lists.{Request, are_bad_lists}
use Rattle.settle_spec.specs.Parts.{FunctionPart, system_parts, addresses, has_left, lies_within, bridge_over}
use Rattle.settle_spec.specs.Stands.{window_part, is_line_on, stands, range_class, is_range_kept_off, range_stands}
use Rattle.settle_spec.specs.Writes.{Settled, is_cut_off_in}
use Rattle.settle_spec.specs.Keeping.Registers.{settled}
use Rattle.settle_spec.specs.Keeping.Writes.{settle_writes, settle_keeping}
use Rattle.settle_spec.specs.Growing.{settle_growing}
use Rattle.settle_spec.specs.Sparing.{settle_sparing}
use Rattle.settle_laws.specs.StandingTold.Kept.{LinesAreForward}
use Rattle.settle_laws.specs.StandingTold.Untold.{PartsAreOffLines, AllStandUntold}
use Rattle.settle_laws.specs.Told.Ranges.{share_lines}

-- Each part stands, and each told range that is on. I/O is off in functions with an I/O BAR that is left, and each bridge
-- above what is on and has something to answer is on. Nobody is asleep.
pub record NeedsNothing (q : Request) (s : System) : Type 0 where
  pub system : IsSystem s
  pub nested : IsNested q.roots s
  pub awake : q.told.asleep ≡ []
  pub parts : (r : FunctionPart) → Contains (system_parts q s) r → IsTrue (stands q s r)
  pub ranges : (x : ToldRegion) → Contains (told_regions q.told) x → IsFalse (is_held_line x) → IsTrue (is_line_on q s x)
      → IsTrue (range_stands q s x)
  pub unleft : (f : Function) → Contains s f → IsTrue (has_left q s f) → IsFalse (is_space_on f Io)
  pub uncut : (f : Function) (space : Space) → Contains s f → IsFalse (is_cut_off_in q s f space)

-- ---- from a start that is sound as told

-- No two lines clash, on or off: no two told ranges of one space on one bus share an address, and no `held` line keeps one off.
pub record LinesAreApart (q : Request) : Type 0 where
  pub ranges : (x y : ToldRegion) → Contains (told_regions q.told) x → Contains (told_regions q.told) y
      → IsFalse (is_held_line x) → IsFalse (is_held_line y) → x.register ≢ y.register → IsFalse (share_lines q x y)
  pub held : (x : ToldRegion) → Contains (told_regions q.told) x → IsFalse (is_held_line x) → IsFalse (is_range_kept_off q x)

-- the window of its class over the bus of a told range is open, and holds it whole
pub record IsInOpenWindow (q : Request) (s : System) (x : ToldRegion) : Type 0 where
  pub b : Function
  pub over : bridge_over s (line_bus x) ≡ Some b
  pub opened : IsTrue (is_open b (range_class q s x))
  pub holds : IsTrue (lies_within (line_range x) (addresses (window_part (range_class q s x) b)))

-- A start is sound as told, and each of its parts stands where nothing is told. No line keeps a part off, no two lines clash,
-- and each told range is on a root or in one window of its class. I/O is off in functions with an I/O BAR that is left.
pub record IsQuiet (q : Request) (s : System) : Type 0 where
  pub sound : IsSound q.told nothing_given q.roots s
  pub system : IsSystem s
  pub forward : LinesAreForward q
  pub awake : q.told.asleep ≡ []
  pub parts : AllStandUntold q s
  pub off : PartsAreOffLines q s
  pub apart : LinesAreApart q
  pub home : (x : ToldRegion) → Contains (told_regions q.told) x → IsFalse (is_held_line x)
      → IsTrue (is_root q.roots (line_bus x)) ⊎ IsInOpenWindow q s x
  pub unleft : (f : Function) → Contains s f → IsTrue (has_left q s f) → IsFalse (is_space_on f Io)

-- Then it needs nothing, and each told range stands, on or off.
abbrev pub QuietNeedsNothing : Type 0
QuietNeedsNothing =
    (q : Request) (s : System) → IsQuiet q s
    → NeedsNothing q s
    × ((x : ToldRegion) → Contains (told_regions q.told) x → IsFalse (is_held_line x) → IsTrue (range_stands q s x))

-- ---- so nothing is written

-- What needs nothing is settled already, as it stands and where windows grow,
abbrev pub StartIsSettled : Type 0
StartIsSettled =
    (q : Request) (s : System) → NeedsNothing q s
    → (settled q s (as_it_stands q s) ≡ s) × (settle_writes q s (as_it_stands q s) ≡ [])
    × (settled q s (growing q s) ≡ s) × (settle_writes q s (growing q s) ≡ [])

-- and nothing is refused or written.
abbrev pub NothingIsSettled : Type 0
NothingIsSettled =
    (q : Request) (s : System) → NeedsNothing q s → IsFalse (are_bad_lists q.roots q.lists)
    → (settle_keeping q s (as_it_stands q s) ≡ Settled []) × (settle_growing q s ≡ Settled [])
    × (q.slots ≡ [] → settle_sparing q s ≡ Settled [])
