-- Laws of which told ranges stand: they are told one by one, in one way alone, and what stands is apart from them.
use Rattle.std.specs.Prelude.{◌≡◌, ◌≢◌, Bool, ◌&&◌, not, IsTrue, IsFalse}
use Rattle.std.specs.List.{Contains, list_all}
use Rattle.pci_spec.specs.System.{System}
use Rattle.judge_spec.specs.ToldRegion.{ToldRegion, told_regions}
use Rattle.settle_spec.specs.FirstPlace.{ranges_are_apart}
use Rattle.settle_spec.specs.Lists.{Request}
use Rattle.settle_spec.specs.Parts.{FunctionPart, system_parts, addresses}
use Rattle.settle_spec.specs.Lines.{line_bus, line_range, is_held_line, is_line_of}
use Rattle.settle_spec.specs.Stands.{part_space, is_line_on, precedes_off, stands, is_range_in_place, is_range_kept_off, range_takes_from, range_stands_if, range_stands}

-- A test tells of each told range what it has to by what it tells of those before it.
abbrev pub AreRangesStanding : Request → System → (ToldRegion → Bool) → Type 0
AreRangesStanding q s test =
    (x : ToldRegion) → Contains (told_regions q.told) x → test x ≡ range_stands_if q s test x

-- Asking as many others one after another as there are lines is enough.
abbrev pub RangesStandByThemselves : Type 0
RangesStandByThemselves = (q : Request) (s : System) → AreRangesStanding q s (range_stands q s)

-- No other test tells of each told range what it has to.
abbrev pub RangesStandAlone : Type 0
RangesStandAlone =
    (q : Request) (s : System) (test : ToldRegion → Bool) → AreRangesStanding q s test
    → (x : ToldRegion) → Contains (told_regions q.told) x → test x ≡ range_stands q s x

-- ---- beside parts

-- whether a part is on the bus of a line and of its space, all roots being one bus, and shares an address with it
abbrev pub shares_with_line : Request → FunctionPart → ToldRegion → Bool
shares_with_line q r x =
    is_line_of q (part_space r) r.function.slot.bus x && not (ranges_are_apart (addresses r) (line_range x))

-- whether a told range stands, asked of each part that stands, whether or not it comes before the range
abbrev pub range_stands_beside : Request → System → (ToldRegion → Bool) → ToldRegion → Bool
range_stands_beside q s before x =
    not (is_held_line x) && is_range_in_place q s (stands q s) x
    && not (is_range_kept_off q x)
    && list_all (λ r. not (shares_with_line q r x && stands q s r)) (system_parts q s)
    && list_all (λ y. not (range_takes_from q s y x && before y)) (told_regions q.told)

-- A told range stands by the parts that come before it just as by all parts: no other one that stands shares an address with it.
abbrev pub RangesStandBesideAll : Type 0
RangesStandBesideAll =
    (q : Request) (s : System) (before : ToldRegion → Bool) (x : ToldRegion) → Contains (told_regions q.told) x
    → range_stands_if q s before x ≡ range_stands_beside q s before x

-- ---- apart

-- Two told ranges that stand, of one space and on one bus or both on roots, share no address.
abbrev pub RangesAreApart : Type 0
RangesAreApart =
    (q : Request) (s : System) (x y : ToldRegion) → Contains (told_regions q.told) x
    → Contains (told_regions q.told) y → IsTrue (range_stands q s x) → IsTrue (range_stands q s y)
    → IsTrue (is_line_of q x.told.space (line_bus x) y) → x.register ≢ y.register
    → IsTrue (ranges_are_apart (line_range x) (line_range y))

-- Nor does a part that stands share one with a told range that does.
abbrev pub RangesAreOffParts : Type 0
RangesAreOffParts =
    (q : Request) (s : System) (r : FunctionPart) (x : ToldRegion) → Contains (system_parts q s) r
    → Contains (told_regions q.told) x → IsTrue (stands q s r) → IsTrue (range_stands q s x)
    → IsTrue (is_line_of q (part_space r) r.function.slot.bus x)
    → IsTrue (ranges_are_apart (addresses r) (line_range x))

-- A part shares an address with a line that is off, and comes before what is off: no told range, or one that doesn't stand.
pub record SharesWithOff (q : Request) (s : System) (r : FunctionPart) (x : ToldRegion) : Type 0 where
  pub off : IsFalse (is_line_on q s x)
  pub first : IsTrue (precedes_off q s r)
  pub stands_not : IsFalse (range_stands q s x)

-- So it is where a part that stands shares an address with a told range, of whatever slot.
abbrev pub PartsShareWithOff : Type 0
PartsShareWithOff =
    (q : Request) (s : System) (r : FunctionPart) (x : ToldRegion) → Contains (system_parts q s) r
    → Contains (told_regions q.told) x → IsTrue (stands q s r) → IsFalse (is_held_line x)
    → IsTrue (shares_with_line q r x) → SharesWithOff q s r x
