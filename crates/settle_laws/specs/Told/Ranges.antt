-- Laws of told ranges that stand: they are reached in the result, and stand there but where one of an earlier line is.
use Rattle.std.specs.Prelude.{◌≡◌, ◌⊎◌, ◌<◌, Bool, ◌&&◌, not, IsTrue, IsFalse, List}
use Rattle.std.specs.List.{Contains}
use Rattle.pci_spec.specs.System.{System}
use Rattle.pci_spec.specs.Machine.{Write}
use Rattle.judge_spec.specs.ToldRegion.{ToldRegion, told_regions}
use Rattle.settle_spec.specs.FirstPlace.{ranges_are_apart}
use Rattle.settle_spec.specs.Lines.{line_bus, line_range, is_held_line, is_line_of}
use Rattle.settle_spec.specs.Lists.{Request}
use Rattle.settle_spec.specs.Parts.{FunctionPart, system_parts}
use Rattle.settle_spec.specs.Stands.{is_line_on, stands, is_range_in_place, is_range_kept_off, range_stands}
use Rattle.settle_spec.specs.Writes.{Settled}
use Rattle.settle_spec.specs.Kept.{Kept}
use Rattle.settle_spec.specs.Keeping.Registers.{settled}
use Rattle.settle_spec.specs.Keeping.Writes.{settle_keeping}
use Rattle.settle_laws.specs.StandingTold.Kept.{LinesAreForward}
use Rattle.settle_laws.specs.StandingTold.Standing.{shares_with_line}
use Rattle.settle_laws.specs.Keeping.PlacesLaws.{CanSettle}

-- What is kept can be settled so, and it is settled.
pub record IsSettledSo (q : Request) (s : System) (k : Kept) : Type 0 where
  pub can : CanSettle q s k
  pub forward : LinesAreForward q
  pub writes : List Write
  pub settles : settle_keeping q s k ≡ Settled writes

-- ---- reached

-- No part shares an address with a told range that stands: the result has none there.
abbrev pub PartsAreOffRanges : Type 0
PartsAreOffRanges =
    (q : Request) (s : System) (k : Kept) (x : ToldRegion) → IsSettledSo q s k
    → Contains (told_regions q.told) x → IsTrue (range_stands q s x) → (r : FunctionPart)
    → Contains (system_parts q (settled q s k)) r → IsFalse (shares_with_line q r x)

-- a told range is on a root or in a window that stands, and off `held` lines
pub record IsReached (q : Request) (t : System) (x : ToldRegion) : Type 0 where
  pub place : IsTrue (is_range_in_place q t (stands q t) x)
  pub off_held : IsFalse (is_range_kept_off q x)

-- A told range that stands is reached in the result.
abbrev pub StandingRangesAreReached : Type 0
StandingRangesAreReached =
    (q : Request) (s : System) (k : Kept) (x : ToldRegion) → IsSettledSo q s k
    → Contains (told_regions q.told) x → IsTrue (range_stands q s x) → IsReached q (settled q s k) x

-- ---- standing

-- whether two lines are of one space and on one bus, all roots being one, and share an address
abbrev pub share_lines : Request → ToldRegion → ToldRegion → Bool
share_lines q y x =
    is_line_of q y.told.space (line_bus y) x && not (ranges_are_apart (line_range y) (line_range x))

-- No told range of an earlier line shares an address with it.
abbrev pub IsFirstLineThere : Request → ToldRegion → Type 0
IsFirstLineThere q x =
    (y : ToldRegion) → Contains (told_regions q.told) y → IsFalse (is_held_line y) → y.register < x.register
    → IsFalse (share_lines q y x)

-- So it stands there if it is on, or the first there. Where both are off, an earlier one can come into a window that grows.
abbrev pub StandingRangesStay : Type 0
StandingRangesStay =
    (q : Request) (s : System) (k : Kept) (x : ToldRegion) → IsSettledSo q s k
    → Contains (told_regions q.told) x → IsTrue (range_stands q s x)
    → IsTrue (is_line_on q (settled q s k) x) ⊎ IsFirstLineThere q x → IsTrue (range_stands q (settled q s k) x)

-- Each told range that is on in the result stands there.
abbrev pub RangesOnStand : Type 0
RangesOnStand =
    (q : Request) (s : System) (k : Kept) (x : ToldRegion) → IsSettledSo q s k
    → Contains (told_regions q.told) x → IsFalse (is_held_line x) → IsTrue (is_line_on q (settled q s k) x)
    → IsTrue (range_stands q (settled q s k) x)
