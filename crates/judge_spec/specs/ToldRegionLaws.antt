-- Laws of told ranges as lines tell them.
use Rattle.std.specs.Prelude.{◌≡◌, ◌↔◌, IsFalse}
use Rattle.std.specs.List.{Contains}
use Rattle.pci_spec.specs.Slot.{Slot}
use Rattle.pci_spec.specs.System.{System}
use Rattle.judge_spec.specs.ToldClaims.{Told, IsRangeAt, is_range_on, is_marked_held}
use Rattle.judge_spec.specs.ToldRegion.{ToldRegion, told_name, told_regions, off_ranges}

-- Each range stands among them with the register that names it.
abbrev pub RegionsAreNumbered : Type 0
RegionsAreNumbered =
    (told : Told) (x : ToldRegion)
    → Contains (told_regions told) x ↔ IsRangeAt told (told_name x) x.told

-- a range of the function at a slot that isn't on
pub record IsOffAt (told : Told) (s : System) (slot : Slot) (x : ToldRegion) : Type 0 where
  pub named : IsRangeAt told (told_name x) x.told
  pub of_slot : x.told.slot ≡ slot
  pub off : IsFalse (is_range_on told s x.told)

-- Just those have a line behind the BARs of the function that are off,
abbrev pub OffRangesAreExact : Type 0
OffRangesAreExact =
    (told : Told) (s : System) (slot : Slot) (x : ToldRegion)
    → Contains (off_ranges told s slot) x ↔ IsOffAt told s slot x

-- and none of them is held.
abbrev pub HeldAreNotOff : Type 0
HeldAreNotOff =
    (told : Told) (s : System) (slot : Slot) (x : ToldRegion) → Contains (off_ranges told s slot) x
    → IsFalse (is_marked_held x.told.mark)
