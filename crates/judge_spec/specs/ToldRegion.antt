-- Told ranges as lines tell them, each by the register of its line.
use Rattle.std.specs.Prelude.{ℕ, ◌+◌, ◌≤◌, Bool, ◌&&◌, not, IsTrue, List, [], ◌∷◌, ◌++◌, codes}
use Rattle.std.specs.List.{filter}
use Rattle.pci_spec.specs.Slot.{Slot, same_slot}
use Rattle.pci_spec.specs.Text.{slot_text}
use Rattle.pci_spec.specs.System.{System}
use Rattle.pci_spec.specs.Fault.{RegionName, named_region}
use Rattle.pci_spec.specs.Decoded.{Range}
use Rattle.pci_spec.specs.Why.{space_words, extent_words}
use Rattle.judge_spec.specs.Told.{Mark, Command, Always, Held, ToldRange}
use Rattle.judge_spec.specs.ToldClaims.{Told, told_register, IsRangeAt, is_range_on}
use Rattle.judge_spec.specs.ToldLine.{register_text}

-- a told range, with its register
pub record ToldRegion : Type 0 where
  pub register : ℕ
  pub told : ToldRange

abbrev pub told_name : ToldRegion → RegionName
told_name x = named_region x.told.slot x.register

abbrev pub told_extent : ToldRange → Range
told_extent r = record { first = r.first; last = r.last }

-- it is one of what is told, is on, and claims an address
pub record IsToldIn (told : Told) (s : System) (x : ToldRegion) : Type 0 where
  pub named : IsRangeAt told (told_name x) x.told
  pub on : IsTrue (is_range_on told s x.told)
  pub some : x.told.first ≤ x.told.last

-- ---- all of them, in the order of their lines

-- those of ranges of which the first has a register
abbrev pub regions_from : ℕ → List ToldRange → List ToldRegion
regions_from first [] = []
regions_from first (r ∷ ranges) =
    record { register = first; told = r } ∷ regions_from (first + 1) ranges

abbrev pub told_regions : Told → List ToldRegion
told_regions told = regions_from (told_register 0) told.ranges

-- whether a range is of the function at a slot, and isn't on; a held range always is
abbrev pub is_off_at : Told → System → Slot → ToldRegion → Bool
is_off_at told s slot x = same_slot x.told.slot slot && not (is_range_on told s x.told)

abbrev pub off_ranges : Told → System → Slot → List ToldRegion
off_ranges told s slot = filter (is_off_at told s slot) (told_regions told)

-- ---- words

abbrev pub mark_word : Mark → List ℕ
mark_word Command = codes "told"
mark_word Always = codes "told"
mark_word Held = codes "held"

-- the name stands behind all else, where there is one
abbrev pub name_words : List ℕ → List (List ℕ)
name_words [] = []
name_words (c ∷ name) = (c ∷ name) ∷ []

-- what a line tells of a range
abbrev pub told_words : ToldRegion → List (List ℕ)
told_words x =
    slot_text x.told.slot ∷ register_text x.register ∷ mark_word x.told.mark
    ∷ space_words x.told.space x.told.prefetchable
    ∷ extent_words x.told.space (told_extent x.told) ++ name_words x.told.name
