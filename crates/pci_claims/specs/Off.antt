-- What is off: BARs of a space that their function's Command doesn't enable, and told ranges that aren't on.
use Rattle.std.specs.Prelude.{ℕ, ◌<◌, ◌≤◌, Bool, not, if◌then◌else◌, List, [], ◌∷◌, ◌++◌, map}
use Rattle.std.specs.List.{filter, flat_map}
use Rattle.pci_spec.specs.Slot.{Slot}
use Rattle.pci_spec.specs.System.{System, Function}
use Rattle.pci_spec.specs.Decoded.{DecodedBar, Record}
use Rattle.pci_spec.specs.Listing.{kind_space}
use Rattle.pci_spec.specs.Why.{off_bars}
use Rattle.judge_spec.specs.Told.{IsToldRange}
use Rattle.judge_spec.specs.ToldClaims.{Told}
use Rattle.judge_spec.specs.ToldRegion.{ToldRegion, off_ranges}
use Rattle.pci_base.specs.Space.{is_on}
use Rattle.pci_image.specs.Bars.{decoded_bar_of}
use Rattle.pci_claims.specs.declared.off.Off.{Off}
use Rattle.pci_claims.specs.declared.off.Off.TheVariants as offs

-- what is off: a BAR of the function at a slot, or a told range
pub data OffPart : Type 0 where
  OffBar : Slot → DecodedBar → OffPart
  OffTold : ToldRegion → OffPart

-- of a function, by register
abbrev pub off_parts_of : Told → System → Function → List OffPart
off_parts_of told s f =
    map (OffBar f.slot) (off_bars f) ++ map OffTold (off_ranges told s f.slot)

-- of all functions
abbrev pub all_off_parts : Told → System → List OffPart
all_off_parts told s = flat_map (off_parts_of told s) s

-- the line of one, by the line of a BAR and that of a told range
abbrev pub off_part_line : (Slot → DecodedBar → List ℕ) → (ToldRegion → List ℕ) → OffPart → List ℕ
off_part_line bar_line range_line (OffBar slot b) = bar_line slot b
off_part_line bar_line range_line (OffTold x) = range_line x

-- ---- as the code has it

abbrev pub off_value : Off → OffPart
off_value (offs.Bar slot bar) = OffBar slot (decoded_bar_of bar)
off_value (offs.Told register told) = OffTold record { register = register; told = told.now }

-- it has an address, and a told range is one of a text, by the register of its line
abbrev pub HasOffLine : Off → Type 0
HasOffLine (offs.Bar slot bar) = bar.first ≤ bar.last
HasOffLine (offs.Told register told) = (256 ≤ register) × (register < 8192) × IsToldRange told.now

-- ---- by records

abbrev pub is_bar_off : ℕ → DecodedBar → Bool
is_bar_off command b = not (is_on command (kind_space b.kind))

-- a told range, where it is off
abbrev pub off_range_parts : ToldRegion → Bool → List OffPart
off_range_parts x on = if on then [] else OffTold x ∷ []

-- what is off of a function with a record
abbrev pub off_record_parts : Told → System → Record → List OffPart
off_record_parts told s r =
    map (OffBar r.slot) (filter (is_bar_off r.command) r.bars) ++ map OffTold (off_ranges told s r.slot)
