-- What settling may not change, as the code has it.
use Rattle.std.specs.Prelude.{◌≡◌, length, Option, None, Some}
use Rattle.std.specs.Option.{option_map}
use Rattle.pci_spec.specs.System.{System}
use Rattle.settle_spec.specs.Lists.{Request}
use Rattle.settle_spec.specs.Kept.{Kept}
use Rattle.settle_spec.specs.Writes.{fixed_without}
use Rattle.settle_spec.specs.Keeping.Writes.{does_not_stay}
use Rattle.pci_kept.specs.Flags.{AreFlags}
use Rattle.pci_settle.specs.declared.bounds.Bounds.{Bounds}
use Rattle.pci_settle.specs.declared.lack.SettleFault.{SettleFault}
use Rattle.pci_settle.specs.Fixed.{fixed_part}
use Rattle.pci_settle.specs.ToldEndings.{first_told, known_told_value, HasEachFlag, KnowsTold}

-- slot numbers index the flags of fixed functions, and a told range has its line and its flag
pub record HasBounds (b : Bounds) : Type 0 where
  pub fixed : length b.fixed.now ≡ 65536
  pub told : HasEachFlag (known_told_value b.told)

-- they are those of what is asked for
pub record AreBounds (q : Request) (s : System) (b : Bounds) : Type 0 where
  pub fixed : AreFlags q.fixed b.fixed.now
  pub told : KnowsTold q s (known_told_value b.told)

-- one fault or else another
abbrev pub or_other : Option SettleFault → Option SettleFault → Option SettleFault
or_other (Some fault) other = Some fault
or_other None other = other

-- the first told range that stands and doesn't stay, or else the first fixed part that doesn't stay
abbrev pub kept_fault : Request → System → Kept → Option SettleFault
kept_fault q s keep =
    or_other (first_told q (does_not_stay q s keep)) (option_map fixed_part (fixed_without keep.stays q s))
