-- Why no probe is derived for a function: the first register that has no read back.
use Rattle.std.specs.Prelude.{ℕ, Bool, true, false, if◌then◌else◌, List, [], ◌∷◌, Option, None, Some}
use Rattle.std.specs.Option.{option_or}
use Rattle.pci_spec.specs.Resource.{ResourceLine}
use Rattle.pci_spec.specs.Derived.{Derived, register_derived, register_offsets}
use Rattle.pci_spec.specs.Derived as derived

-- of which registers the least size is assumed where none is told
pub data Assuming : Type 0 where
  -- of none: the probe is exact
  Nothing : Assuming
  -- of ROMs that are off; windows that show 0 are taken as absent
  Disabled : Assuming
  -- of BARs and of ROMs that are on, too
  Any : Assuming

abbrev pub assumes_disabled : Assuming → Bool
assumes_disabled Nothing = false
assumes_disabled Disabled = true
assumes_disabled Any = true

abbrev pub assumes_enabled : Assuming → Bool
assumes_enabled Nothing = false
assumes_enabled Disabled = false
assumes_enabled Any = true

-- with the register's offset
pub data NoProbe : Type 0 where
  -- no size is told of the register, and none may be assumed
  NoSize : (register : ℕ) → NoProbe
  -- the register shows 0, and what is told isn't of it
  OtherSize : (register : ℕ) → NoProbe

abbrev pub no_probe_number : NoProbe → ℕ
no_probe_number (NoSize register) = 32
no_probe_number (OtherSize register) = 33

-- the fault of a register
abbrev pub register_fault : Assuming → ℕ → Derived → Option NoProbe
register_fault assuming register (derived.Known read_back) = None
register_fault assuming register (derived.Assumed read_back) =
    if assumes_disabled assuming then None else Some (NoSize register)
register_fault assuming register (derived.Untold read_back) =
    if assumes_enabled assuming then None else Some (NoSize register)
register_fault assuming register derived.OtherSize = Some (OtherSize register)

-- the first of the faults at some registers
unfoldable pub first_at : (ℕ → Option NoProbe) → List ℕ → Option NoProbe
first_at fault [] = None
first_at fault (register ∷ registers) = option_or (fault register) (first_at fault registers)

-- the fault of a function: that of its lowest faulty register
unfoldable pub no_probe : Assuming → List ℕ → List ResourceLine → Option NoProbe
no_probe assuming image lines =
    first_at (λ register. register_fault assuming register (register_derived image lines register))
    (register_offsets image)
