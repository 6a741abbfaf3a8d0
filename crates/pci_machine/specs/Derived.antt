-- What is derived for a register, as the definitions have it.
use Rattle.std.specs.Prelude.{◌<◌, ◌^◌}
use Rattle.pci_spec.specs.Derived.{Derived as SpecDerived, read_back_of}
use Rattle.pci_spec.specs.Derived as spec
use Rattle.pci_machine.specs.declared.derived.Derived.{Derived}
use Rattle.pci_machine.specs.declared.derived.Derived.TheVariants.{Known, Assumed, Untold, OtherSize}

abbrev pub derived_of : Derived → SpecDerived
derived_of (Known read_back) = spec.Known read_back
derived_of (Assumed read_back) = spec.Assumed read_back
derived_of (Untold read_back) = spec.Untold read_back
derived_of OtherSize = spec.OtherSize

-- its read back has 32 bits
abbrev pub IsNarrow : Derived → Type 0
IsNarrow derived = read_back_of (derived_of derived) < 2 ^ 32
