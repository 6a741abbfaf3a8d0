-- Of which registers the least size is assumed, as the definitions have it.
use Rattle.pci_spec.specs.NoProbe.{Assuming as SpecAssuming}
use Rattle.pci_spec.specs.NoProbe as spec
use Rattle.pci_machine.specs.declared.assuming.Assuming.{Assuming}
use Rattle.pci_machine.specs.declared.assuming.Assuming.TheVariants.{Nothing, Disabled, Any}

abbrev pub assuming_of : Assuming → SpecAssuming
assuming_of Nothing = spec.Nothing
assuming_of Disabled = spec.Disabled
assuming_of Any = spec.Any
