-- Why a function has no derived probe, as the definitions have it.
use Rattle.std.specs.Prelude.{◌≡◌, ℕ, IsFalse, List, Option, Some, ◌≤◌}
use Rattle.pci_spec.specs.Fault.{has_no_vendor}
use Rattle.pci_spec.specs.NoProbe.{NoProbe, no_probe}
use Rattle.pci_spec.specs.NoProbe as spec
use Rattle.pci_spec.specs.Resource.{ResourceLine}
use Rattle.pci_image.specs.Faults.{IsImageFaultIn, image_fault_number}
use Rattle.pci_image.specs.Header.{HasHeader}
use Rattle.pci_image.specs.declared.fault.ImageFault.{ImageFault}
use Rattle.pci_image.specs.declared.fault.ImageFault.TheVariants.{HeaderKind}
use Rattle.pci_machine.specs.Assuming.{assuming_of}
use Rattle.pci_machine.specs.declared.assuming.Assuming.{Assuming}
use Rattle.pci_machine.specs.declared.derive_fault.DeriveFault.{DeriveFault}
use Rattle.pci_machine.specs.declared.derive_fault.DeriveFault.TheVariants.{Header, NoSize, OtherSize}

-- the number of a fault
abbrev pub derive_fault_number : DeriveFault → ℕ
derive_fault_number (Header fault) = image_fault_number fault
derive_fault_number (NoSize register) = 32
derive_fault_number (OtherSize register) = 33

-- the function's header is refused: 20, and 21 where a function answers
pub record IsHeaderFault (image : List ℕ) (fault : ImageFault) : Type 0 where
  pub there : IsImageFaultIn image image fault
  pub of_header : image_fault_number fault ≤ 21
  pub answers : fault ≡ HeaderKind → IsFalse (has_no_vendor image)

-- the function has a header, and its first register without a read back is this
abbrev pub IsFirstRegisterFault : Assuming → List ℕ → List ResourceLine → NoProbe → Type 0
IsFirstRegisterFault assuming image lines fault =
    HasHeader image × (no_probe (assuming_of assuming) image lines ≡ Some fault)

-- the fault is that of a register
abbrev pub IsOfRegister : DeriveFault → Option NoProbe → Type 0
IsOfRegister (Header fault) found = ⊥
IsOfRegister (NoSize register) found = found ≡ Some (spec.NoSize register)
IsOfRegister (OtherSize register) found = found ≡ Some (spec.OtherSize register)

-- why the function has no probe
abbrev pub IsDeriveFault : Assuming → List ℕ → List ResourceLine → DeriveFault → Type 0
IsDeriveFault assuming image lines (Header fault) = IsHeaderFault image fault
IsDeriveFault assuming image lines (NoSize register) =
    IsFirstRegisterFault assuming image lines (spec.NoSize register)
IsDeriveFault assuming image lines (OtherSize register) =
    IsFirstRegisterFault assuming image lines (spec.OtherSize register)
