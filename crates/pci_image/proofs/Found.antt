-- Faults that were found are there.
use Rattle.std.proofs.Common.{◌≡◌, ℕ, ◌<◌, ◌≤◌, List, arith, lit≤, None}
use Rattle.pci_spec.specs.Header.{bar_count, bar_register, layout}
use Rattle.pci_spec.specs.Bar.{bar_fault}
use Rattle.pci_base.specs.declared.image.Image.{Image}
use Rattle.pci_image.specs.declared.header.Header.{Header}
use Rattle.pci_image.specs.declared.header.Header.TheVariants.{Type0, Type1}
use Rattle.pci_image.specs.declared.fault.ImageFault.{ImageFault}
use Rattle.pci_image.specs.declared.fault.ImageFault.TheVariants.{NoVendor, HeaderKind, BarType, BarMask, BarPair}
use Rattle.pci_image.specs.Header.{IsHeaderOf, header_layout}
use Rattle.pci_image.specs.Bars.{IsBarFault, IsLowestBarFault}
use Rattle.pci_image.specs.Faults.{IsImageFaultIn, image_fault_number}

-- an image has its header's layout
pub layout-of_header : (image : Image) (header : Header) → IsHeaderOf image header → layout image.0 ≡ header_layout header
layout-of_header image (Type0 header) is = is.0
layout-of_header image (Type1 header) is = is.0

-- a BAR's fault that its register has is there
pub bar_fault-found : (image probe : List ℕ) (n : ℕ) (fault : ImageFault) → n < bar_count (layout image)
    → IsBarFault (bar_register n) (bar_fault image probe n) fault → IsImageFaultIn image probe fault × (image_fault_number fault ≤ 24)
bar_fault-found image probe n (BarType register) below is = ((n, below, is.0, is.1), lit≤ tt)
bar_fault-found image probe n (BarMask register) below is = ((n, below, is.0, is.1), lit≤ tt)
bar_fault-found image probe n (BarPair register) below is = ((n, below, is.0, is.1), lit≤ tt)
bar_fault-found image probe n _ below is = absurd is

-- it is the lowest, where no register before it has one
pub bar_fault-lowest : (image probe : List ℕ) (n : ℕ) (fault : ImageFault) → ((m : ℕ) → m < n → bar_fault image probe m ≡ None)
    → IsBarFault (bar_register n) (bar_fault image probe n) fault → IsLowestBarFault image probe fault
bar_fault-lowest image probe n (BarType register) lawful is = λ m less. (let e = is.0 in lawful m (omega (arith, less, e)))
bar_fault-lowest image probe n (BarMask register) lawful is = λ m less. (let e = is.0 in lawful m (omega (arith, less, e)))
bar_fault-lowest image probe n (BarPair register) lawful is = λ m less. (let e = is.0 in lawful m (omega (arith, less, e)))
bar_fault-lowest image probe n _ lawful is = absurd is

-- a fault of the header is of no register
pub header_fault-lowest : (image probe : List ℕ) (fault : ImageFault) → image_fault_number fault ≤ 21 → IsLowestBarFault image probe fault
header_fault-lowest image probe NoVendor low = tt
header_fault-lowest image probe HeaderKind low = tt
header_fault-lowest image probe _ low = absurd (let no : ⊥ = omega (arith, low) in no)
