-- What a fault of an image says, and its number.
use Rattle.std.specs.Prelude.{ℕ, IsTrue, IsFalse, List}
use Rattle.pci_spec.specs.Bar as bars
use Rattle.pci_spec.specs.Capability.{ComesTwiceTo, HasLowPlace, HasCutBody}
use Rattle.pci_spec.specs.Fault.{has_no_vendor, has_other_layout, HasBarFault, HasRomFault, HasWindowFault}
use Rattle.pci_image.specs.declared.fault.ImageFault.{ImageFault}
use Rattle.pci_image.specs.declared.fault.ImageFault.TheVariants.{NoVendor, HeaderKind, BarType, BarMask, BarPair, RomMask, WindowMask, CapRange, CapLoop, CapCut}

-- the number of a fault
abbrev pub image_fault_number : ImageFault → ℕ
image_fault_number NoVendor = 20
image_fault_number HeaderKind = 21
image_fault_number (BarType register) = 22
image_fault_number (BarMask register) = 23
image_fault_number (BarPair register) = 24
image_fault_number (RomMask register) = 25
image_fault_number (WindowMask register) = 26
image_fault_number (CapRange place) = 27
image_fault_number (CapLoop place) = 28
image_fault_number (CapCut place) = 29

-- the fault is there, in an image and its probe
abbrev pub IsImageFaultIn : List ℕ → List ℕ → ImageFault → Type 0
IsImageFaultIn image probe NoVendor = IsTrue (has_no_vendor image)
IsImageFaultIn image probe HeaderKind = IsTrue (has_other_layout image)
IsImageFaultIn image probe (BarType register) = HasBarFault image probe register bars.BarType
IsImageFaultIn image probe (BarMask register) = HasBarFault image probe register bars.BarMask
IsImageFaultIn image probe (BarPair register) = HasBarFault image probe register bars.BarPair
IsImageFaultIn image probe (RomMask register) = HasRomFault image probe register
IsImageFaultIn image probe (WindowMask register) = HasWindowFault image probe register
IsImageFaultIn image probe (CapRange place) = HasLowPlace image place
IsImageFaultIn image probe (CapLoop place) = ComesTwiceTo image place
IsImageFaultIn image probe (CapCut place) = HasCutBody image place

-- no fault of the header that is looked for before this one is there: 20 comes first, then 21, then all others
abbrev pub HasNoHeaderFaultBefore : List ℕ → ImageFault → Type 0
HasNoHeaderFaultBefore image NoVendor = Unit {0}
HasNoHeaderFaultBefore image HeaderKind = IsFalse (has_no_vendor image)
HasNoHeaderFaultBefore image _ =
    IsFalse (has_no_vendor image) × IsFalse (has_other_layout image)
