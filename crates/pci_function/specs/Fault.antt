-- The faults as the definitions have them.
use Rattle.pci_spec.specs.Slot.{Slot}
use Rattle.pci_spec.specs.Fault as faults
use Rattle.pci_image.specs.declared.fault.ImageFault.{ImageFault}
use Rattle.pci_image.specs.declared.fault.ImageFault.TheVariants as images
use Rattle.pci_function.specs.declared.fault.Fault.{Fault}
use Rattle.pci_function.specs.declared.fault.Fault.TheVariants.{NoVendor, HeaderKind, BarType, BarMask, BarPair, RomMask, WindowMask, CapRange, CapLoop, CapCut, SlotsDiffer, StrayProbe, LoneFunction, PaletteSnoop, VgaEnable, IsaEnable, Subtractive, InReset, PowerState, BusRange, Orphan, Unreached, Clash, Split}
use Rattle.pci_base.specs.Space.{space_of}

abbrev pub fault_of : Fault → faults.Fault
fault_of (NoVendor slot) = faults.NoVendor slot
fault_of (HeaderKind slot) = faults.HeaderKind slot
fault_of (BarType slot reg) = faults.BarType slot reg
fault_of (BarMask slot reg) = faults.BarMask slot reg
fault_of (BarPair slot reg) = faults.BarPair slot reg
fault_of (RomMask slot reg) = faults.RomMask slot reg
fault_of (WindowMask slot reg) = faults.WindowMask slot reg
fault_of (CapRange slot place) = faults.CapRange slot place
fault_of (CapLoop slot place) = faults.CapLoop slot place
fault_of (CapCut slot place) = faults.CapCut slot place
fault_of (SlotsDiffer slot) = faults.SlotsDiffer slot
fault_of (StrayProbe slot offset) = faults.StrayProbe slot offset
fault_of (LoneFunction slot) = faults.LoneFunction slot
fault_of (PaletteSnoop slot) = faults.OfProfile faults.PaletteSnoop slot
fault_of (VgaEnable slot) = faults.OfProfile faults.VgaEnable slot
fault_of (IsaEnable slot) = faults.OfProfile faults.IsaEnable slot
fault_of (Subtractive slot) = faults.OfProfile faults.Subtractive slot
fault_of (InReset slot) = faults.OfProfile faults.InReset slot
fault_of (PowerState slot) = faults.OfProfile faults.PowerState slot
fault_of (BusRange slot) = faults.BusRange slot
fault_of (Orphan slot) = faults.Orphan slot
fault_of (Unreached slot reg space address bridge) =
    faults.Unreached slot reg (space_of space) address bridge
fault_of (Clash bus space address first first_reg second second_reg) =
    faults.Clash bus (space_of space) address first first_reg second second_reg
fault_of (Split space address first first_reg second second_reg) =
    faults.Split (space_of space) address first first_reg second second_reg

-- the fault of an image, of the function at a slot
abbrev pub image_fault_at : Slot → ImageFault → faults.Fault
image_fault_at slot images.NoVendor = faults.NoVendor slot
image_fault_at slot images.HeaderKind = faults.HeaderKind slot
image_fault_at slot (images.BarType register) = faults.BarType slot register
image_fault_at slot (images.BarMask register) = faults.BarMask slot register
image_fault_at slot (images.BarPair register) = faults.BarPair slot register
image_fault_at slot (images.RomMask register) = faults.RomMask slot register
image_fault_at slot (images.WindowMask register) = faults.WindowMask slot register
image_fault_at slot (images.CapRange place) = faults.CapRange slot place
image_fault_at slot (images.CapLoop place) = faults.CapLoop slot place
image_fault_at slot (images.CapCut place) = faults.CapCut slot place
