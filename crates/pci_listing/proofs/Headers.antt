-- The first line of a function, by its numbers.
use Rattle.std.proofs.Common.{◌≡◌, ℕ, List, refl}
use Rattle.pci_spec.specs.Slot.{Slot}
use Rattle.pci_spec.specs.Header.{layout, vendor_id, device_id, class_code, command, status}
use Rattle.pci_spec.specs.Listing.{header_line}
use Rattle.pci_listing.specs.HeaderLines.{header_text}

pub header_line_by_numbers : (slot : Slot) (image : List ℕ) {kind vendor device class command' status' : ℕ}
    → kind ≡ layout image → vendor ≡ vendor_id image → device ≡ device_id image → class ≡ class_code image
    → command' ≡ command image → status' ≡ status image
    → header_text slot kind vendor device class command' status' ≡ header_line slot image
header_line_by_numbers slot image kind vendor device class command' status' = rw (kind, vendor, device, class, command', status') refl
