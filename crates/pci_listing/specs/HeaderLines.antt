-- The first line of a function, by the fields of its value.
use Rattle.std.specs.Prelude.{ℕ, List, [], ◌∷◌, ◌++◌, codes}
use Rattle.pci_spec.specs.Slot.{Slot}
use Rattle.pci_spec.specs.Text.{slot_text}
use Rattle.pci_spec.specs.Line.{hex_number}
use Rattle.pci_spec.specs.Listing.{words, decimal_text}
use Rattle.pci_image.specs.Layouts.{layout_number}
use Rattle.pci_listing.specs.declared.listing.header.HeaderLine.{HeaderLine}
use Rattle.pci_listing.specs.declared.listing.header.Identity.{Identity}

-- vendor, device and class
abbrev pub identity_words : ℕ → ℕ → ℕ → List ℕ
identity_words vendor device class =
    codes "vendor "
    ++ (hex_number 4 vendor
    ++ (codes " device " ++ (hex_number 4 device ++ (codes " class " ++ hex_number 6 class))))

abbrev pub identity_text : Identity → List ℕ
identity_text i = identity_words i.vendor i.device i.class

-- the line of these numbers
abbrev pub header_text : Slot → ℕ → ℕ → ℕ → ℕ → ℕ → ℕ → List ℕ
header_text slot kind vendor device class command status =
    slot_text slot
    ++ (codes " type " ++ (decimal_text kind ++ (32 ∷ (identity_words vendor device class
    ++ words
    (codes "command" ∷ hex_number 4 command ∷ codes "status" ∷ hex_number 4 status ∷ [])))))

abbrev pub header_line_text : HeaderLine → List ℕ
header_line_text l =
    header_text l.slot (layout_number l.layout) l.identity.vendor l.identity.device l.identity.class l.command l.status
