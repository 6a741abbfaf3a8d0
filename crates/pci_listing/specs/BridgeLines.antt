-- The line of a bridge's bus numbers, by the fields of its value.
use Rattle.std.specs.Prelude.{ℕ, List, [], ◌∷◌, codes}
use Rattle.pci_spec.specs.Text.{hex_byte}
use Rattle.pci_spec.specs.Listing.{inner_line}
use Rattle.pci_listing.specs.declared.listing.bridge.BusLine.{BusLine}

abbrev pub bus_line_text : BusLine → List ℕ
bus_line_text l =
    inner_line
    (codes "bus" ∷ hex_byte l.primary ∷ hex_byte l.secondary ∷ hex_byte l.subordinate ∷ [])
