-- Ranges of the code as those of the definitions.
use Rattle.pci_spec.specs.Decoded.{Range as DecodedRange}
use Rattle.pci_base.specs.declared.range.Range.{Range}

-- the range as the definitions have it
abbrev pub decoded_range_of : Range → DecodedRange
decoded_range_of r = record { first = r.first; last = r.last }

-- and back
abbrev pub range_of_decoded : DecodedRange → Range
range_of_decoded r = record { first = r.first; last = r.last }
