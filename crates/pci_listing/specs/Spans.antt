-- The text of a range, by the fields of its value.
use Rattle.std.specs.Prelude.{ℕ, List}
use Rattle.pci_spec.specs.Listing.{range_text}
use Rattle.pci_base.specs.Ranges.{decoded_range_of}
use Rattle.pci_base.specs.Space.{space_of}
use Rattle.pci_listing.specs.declared.listing.span.Span.{Span}

abbrev pub span_text : Span → List ℕ
span_text s = range_text (space_of s.space) (decoded_range_of s.range)
