-- The lines of BARs and ROMs, by the fields of their values.
use Rattle.std.specs.Prelude.{ℕ, List, [], ◌∷◌, codes}
use Rattle.pci_spec.specs.Text.{hex_byte}
use Rattle.pci_spec.specs.Listing.{inner_line, kind_text, on_text}
use Rattle.pci_image.specs.Bars.{decoded_kind_of}
use Rattle.pci_listing.specs.Spans.{span_text}
use Rattle.pci_listing.specs.declared.listing.region.BarLine.{BarLine}
use Rattle.pci_listing.specs.declared.listing.region.RomLine.{RomLine}

abbrev pub bar_line_text : BarLine → List ℕ
bar_line_text l =
    inner_line (codes "bar" ∷ hex_byte l.reg
    ∷ kind_text (decoded_kind_of l.mapping.kind) l.mapping.prefetch ∷ span_text l.span ∷ [])

abbrev pub rom_line_text : RomLine → List ℕ
rom_line_text l = inner_line (codes "rom" ∷ hex_byte l.reg ∷ on_text l.on ∷ span_text l.span ∷ [])
