use Rattle.std.proofs.Common.{◌≡◌, ◌++◌, map, take}
use Rattle.std.specs.List.{flat_map}
use Rattle.std.specs.String.{string_bytes}
use Rattle.pci_spec.specs.Listing.{bar_line}
use Rattle.pci_image.specs.Bars.{decoded_bar_of}
use Rattle.pci_listing.proofs.listing.function.push_bars.Given as goal

abbrev pub invariant-loop-bar : goal.invariant-loop-bar
invariant-loop-bar g l = string_bytes l.text ≡ string_bytes l.initial.text ++ flat_map bar_line (map decoded_bar_of (take l.bar-index l.bars))
