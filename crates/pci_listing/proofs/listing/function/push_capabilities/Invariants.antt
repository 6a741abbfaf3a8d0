use Rattle.std.proofs.Common.{◌≡◌, ◌++◌, map, take}
use Rattle.std.specs.List.{flat_map}
use Rattle.std.specs.String.{string_bytes}
use Rattle.pci_spec.specs.Listing.{capability_line}
use Rattle.pci_image.specs.Caps.{place_of}
use Rattle.pci_listing.proofs.listing.function.push_capabilities.Given as goal

abbrev pub invariant-loop-cap : goal.invariant-loop-cap
invariant-loop-cap g l = string_bytes l.text ≡ string_bytes l.initial.text ++ flat_map (capability_line l.image.0) (map place_of (take l.cap-index l.caps))
