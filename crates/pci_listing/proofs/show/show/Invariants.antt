use Rattle.std.proofs.Common.{◌≡◌, take}
use Rattle.std.specs.List.{All}
use Rattle.std.specs.String.{string_bytes}
use Rattle.pci_spec.specs.System.{system_of}
use Rattle.pci_spec.specs.Listing.{listing}
use Rattle.pci_listing.specs.Shows.{IsListable}
use Rattle.pci_listing.proofs.show.show.Given as goal

abbrev pub invariant-loop-i : goal.invariant-loop-i
invariant-loop-i g l = record {
  lines : string_bytes l.text ≡ listing (system_of (take l.i l.blocks) (take l.i l.probes));
  listable : All IsListable (take l.i (system_of l.blocks l.probes));
}
