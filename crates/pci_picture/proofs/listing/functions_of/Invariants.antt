use Rattle.std.proofs.Common.{◌≡◌, fold, length}
use Rattle.std.specs.List.{slice_split}
use Rattle.pci_picture.specs.Lines.{is_feed}
use Rattle.pci_picture.specs.Listings.{functions_listed, list_line}
use Rattle.pci_picture.specs.Roots.{listed_functions}
use Rattle.pci_picture.proofs.listing.functions_of.Given as goal

abbrev pub invariant-loop-rest : goal.invariant-loop-rest
invariant-loop-rest g l = fold list_line (listed_functions l.functions.items) (slice_split is_feed l.rest) ≡ functions_listed l.show

abbrev pub decreases-loop-rest : goal.decreases-loop-rest
decreases-loop-rest g l = length l.rest
