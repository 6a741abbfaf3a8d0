use Rattle.std.proofs.Common.{◌≡◌, fold, length}
use Rattle.std.specs.List.{slice_split}
use Rattle.std.specs.List.Sorted.{IsNonDecreasingBy}
use Rattle.pci_picture.specs.Lines.{is_feed}
use Rattle.pci_picture.specs.Named.{title_from_line, with_titles}
use Rattle.pci_picture.specs.Roots.{listed_functions}
use Rattle.pci_picture.proofs.listing.give_titles.Given as goal

abbrev pub invariant-loop-rest : goal.invariant-loop-rest
invariant-loop-rest l = record {
  given : fold title_from_line (listed_functions l.functions) (slice_split is_feed l.rest) ≡ with_titles l.titles (listed_functions l.initial.functions);
  rise : IsNonDecreasingBy (λ function. function.slot) (listed_functions l.functions);
}

abbrev pub decreases-loop-rest : goal.decreases-loop-rest
decreases-loop-rest l = length l.rest
