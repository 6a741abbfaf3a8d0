use Rattle.std.proofs.Common.{ap, sym, ◌∙◌}
use Rattle.pci_first_fit.specs.Spots.{spot_place}
use Rattle.pci_grow.proofs.Searches.{no_last}
use Rattle.pci_grow.proofs.around.Search.last_before.Goals as goal

pub returns-in_err-from-clause-place : goal.returns-in_err-from-clause-place
returns-in_err-from-clause-place c =
    ap spot_place c.from_residual-in_err-from.ensures
    ∙ sym (no_last _ _ _ _ c.requires.search.extent c.in_err-from.was c.requires.search.last)
