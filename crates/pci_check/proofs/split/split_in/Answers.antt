use Rattle.std.proofs.Common.{[], ◌∷◌}
use Rattle.pci_base.specs.Space.{space_of}
use Rattle.pci_check.proofs.Splitting.{none_split, split_fault, whole_space}
use Rattle.pci_check.proofs.split.split_in.Goals as goal

pub returns-in-None : goal.returns-in-None
returns-in-None g c =
    none_split c.args.outline.now (space_of c.args.space) c.in_ok-regions.regions.items (c.whole.result ∷ []) c.in_ok-regions.ensures
    (whole_space (space_of c.args.space) c.whole.result c.whole.ensures.exact) (rw c.in-None.is at c.first_overlap.ensures)

pub returns : goal.returns
returns g c =
    split_fault c.args.outline.now (space_of c.args.space) c.in_ok-regions.regions.items (c.whole.result ∷ []) c.in_ok-regions.ensures
    (whole_space (space_of c.args.space) c.whole.result c.whole.ensures.exact)
    c.in-Some.field-0.address c.in-Some.field-0.first c.in-Some.field-0.second (rw c.in-Some.is at c.first_overlap.ensures)
