use Rattle.pci_tree.proofs.Pairings.{path_of_pair}
use Rattle.pci_tree.proofs.admitted.Admitted.path.Goals as goal

pub returns : goal.returns
returns g c =
    path_of_pair (λ v. v.items) _ c.args.self.now.roots _ c.args.self.now.dump c.args.self.now.probe c.args.slot c.path.result c.outline.ensures.admitted.slots c.outline.ensures.roots c.outline.ensures.records c.path.ensures
