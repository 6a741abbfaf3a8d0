use Rattle.std.proofs.Common.{refl}
use Rattle.pci_tree.specs.Roots.{set_in}
use Rattle.pci_tree.proofs.roots.Roots.host.Goals as goal

pub returns : goal.returns
unfolding set_in
returns c = refl
