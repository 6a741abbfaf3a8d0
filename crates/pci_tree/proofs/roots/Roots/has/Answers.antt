use Rattle.std.proofs.Common.{arith}
use Rattle.pci_tree.proofs.RootLists.{in_set_to, in_set_from}
use Rattle.pci_tree.proofs.roots.Roots.has.Goals as goal

pub returns : goal.returns
returns c = (λ h. in_set_from _ _ (omega arith) h, λ h. in_set_to _ _ h)
