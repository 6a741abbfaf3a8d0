use Rattle.std.proofs.Common.{subst}
use Rattle.std.specs.Prelude.{◌↔◌, IsTrue}
use Rattle.pci_base.specs.Space.{space_of}
use Rattle.pci_tree.specs.Ranges.{Covers}
use Rattle.pci_map.specs.Addresses.{ranges_in}
use Rattle.pci_map.specs.Windows.{BridgeWindows}
use Rattle.pci_map.proofs.left.Windows.has_taken.Goals as goal

pub returns : goal.returns
returns g c = subst (λ (w : BridgeWindows). IsTrue c.has.result ↔ Covers (ranges_in (space_of c.args.space) w.takes) c.args.address) c.self.view_is c.has.ensures
