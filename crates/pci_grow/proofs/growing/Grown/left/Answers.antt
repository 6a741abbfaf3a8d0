use Rattle.pci_grow.specs.Growing.{grown_value}
use Rattle.pci_grow.proofs.TellsGrowing.{tells_growing}
use Rattle.pci_grow.proofs.growing.Grown.left.Goals as goal

pub returns-clause-tells : goal.returns-clause-tells
returns-clause-tells g c = λ q s system nested profile are.
    tells_growing q s system nested profile (grown_value c.args.self.now) are _ c.as_slice.ensures.value c.as_slice-2.ensures.value c.as_slice-3.ensures.value
