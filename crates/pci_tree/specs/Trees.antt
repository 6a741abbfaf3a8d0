-- The systems that an outline stands for.
use Rattle.pci_spec.specs.System.{System, IsSystem}
use Rattle.pci_spec.specs.Decoded.{HasRecords}
use Rattle.pci_tree.specs.Outline.{Tree}

-- the system has these records
pub record HasTree (t : Tree) (s : System) : Type 0 where
  pub system : IsSystem s
  pub records : HasRecords s t.records
