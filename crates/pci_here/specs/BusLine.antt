-- A line of `/proc/ioports` or `/proc/iomem` that tells of a bus.
use Rattle.std.specs.Prelude.{◌≡◌, List, ◌++◌, ℕ, codes, replicate}
use Rattle.pciplan_lists.specs.PoolWords.{IsPoolWord}
use Rattle.pci_here.specs.Bus.{IsBusName}
use Rattle.pci_here.specs.declared.bus_line.BusRange.{BusRange}

-- blanks, `F-L`, ` : PCI Bus ` and the bus's name
pub record IsBusLine (line : List ℕ) (r : BusRange) : Type 0 where
  pub blanks : ℕ
  pub addresses : List ℕ
  pub name : List ℕ
  pub is_range : IsPoolWord addresses r.range
  pub is_bus : IsBusName name r.bus
  pub text : line ≡ replicate blanks 32 ++ (addresses ++ (codes " : PCI Bus " ++ name))
