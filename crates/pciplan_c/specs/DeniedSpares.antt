-- Windows whose spares have no room in an array of C's.
use Rattle.std.specs.Prelude.{◌≡◌, ℕ, List, length, map}
use Rattle.pci_spec.specs.Slot.{Slot}
use Rattle.pci_settle.specs.Denied.{denied_value}
use Rattle.pci_settle.specs.declared.settle.Denied.{Denied}
use Rattle.pciplan_c.specs.Puts.{IsPutInto}
use Rattle.pciplan_c.specs.declared.denied_spare.DeniedSpare.{DeniedSpare}

-- a window as C has it
abbrev pub denied_value_of : DeniedSpare → Slot × ℕ
denied_value_of d = (record { bus = d.bus; device = d.device; function = d.function }, d.offset)

-- they stand at its front, and the rest is as it was
pub record AreDeniedPut (denied : List Denied) (old new : List DeniedSpare) (count : ℕ) : Type 0 where
  pub items : List DeniedSpare
  pub are : map denied_value_of items ≡ map denied_value denied
  pub put : IsPutInto old new items
  pub number : count ≡ length items
