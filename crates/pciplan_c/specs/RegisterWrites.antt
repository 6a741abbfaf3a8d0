-- Writes in an array of C's.
use Rattle.std.specs.Prelude.{◌≡◌, ℕ, List, length, map}
use Rattle.pci_spec.specs.Machine as spec
use Rattle.pci_plan.specs.Writes.{write_value}
use Rattle.pci_plan.specs.declared.write.Write.{Write}
use Rattle.pciplan_c.specs.Puts.{IsPutInto}
use Rattle.pciplan_c.specs.declared.register_write.RegisterWrite.{RegisterWrite}

-- a write as C has it
abbrev pub write_value_of : RegisterWrite → spec.Write
write_value_of w =
    record {
      slot = record { bus = w.bus; device = w.device; function = w.function };
      offset = w.offset;
      width = w.width;
      value = w.value;
    }

-- they stand at its front, and the rest is as it was
pub record AreWritesPut (writes : List Write) (old new : List RegisterWrite)
    (count : ℕ) : Type 0 where
  pub items : List RegisterWrite
  pub are : map write_value_of items ≡ map write_value writes
  pub put : IsPutInto old new items
  pub number : count ≡ length items
