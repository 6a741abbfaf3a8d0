-- The writes of a plan as C has them, where no array has room for them.
use Rattle.std.proofs.Common.{◌≡◌, List, [], ◌∷◌, map, refl, ap}
use Rattle.pci_plan.specs.Writes.{write_value}
use Rattle.pci_plan.specs.declared.write.Write.{Write}
use Rattle.pciplan_c.specs.RegisterWrites.{write_value_of}
use Rattle.pciplan_c.specs.declared.register_write.RegisterWrite.{RegisterWrite}

abbrev pub write_of_c : Write → RegisterWrite
write_of_c w = record {
  bus = w.slot.bus;
  device = w.slot.device;
  function = w.slot.function;
  offset = w.off;
  width = w.width;
  value = w.value;
}

pub writes_as_planned : (writes : List Write) → map write_value_of (map write_of_c writes) ≡ map write_value writes
writes_as_planned [] = refl
writes_as_planned (w ∷ writes) = ap (λ rest. write_value w ∷ rest) (writes_as_planned writes)
