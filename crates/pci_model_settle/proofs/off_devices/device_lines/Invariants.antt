use Rattle.std.proofs.Common.{◌≡◌, map, take}
use Rattle.pci_function.specs.Values.{record_value}
use Rattle.pci_model_settle.specs.LineValues.{line_value}
use Rattle.pci_model_settle.specs.OffDevices.{lines_of_all}
use Rattle.pci_model_settle.proofs.off_devices.device_lines.Given as goal

abbrev pub invariant-loop-record : goal.invariant-loop-record
invariant-loop-record g l = map line_value l.out.items ≡ lines_of_all l.slots (map record_value (take l.record-index l.record-items))
