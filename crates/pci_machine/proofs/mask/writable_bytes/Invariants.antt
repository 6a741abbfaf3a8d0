use Rattle.std.proofs.Common.{take}
use Rattle.std.specs.List.{flat_map}
use Rattle.pci_spec.specs.Number.{IsImage}
use Rattle.pci_spec.specs.Machine.{in_fields, fields_of}
use Rattle.pci_image.specs.Registers.{role_value}
use Rattle.pci_machine.specs.Masks.{HasBits}
use Rattle.pci_machine.proofs.mask.writable_bytes.Given as goal

abbrev pub invariant-loop-register : goal.invariant-loop-register
invariant-loop-register l = record {
  image : IsImage l.bytes;
  bits : HasBits l.bytes (in_fields (flat_map (λ r. fields_of l.probe.0 r.offset r.width (role_value r.role)) (take l.register-index l.register-items)));
}
