use Rattle.std.proofs.Common.{arith}
use Rattle.pci_spec.specs.Machine.{fields_of}
use Rattle.pci_image.specs.declared.register.Register.{Register}
use Rattle.pci_image.specs.declared.register.Role.TheVariants.{Bar}
use Rattle.pci_image.specs.Registers.{role_value}
use Rattle.pci_machine.proofs.MaskBits.{IsImage-zeros, no_bits, bits_more, bits_of_all}
use Rattle.pci_machine.proofs.mask.writable_bytes.Goals as goal

abbrev none : Register
none = record { offset = 0; width = 0; role = Bar 0 }

pub loop-register-init : goal.loop-register-init
loop-register-init c = record { image = IsImage-zeros; bits = no_bits }

pub loop-register-preserved : goal.loop-register-preserved
loop-register-preserved c = record {
  image = c.add_register.ensures.image;
  bits = bits_more (λ r. fields_of c.args.probe.now.0 r.offset r.width (role_value r.role)) c.registers-register-items.result.now c.loop-register.register-index none
      c.loop-register.bytes c.add_register.new.bytes c.loop-register-test.true c.loop-register.invariant.bits c.add_register.ensures.added;
}

pub returns-clause-bits : goal.returns-clause-bits
returns-clause-bits c =
    let items = c.registers-register-items in
    bits_of_all (λ r. fields_of c.args.probe.now.0 r.offset r.width r.role) items.result.now _ c.loop-register.register-index c.loop-register.bytes items.ensures.table
    (let past = c.loop-register-test.false in omega (arith, past)) c.loop-register.invariant.bits
