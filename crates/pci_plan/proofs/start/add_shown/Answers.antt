use Rattle.std.proofs.Common.{◌∙◌, ap}
use Rattle.pci_spec.specs.Header.{layout, registers_by}
use Rattle.pci_image.specs.declared.register.Register.{Register}
use Rattle.pci_image.specs.declared.register.Role.TheVariants as roles
use Rattle.pci_plan.proofs.WriteLists.{register_access}
use Rattle.pci_plan.proofs.start.add_shown.Goals as goal

abbrev none : Register
none = record { offset = 0; width = 0; role = roles.Bar 0 }

pub number-requires-in-loop-register : goal.number-requires-in-loop-register
number-requires-in-loop-register g c =
    let image = c.block.inside.image.0 in
    let table = c.address_registers-register-items.ensures.places ∙ ap registers_by c.or_device.ensures in
    register_access c.address_registers-register-items.result.now (layout image) table c.loop-register.register-index none c.loop-register-test.true
