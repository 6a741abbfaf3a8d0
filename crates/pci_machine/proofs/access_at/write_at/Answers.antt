use Rattle.std.proofs.Common.{◌∙◌, ap}
use Rattle.pci_spec.specs.Port.{has_function}
use Rattle.pci_spec.specs.Sizing.{function_at}
use Rattle.pci_spec.specs.Machine.{written}
use Rattle.pci_machine.proofs.Sizing.{write-function, function_at-with_image, has_function-with_image}
use Rattle.pci_machine.proofs.access_at.write_at.Goals as goal

pub returns-in-Ok-clause-written : goal.returns-in-Ok-clause-written
returns-in-Ok-clause-written g c =
    c.in-Ok.ensures.written
    ∙ write-function (g.P.ConfigPort.targets c.args.port.now) c.args.slot c.args.off c.args.width c.args.value c.requires.targets c.requires.there

pub returns-in-Ok-clause-function : goal.returns-in-Ok-clause-function
returns-in-Ok-clause-function g c =
    let targets = g.P.ConfigPort.targets c.args.port.now in
    ap (λ xs. function_at xs c.args.slot) (returns-in-Ok-clause-written g c)
    ∙ function_at-with_image targets c.args.slot (written (function_at targets c.args.slot) c.args.off c.args.width c.args.value) c.requires.there

pub returns-in-Ok-clause-there : goal.returns-in-Ok-clause-there
returns-in-Ok-clause-there g c =
    let targets = g.P.ConfigPort.targets c.args.port.now in
    ap (λ xs. has_function xs c.args.slot) (returns-in-Ok-clause-written g c)
    ∙ has_function-with_image targets c.args.slot (written (function_at targets c.args.slot) c.args.off c.args.width c.args.value) c.requires.there
