use Rattle.std.proofs.Common.{◌∙◌, ap, get_or}
use Rattle.pci_spec.specs.Number.{number_at}
use Rattle.pci_spec.specs.Machine.{Target}
use Rattle.pci_machine.proofs.Memory.{at_index}
use Rattle.pci_machine.proofs.machine.MachineConfigPort.read.Goals as goal

pub returns-clause-value : goal.returns-clause-value
returns-clause-value g c =
    let found = c.in-Some.ensures.found in
    let r = c.index-registers.result.now in (
      found.0,
      found.2,
      c.number.ensures ∙ ap (λ (t : Target). number_at t.image c.args.off c.args.width)
          (at_index c.args.self.now c.in-Some.index found.0 r found.1 (c.index-registers.ensures ∙ ap (λ xs. get_or xs c.in-Some.index r) c.self.view_is)),
    )
