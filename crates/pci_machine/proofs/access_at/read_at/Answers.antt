use Rattle.std.proofs.Common.{◌≡◌, ◌∙◌, ap, sym, subst}
use Rattle.pci_spec.specs.Number.{number_at}
use Rattle.pci_spec.specs.Machine.{Target}
use Rattle.pci_spec.specs.Port.{IsLawful, fits}
use Rattle.pci_spec.specs.Sizing.{function_at}
use Rattle.pci_machine.proofs.Sizing.{function_at-is, target-there, number-fits}
use Rattle.pci_machine.proofs.access_at.read_at.Goals as goal

pub returns-in-Ok-clause-fits : goal.returns-in-Ok-clause-fits
returns-in-Ok-clause-fits g c =
    let targets = g.P.ConfigPort.targets c.args.port.now in
    let lawful : IsLawful targets = subst IsLawful c.in-Ok.ensures.same c.in-Ok.ensures.lawful in
    let shown = c.in-Ok.ensures.value in
    let e : c.in-Ok.value ≡ number_at (function_at targets c.args.slot).image c.args.off c.args.width =
    shown.2 ∙ ap (λ (t : Target). number_at t.image c.args.off c.args.width) (sym (function_at-is targets c.args.slot shown.0 shown.1)) in
    ap (fits c.args.width) e
    ∙ number-fits (function_at targets c.args.slot).image c.args.off c.args.width (target-there targets c.args.slot lawful c.requires.there).image c.requires.lawful
