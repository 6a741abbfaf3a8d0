use Rattle.pci_spec.specs.System.{Function}
use Rattle.pci_faults.proofs.OfIdentity.{identity_line}
use Rattle.pci_faults.proofs.identity.identity_faults.Goals as goal

pub returns : goal.returns
returns c =
    let f : Function = record { slot = c.args.slot; image = c.args.image.now.0; probe = c.args.probe.now.0 } in
    identity_line f c.identity_fault.result c.identity_fault.ensures.fault c.identity_fault.ensures.first
