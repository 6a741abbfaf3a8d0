use Rattle.pci_spec.specs.System.{Function}
use Rattle.pci_faults.proofs.OfProfile.{list_ended}
use Rattle.pci_faults.proofs.profile.is_asleep.Goals as goal

pub returns-in-Err : goal.returns-in-Err
returns-in-Err c slot probe none =
    let f : Function = record { slot = slot; image = c.args.image.now.0; probe = probe } in
    absurd (list_ended f c.in-Err.field-0 none c.in-Err.ensures.fault)
