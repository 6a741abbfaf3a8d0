use Rattle.std.proofs.Common.{map, sym, ◌∙◌, ap}
use Rattle.std.proofs.lemmas.List.{take_all}
use Rattle.pci_function.specs.Values.{record_value}
use Rattle.pci_spec.specs.System.{system_of}
use Rattle.pci_model_settle.specs.OffDevices.{lines_of_all}
use Rattle.pci_model_settle.proofs.DeviceLines.{told_devices}
use Rattle.pci_model_settle.proofs.off_devices.device_lines.Goals as goal

pub returns-clause-told : goal.returns-clause-told
returns-clause-told g c =
    let slots = c.args.slots.now in
    let records = c.records-record-items.result.now in
    told_devices slots (system_of c.args.admitted.now.dump c.args.admitted.now.probe) records c.loop-record.out.items c.outline.ensures.admitted.system
    (c.outline.ensures.records.same ∙ sym c.records-record-items.ensures.value) c.records-record-items.ensures.lawful c.records-record-items.ensures.rising
    (c.loop-record.invariant ∙ ap (λ rs. lines_of_all slots (map record_value rs)) (take_all c.loop-record.record-index records c.loop-record-test.false))
