use Rattle.pci_spec.specs.System.{Function}
use Rattle.pci_faults.proofs.OfDecoding.{decoding_lines}
use Rattle.pci_faults.proofs.registers.decoding_faults.Goals as goal

pub returns : goal.returns
returns c none =
    let f : Function = record { slot = c.args.slot; image = c.args.image.now.0; probe = c.args.probe.now.0 } in
    rw (c.window_fault.ensures, c.window_fault-2.ensures, c.window_fault-3.ensures)
    (decoding_lines f c.register_fault.result c.register_fault-2.result c.register_fault-3.result c.register_fault-4.result c.register_fault-5.result c.register_fault-6.result c.rom_fault.result
    c.list_fault.result c.register_fault.ensures c.register_fault-2.ensures c.register_fault-3.ensures c.register_fault-4.ensures c.register_fault-5.ensures c.register_fault-6.ensures
    (c.rom_fault.ensures none) c.list_fault.ensures)
