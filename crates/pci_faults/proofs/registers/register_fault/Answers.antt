use Rattle.std.proofs.Common.{◌<◌, arith, sym, subst}
use Rattle.pci_spec.specs.Header.{bar_count, layout}
use Rattle.pci_faults.specs.Registers.{IsBarTold}
use Rattle.pci_faults.proofs.OfRegisters.{bar_told}
use Rattle.pci_faults.proofs.registers.register_fault.Goals as goal

pub returns-in-Some : goal.returns-in-Some
returns-in-Some c =
    let below : c.args.n < bar_count (layout c.args.image.now.0) = omega (arith, c.if-count-n.false, c.requires.count) in
    subst (IsBarTold c.args.slot c.args.image.now.0 c.args.probe.now.0 c.args.n) (sym c.of_image.ensures)
    (bar_told c.args.slot c.args.image.now.0 c.args.probe.now.0 c.args.n c.in-Some.fault below c.in-Some.ensures)
