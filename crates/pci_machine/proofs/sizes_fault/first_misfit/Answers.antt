use Rattle.std.proofs.Common.{arith}
use Rattle.pci_spec.specs.Form.{Fixed}
use Rattle.pci_spec.specs.SizesForm.{sizes_cells}
use Rattle.pci_spec.proofs.Cells.{fits_more}
use Rattle.pci_spec.proofs.SizesTexts.{cells_long}
use Rattle.pci_machine.proofs.sizes_fault.first_misfit.Goals as goal

pub loop-place-preserved : goal.loop-place-preserved
loop-place-preserved c =
    let long = cells_long in
    let few = c.requires in
    let end = c.loop-place.auto.place-end in
    fits_more c.loop-place.place sizes_cells c.args.bytes.now (Fixed 0) (omega (arith, long, few, end)) (omega (arith, end)) c.loop-place.invariant (c.goes_in.ensures.0 c.if-not-goes_in.false)
