use Rattle.pci_picture.proofs.Boxes.{unchanged, then_draws}
use Rattle.pci_picture.proofs.section.draw_tellings.Goals as goal

pub loop-range-init : goal.loop-range-init
loop-range-init g c = unchanged c.args.canvas.now

pub loop-range-preserved : goal.loop-range-preserved
loop-range-preserved g c = then_draws _ _ _ _ c.loop-range.invariant c.in_ok-draw_shared.ensures

pub loop-fit-init : goal.loop-fit-init
loop-fit-init g c = unchanged c.loop-range.canvas

pub loop-fit-preserved : goal.loop-fit-preserved
loop-fit-preserved g c = then_draws _ _ _ _ c.loop-fit.invariant c.in_ok-draw_fits.ensures

pub returns : goal.returns
returns g c = then_draws _ _ _ _ c.loop-range.invariant c.loop-fit.invariant
