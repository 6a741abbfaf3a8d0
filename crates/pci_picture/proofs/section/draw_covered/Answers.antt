use Rattle.std.proofs.Common.{[]}
use Rattle.pci_picture.proofs.Boxes.{none_ok, then_ok}
use Rattle.pci_picture.proofs.section.draw_covered.Goals as goal

pub returns : goal.returns
returns g c = record {
  adds = then_ok c.add_tick.result [] _ _ _ c.in_ok-add_axis.ensures.adds c.add_tick.ensures.adds;
  writes = none_ok c.add_tick.result c.args.canvas.now c.add_axis.new.self c.add_tick.new.self c.in_ok-add_axis.ensures.writes c.add_tick.ensures.writes;
}
