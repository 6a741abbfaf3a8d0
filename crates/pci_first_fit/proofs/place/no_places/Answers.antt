use Rattle.std.proofs.Common.{arith, ap, length}
use Rattle.pci_first_fit.proofs.Placeless.{placeless_first, placeless_more}
use Rattle.pci_first_fit.proofs.place.no_places.Goals as goal

pub loop-init : goal.loop-init
loop-init g c = record { count = ap length c.new-table.ensures.items; none = placeless_first _ c.new-table.ensures.items }

pub loop-preserved : goal.loop-preserved
loop-preserved g c = record {
  count = grind (arith, c.loop.invariant.count, c.in_ok-push.ensures.items);
  none = placeless_more _ _ c.loop.invariant.none c.in_ok-push.ensures.items;
}
