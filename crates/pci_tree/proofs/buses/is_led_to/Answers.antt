use Rattle.std.proofs.Common.{None, get_or, sym, subst, arith}
use Rattle.std.specs.Prelude.{◌↔◌, IsTrue}
use Rattle.std.proofs.lemmas.Bool.{iff_false}
use Rattle.pci_tree.specs.Roots.{buses_of}
use Rattle.pci_tree.specs.BusNumbers.{IsLedTo}
use Rattle.pci_tree.proofs.Misplacing.{led_by}
use Rattle.pci_tree.proofs.buses.is_led_to.Goals as goal

pub returns-else-has : goal.returns-else-has
returns-else-has c records ends =
    subst (λ b. IsTrue b ↔ IsLedTo (buses_of c.args.roots.now) records c.args.bus) (sym c.has_upstream_bridge.ensures)
    (led_by (buses_of c.args.roots.now) records c.args.bus (get_or c.args.ends.now c.args.bus None) (ends c.args.bus (omega arith))
    (λ root. iff_false c.has.ensures c.if-has.false root))
