use Rattle.std.proofs.Common.{subst, sym, arith}
use Rattle.std.specs.Prelude.{◌↔◌, IsTrue}
use Rattle.std.proofs.lemmas.Bool.{iff_false}
use Rattle.pci_tree.specs.Roots.{buses_of}
use Rattle.pci_tree.specs.BusNumbers.{IsLedTo}
use Rattle.pci_tree.proofs.Leaders.{led_by_bridge}
use Rattle.pci_tree.proofs.path.is_led_to.Goals as goal

pub returns-else-has : goal.returns-else-has
returns-else-has c records table =
    subst (λ b. IsTrue b ↔ IsLedTo (buses_of c.args.roots.now) records c.args.bus) (sym c.is_some.ensures)
    (led_by_bridge (buses_of c.args.roots.now) records c.args.bus _ (table c.args.bus (omega arith)) (λ root. iff_false c.has.ensures c.if-has.false root))
