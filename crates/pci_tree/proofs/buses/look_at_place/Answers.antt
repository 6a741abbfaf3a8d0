use Rattle.std.proofs.Common.{subst}
use Rattle.std.specs.Prelude.{◌↔◌, IsTrue}
use Rattle.pci_tree.specs.Roots.{buses_of}
use Rattle.pci_tree.specs.BusNumbers.{IsNotLone, IsLedTo}
use Rattle.pci_tree.proofs.Misplacing.{fails}
use Rattle.pci_tree.proofs.buses.look_at_place.Goals as goal

pub returns : goal.returns
returns c =
    let roots = buses_of c.args.roots.now in
    let records = c.args.records.now in
    record {
      lone = fails (IsNotLone records c.args.function.now.slot) c.is_not_lone.result c.is_not_lone.ensures;
      orphan = fails (IsLedTo roots records c.args.function.now.slot.bus) c.is_led_to.result
          (subst (λ n. IsTrue c.is_led_to.result ↔ IsLedTo roots records n) c.bus.ensures (c.is_led_to.ensures records c.requires.ends));
      bus_range = c.has_unlawful_buses.ensures;
    }
