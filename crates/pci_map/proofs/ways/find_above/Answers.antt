use Rattle.std.proofs.lemmas.Bool.{both_ways}
use Rattle.std.proofs.Common.{arith, ap, get_or}
use Rattle.pci_tree.specs.Roots.{buses_of}
use Rattle.pci_tree.proofs.Ways.{no_bridge, some_bridge}
use Rattle.pci_map.proofs.Ups.{not_led, bridge_above}
use Rattle.pci_map.proofs.ways.find_above.Goals as goal

pub returns-then-has : goal.returns-then-has
returns-then-has c = λ s has nested. c.has.ensures.0 c.if-has.true

pub returns-in-None : goal.returns-in-None
returns-in-None c = λ s has nested. record {
  off_root = λ root. both_ways _ c.if-has.false (c.has.ensures.1 root);
  none = not_led (buses_of c.args.roots.now) s c.args.records.now has c.args.bus (no_bridge c.args.records.now c.args.bus _ c.in-None.is (c.requires c.args.bus (omega arith)));
}

pub returns-in-Some : goal.returns-in-Some
returns-in-Some c = λ s has nested.
    bridge_above (buses_of c.args.roots.now) s c.args.records.now has c.args.bus nested (λ root. both_ways _ c.if-has.false (c.has.ensures.1 root))
    c.in-Some.index (get_or c.args.records.now c.in-Some.index c.index-records-index.result) (some_bridge c.args.records.now c.args.bus _ c.in-Some.index c.in-Some.is (c.requires c.args.bus (omega arith)))
    (ap (get_or c.args.records.now c.in-Some.index) c.index-records-index.is)
