use Rattle.std.proofs.Common.{sym, ap, cond}
use Rattle.pci_tree.specs.Roots.{buses_of}
use Rattle.pci_spec.specs.Bus.{is_root}
use Rattle.std.proofs.lemmas.Bool.{both_ways, false_from_ne_true}
use Rattle.pci_spec.proofs.BusRanges.{root_means}
use Rattle.pci_place.proofs.item.group_of.Goals as goal

pub returns-then-has : goal.returns-then-has
returns-then-has c =
    sym (ap (λ b. cond b 0 c.args.bus) ((root_means (buses_of c.args.roots.now) c.args.bus).1 (c.has.ensures.0 c.if-has.true)))

pub returns-else-has : goal.returns-else-has
returns-else-has c =
    sym (ap (λ b. cond b 0 c.args.bus)
    (false_from_ne_true (is_root (buses_of c.args.roots.now) c.args.bus) (λ root. both_ways c.has.result c.if-has.false (c.has.ensures.1 ((root_means (buses_of c.args.roots.now) c.args.bus).0 root)))))
