use Rattle.std.proofs.Common.{arith, ◌-◌}
use Rattle.pci_why.proofs.Gaps.{between_pushed, held_between}
use Rattle.pci_why.proofs.missed.add_between.Goals as goal

pub returns-in_ok-push : goal.returns-in_ok-push
returns-in_ok-push g c =
    between_pushed c.args.range (record { first = c.max-first.result; last = c.min-end.result - 1 }) c.args.from c.args.end c.args.out.now.items c.push.new.self.items
    c.requires.canonical c.requires.below c.in_ok-push.ensures.items (omega (arith, c.if-first-end.true))
    (λ a. held_between c.args.range c.args.from c.args.end c.from.result c.from-2.result c.max-first.result c.min-end.result a
    c.from.ensures c.from-2.ensures c.max-first.ensures c.min-end.ensures c.if-first-end.true)
