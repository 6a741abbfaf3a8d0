use Rattle.std.proofs.Common.{sym, subst}
use Rattle.pci_kept.specs.Taken.{AreApartInOrder, IsGap}
use Rattle.pci_kept.proofs.Taking.{free, apart_new}
use Rattle.pci_kept.proofs.taken.take_in.Goals as goal

pub returns-clause-free : goal.returns-clause-free
returns-clause-free g c =
    sym (free c.args.taken.now.items c.args.range c.requires.order c.in-Some.index
    (subst (λ xs. IsGap xs c.args.range c.in-Some.index) c.as_slice.ensures.value c.in-Some.ensures.some))

pub returns-clause-order : goal.returns-clause-order
returns-clause-order g c =
    subst AreApartInOrder (sym c.in_ok-insert.ensures.items)
    (apart_new c.args.taken.now.items c.args.range c.requires.order c.in-Some.index
    (subst (λ xs. IsGap xs c.args.range c.in-Some.index) c.as_slice.ensures.value c.in-Some.ensures.some) c.requires.forward)
